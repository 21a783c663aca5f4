-- What the code takes from a marked before-quarter, by what it has read and tested.
use mathlib.Core.Path.{◌≡◌, refl, sym, ◌∙◌, subst}
use mathlib.Core.Bool.{Bool, true, false, not}
use mathlib.Core.List.{List}
use Prim.Native.Nat.{ℕ, ◌+◌, ◌*◌, ◌≤◌, ◌<◌}
use native.Mathlib.Omega.{arith}
use borrow.Author.Tests.{lt-ltb, le-ltb, eq-eqb, ne_eqb, not-true, not-false}
use lib.Dec.{T}
use lib.IntN.{ℤ, pos, sub_ℕ, ◌*ℤ◌}
use lib.Signed.{le_z, le_z_yes}
use Rattle.rules.specs.Outcome.{◌>>◌, require}
use Rattle.rules.specs.Numbers.{or_zero}
use Rattle.rules.specs.Archive.{link_at, field_at, twos}
use Rattle.rules.specs.Terms.{Point, is_power, is_speed, is_irradiance, before_of}
use Rattle.rules.specs.Reference.{curve_power}
use Rattle.rules.proofs.Ints.{under, parts_le, le_parts, sub_parts, or_zero_add}
use Rattle.rules.proofs.Bounds.{passes, ten_above, ten_under}
use Rattle.units.specs.declared.Watt.{Watt}
use Rattle.record.specs.Powers.{PowerOf}
use Rattle.curve.specs.declared.Curve.{Curve}
use Rattle.curve.specs.Tables.{Tabulates}
use Rattle.comparison.specs.declared.Purpose.{Purpose}
use Rattle.comparison.specs.declared.Purpose.TheVariants.{Four, First, All}
use Rattle.comparison.specs.declared.Sums.{Sums}
use Rattle.std.specs.Prelude.{Option, Some, None}
use Rattle.comparison.specs.Sums.{Choice, first_four, first_one, every_one, Means, Scaled, Ready}
use Rattle.comparison.specs.Sums.{plus, only_one, power_bias, raised, taken, added_answer, Room, RoomFor, Grown}

-- ---- raised powers

pub raised_is : (z : ℤ) (p : ℕ) → z ≡ sub_ℕ p power_bias → p ≡ raised z
raised_is z p e = rw e (omega (arith, or_zero_add (sub_ℕ p power_bias) (pos power_bias), sub_parts p power_bias))

-- the 10 % test, on the raised power
module _ (pn p : ℕ) (z : ℤ) (e : z ≡ sub_ℕ p power_bias) where
  parts : or_zero z + power_bias ≡ p + under z
  parts = rw e (sub_parts p power_bias)

  tenth : pn + 10000000000 ≤ 10 * p → le_z (pos pn) (pos 10 *ℤ z) ≡ true
  tenth h = passes (parts_le (pos pn) (pos 10 *ℤ z) (omega (arith, parts, ten_above z, ten_under z))).le

  no_tenth : 10 * p < pn + 10000000000 → le_z (pos pn) (pos 10 *ℤ z) ≡ false
  no_tenth h = go (le_z (pos pn) (pos 10 *ℤ z)) (λ t. le_parts {a = pos pn} {b = pos 10 *ℤ z} (le_z_yes t))
    where
      go : (t : Bool) → (T t → or_zero (pos pn) + under (pos 10 *ℤ z) ≤ or_zero (pos 10 *ℤ z) + under (pos pn)) → t ≡ false
      go true f = absurd (omega (arith, f tt, parts, ten_above z, ten_under z))
      go false f = refl

-- ---- room

pub grown_none : {s : Sums} → Room s → Grown s s
grown_none room = record { room = room; one = omega arith }

pub grown_one : {s t : Sums} {a b : ℕ} → t ≡ plus s a b → RoomFor s a b → Grown s t
grown_one e h =
    let r = h.room in
    rw e (record { room = record { few = omega arith; low_a = omega (arith, r.low_a); low_b = omega (arith, r.low_b) }; one = omega arith })

pub grown_only : (s : Sums) {a : ℕ} → a ≤ 2000000000 → Grown s (only_one a)
grown_only s h = record { room = record { few = omega arith; low_a = omega arith; low_b = omega arith }; one = omega arith }

-- ---- fields read

-- a test of the code that says what the rule book's does
module _ {b t : Bool} (says : b ≡ t) where
  pub met_test : not b ≡ false → t ≡ true
  met_test h = sym says ∙ not-false b h

  pub failed_test : not b ≡ true → t ≡ false
  failed_test h = sym says ∙ not-true b h

-- the measured power, in range, and raised to p
pub record Measured (r : List ℕ) (p : ℕ) : Type 0 where
  pub range : is_power (field_at r 8) ≡ true
  pub held : field_at r 8 ≡ sub_ℕ p power_bias

pub measured : {r : List ℕ} {m : Watt} → PowerOf (field_at r 8) (Some m) → (p : ℕ) → m.0 ≡ sub_ℕ p power_bias → Measured r p
measured is p e = record { range = is.0; held = sym is.1 ∙ e }

-- ---- taken

-- the answer for a choice
abbrev pub answer : Sums → List ℕ → Choice → Option Sums
answer s r choice = added_answer (taken choice s (before_of r))

module _ (s : Sums) (r : List ℕ) where
  pub four_full : (pn : ℕ) (points : List Point) → 4 ≤ s.used → Some s ≡ answer s r (first_four pn points)
  unfolding taken
  four_full pn points h = rw (le-ltb s.used 4 h)

  pub one_full : (s.used ≡ 0 → ⊥) → Some s ≡ answer s r first_one
  unfolding taken
  one_full z = rw (ne_eqb s.used 0 z)

  -- the measured power is out of range
  module _ (out : is_power (field_at r 8) ≡ false) where
    pub four_out : (pn : ℕ) (points : List Point) → s.used < 4 → None ≡ answer s r (first_four pn points)
    unfolding taken before_of require ◌>>◌
    four_out pn points h = rw (lt-ltb s.used 4 h, out)

    pub one_out : s.used ≡ 0 → None ≡ answer s r first_one
    unfolding taken before_of require ◌>>◌
    one_out z = rw (eq-eqb s.used 0 z, out)

    pub every_out : None ≡ answer s r every_one
    unfolding taken before_of require ◌>>◌
    every_out = rw out

  module _ {p : ℕ} (m : Measured r p) where
    as_raised : raised (field_at r 8) ≡ p
    as_raised = sym (raised_is (field_at r 8) p m.held)

    pub one_used : s.used ≡ 0 → Some (only_one p) ≡ answer s r first_one
    unfolding taken before_of require ◌>>◌
    one_used z = rw (eq-eqb s.used 0 z, m.range, as_raised)

    pub four_low : (pn : ℕ) (points : List Point) → s.used < 4 → 10 * p < pn + 10000000000 → Some s ≡ answer s r (first_four pn points)
    unfolding taken before_of require ◌>>◌
    four_low pn points few h = rw (lt-ltb s.used 4 few, m.range, no_tenth pn p (field_at r 8) m.held h)

    module _ {word : ℕ} (w : word ≡ link_at r 16) where
      pub every_weather : is_irradiance (twos word) ≡ false → None ≡ answer s r every_one
      unfolding taken before_of field_at require ◌>>◌
      every_weather out = rw (m.range, ← w, out)

      pub every_used : is_irradiance (twos word) ≡ true → {g : ℕ} {t : Sums} → g ≡ or_zero (twos word) → t ≡ plus s p g → Some t ≡ answer s r every_one
      unfolding taken before_of field_at require ◌>>◌
      every_used weather e f = rw (f, m.range, as_raised, ← w, weather, ← e)

      module _ (pn : ℕ) (points : List Point) (few : s.used < 4) (enough : pn + 10000000000 ≤ 10 * p) where
        pub four_weather : is_speed (twos word) ≡ false → None ≡ answer s r (first_four pn points)
        unfolding taken before_of field_at require ◌>>◌
        four_weather out = rw (lt-ltb s.used 4 few, m.range, tenth pn p (field_at r 8) m.held enough, ← w, out)

        pub four_used : is_speed (twos word) ≡ true → {speed power : ℕ} {t : Sums} → speed ≡ or_zero (twos word) → power ≡ curve_power points speed
            → t ≡ plus s p power → Some t ≡ answer s r (first_four pn points)
        unfolding taken before_of field_at require ◌>>◌
        four_used weather e f g =
            rw (g, lt-ltb s.used 4 few, m.range, tenth pn p (field_at r 8) m.held enough, as_raised, ← w, weather, ← e, ← f)

-- ---- by the purpose

pub scaled : {purpose : Purpose} {powers : List ℕ} {pn : Watt} {curve : Curve} → purpose ≡ Four pn curve → Ready purpose powers → Scaled pn powers
scaled {powers} e h = subst (λ p. Ready p powers) e h

module _ (purpose : Purpose) (powers : List ℕ) (s : Sums) (r : List ℕ) (t : Option Sums) where
  -- what is added from a marked before-quarter
  abbrev pub Adds : Type 0
  Adds = (choice : Choice) → Means purpose powers choice → t ≡ answer s r choice

  pub adds_four : (pn : Watt) (curve : Curve) → purpose ≡ Four pn curve
      → ((points : List Point) → Tabulates curve powers points → t ≡ answer s r (first_four (or_zero pn.0) points)) → Adds
  adds_four pn curve e h = rw e (λ choice m. rw m.is (h m.points m.tabulates))

  pub adds_first : purpose ≡ First → t ≡ answer s r first_one → Adds
  adds_first e h = rw e (λ choice m. rw m h)

  pub adds_all : purpose ≡ All → t ≡ answer s r every_one → Adds
  adds_all e h = rw e (λ choice m. rw m h)
