-- A reading in a record, as the code tests and compares it, over plain variables.
use mathlib.Core.Path.{◌≡◌, refl, sym, ◌∙◌, ap, subst}
use mathlib.Core.Bool.{Bool, true, false, cond, not, ◌||◌, or-true, or-false}
use mathlib.Core.List.{List, [], ◌∷◌}
use Prim.Native.Nat.{ℕ, ◌≤◌}
use native.Mathlib.Omega.{arith}
use borrow.Author.Tests.{not-true, not-false, le-leb, eqb-true}
use lib.Dec.{eqb}
use lib.IntN.{ℤ, pos, negsuc}
use lib.Signed.{le_z, mag}
use Rattle.rules.specs.Numbers.{smaller}
use Rattle.rules.specs.Archive.{link_at, twos, field_at}
use Rattle.rules.specs.Terms.{is_power, Reading, none, of, reading_at}
use Rattle.rules.specs.October.{bounded_by, reading_allowed}
use Rattle.rules.proofs.Ints.{smaller_yes}
use Rattle.rules.proofs.Bounds.{smallest_small}
use Rattle.units.specs.declared.Watt.{Watt}
use Rattle.std.specs.Prelude.{Some, None}
use Rattle.record.specs.Powers.{SmallestOf}

-- none stands above every power in range
below_none : (n : ℤ) → mag n ≤ 1000000000 → le_z n (pos 2147483647) ≡ true
below_none (pos n) h = le-leb n 2147483647 (omega (arith, h))
below_none (negsuc n) h = refl

module _ (r : List ℕ) (at : ℕ) where
  -- the test, by whether there is a reading
  test_is : reading_allowed (reading_at r at) ≡ (is_power (field_at r at) || eqb (link_at r at) 2147483647)
  unfolding reading_at
  test_is = go (eqb (link_at r at) 2147483647)
    where
      go : (t : Bool) → reading_allowed (cond t none (of (field_at r at))) ≡ (is_power (field_at r at) || t)
      go true = sym (or-true (is_power (field_at r at)))
      go false = sym (or-false (is_power (field_at r at)))

  none_is : link_at r at ≡ 2147483647 → field_at r at ≡ pos 2147483647
  unfolding field_at twos
  none_is e = rw e

  -- the smaller of a power and the four bytes as they are
  bound_is : (n : ℤ) → mag n ≤ 1000000000 → bounded_by (reading_at r at) n ≡ smaller n (field_at r at)
  unfolding reading_at
  bound_is n h = go (eqb (link_at r at) 2147483647) refl
    where
      go : (t : Bool) → eqb (link_at r at) 2147483647 ≡ t → bounded_by (cond t none (of (field_at r at))) n ≡ smaller n (field_at r at)
      go true e = sym (ap (smaller n) (none_is (eqb-true (link_at r at) 2147483647 e)) ∙ smaller_yes n (pos 2147483647) (below_none n h))
      go false e = refl

  -- by the answer t of the code's test
  module _ {t : Bool} {word : ℕ} {p : Watt} (tested : t ≡ is_power p.0) (is : p.0 ≡ twos word) (read : word ≡ link_at r at) where
    field_is : p.0 ≡ field_at r at
    unfolding field_at
    field_is = is ∙ ap twos read

    allowed_is : (t || eqb word 2147483647) ≡ reading_allowed (reading_at r at)
    allowed_is = rw (tested, field_is, read) (sym test_is)

    pub bound_out_of_range : (a : Watt) → not (t || eqb word 2147483647) ≡ true → SmallestOf (reading_at r at ∷ []) a.0 None
    bound_out_of_range a e = rw (sym allowed_is ∙ not-true _ e)

    pub bound_in_range : (a n : Watt) → mag a.0 ≤ 1000000000 → n.0 ≡ smaller a.0 p.0 → not (t || eqb word 2147483647) ≡ false
        → SmallestOf (reading_at r at ∷ []) a.0 (Some n)
    bound_in_range a n h k e = (rw (sym allowed_is ∙ not-false _ e), k ∙ ap (smaller a.0) field_is ∙ sym (bound_is a.0 h))

-- ---- the smallest of a power and readings

-- it is a power
pub smallest_power : (rs : List Reading) (n : ℤ) {p : Watt} → mag n ≤ 1000000000 → SmallestOf rs n (Some p) → mag p.0 ≤ 1000000000
smallest_power rs n h k = subst (λ (z : ℤ). mag z ≤ 1000000000) (sym k.1) (smallest_small rs n h k.0)
