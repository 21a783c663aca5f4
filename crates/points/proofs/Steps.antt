-- The steps of the walk along the points and its answer, as the code makes them.
use mathlib.Core.Path.{◌≡◌, sym, ◌∙◌}
use mathlib.Core.Bool.{Bool, true, false, ◌&&◌}
use mathlib.Core.List.{List}
use Prim.Native.Nat.{ℕ, ◌≤◌, ◌<◌}
use borrow.Author.Tests.{lt-ltb, le-ltb, ne_eqb}
use lib.IntN.{ℤ, pos}
use Rattle.rules.specs.Numbers.{or_zero}
use Rattle.rules.specs.Archive.{link_at, field_at, twos}
use Rattle.rules.specs.Terms.{Point, point_of, point_allowed, is_speed, is_curve_power}
use Rattle.rules.proofs.Ranges.{within_natural}
use Rattle.rules.proofs.Sound.{both}
use Rattle.curve.specs.Lines.{point}
use Rattle.points.specs.declared.PointsRead.{PointsRead}
use Rattle.points.specs.Steps.{Walk, walk, counted, with_next, with_not_rising, with_point, with_out_of_range, with_record}

-- ---- a point in range

module _ (a : Point) (p : PointsRead) (powers : List ℕ) where
  module _ (z : p.count ≡ 1 → ⊥) where
    pub is_next : p.last < a.speed → with_point a (walk p powers) ≡ with_next a p powers
    unfolding with_point
    is_next h = rw (ne_eqb p.count 1 z, lt-ltb p.last a.speed h)

    pub is_not_rising : a.speed ≤ p.last → with_point a (walk p powers) ≡ with_not_rising p powers
    unfolding with_point
    is_not_rising h = rw (ne_eqb p.count 1 z, le-ltb p.last a.speed h)

-- ---- a point, by its bytes

-- the word at 8, the power at 12, and the results of their tests
pub record Tested (r : List ℕ) (word : ℕ) (power : ℤ) (t u : Bool) : Type 0 where
  pub word_is : word ≡ link_at r 8
  pub power_is : power ≡ field_at r 12
  pub speed_test : t ≡ is_speed (twos word)
  pub power_test : u ≡ is_curve_power power

module _ {r : List ℕ} {word : ℕ} {power : ℤ} {t u : Bool} (x : Tested r word power t u) where
  allowed_is : (t && u) ≡ point_allowed r
  unfolding point_allowed field_at
  allowed_is = rw (x.speed_test, x.power_test, x.word_is, x.power_is)

  module _ (e : (t && u) ≡ true) where
    pub speed_tested : is_speed (twos word) ≡ true
    speed_tested = sym x.speed_test ∙ (both t u e).0

    pub power_tested : (power ≡ pos (or_zero power)) × (or_zero power ≤ 1000000000)
    power_tested = let w = within_natural 0 1000000000 power (sym x.power_test ∙ (both t u e).1) in (w.0, w.2)

    pub record_allowed : (speed watts : ℕ) (w v : Walk) → speed ≡ or_zero (twos word) → watts ≡ or_zero power
        → v ≡ with_point (point speed watts) (walk (counted w.read) w.powers) → v ≡ with_record r w
    unfolding with_record point_of field_at
    record_allowed speed watts w v g h i = i ∙ rw (sym allowed_is ∙ e, g, h, x.word_is, x.power_is)

  pub record_out : (t && u) ≡ false → (w : Walk) → with_out_of_range (counted w.read) w.powers ≡ with_record r w
  unfolding with_record
  record_out e w = rw (sym allowed_is ∙ e)
