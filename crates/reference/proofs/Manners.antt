-- The month and the quarter of the day of a measure's quarters, from a quarter's own bytes or by its clock.
use mathlib.Core.Path.{◌≡◌, refl}
use mathlib.Core.Bool.{Bool, true, false, cond}
use mathlib.Core.List.{List}
use Prim.Native.Nat.{ℕ, ◌+◌, ◌-◌, ◌≤◌}
use native.Mathlib.Omega.{arith}
use borrow.Author.Tests.{ne_eqb, eqb-true}
use lib.Dec.{eqb}
use Rattle.rules.specs.Archive.{byte_at}
use Rattle.rules.specs.Terms.{Terms, number_at, month_of, quarter_of_day_of}
use Rattle.rules.proofs.Calendar.{quarter_few, is_date, day_some}
use Rattle.calendar.specs.declared.Clock.{Clock}
use Rattle.calendar.specs.Clocks.{clock_of}
use Rattle.units.specs.declared.Watt.{Watt}
use Rattle.reference.specs.declared.Reference.{Reference}
use Rattle.reference.specs.declared.Reference.TheVariants.{ByFactor}
use Rattle.reference.specs.declared.Manner.TheVariants.{Plain, ByDate}
use Rattle.reference.specs.Manners.{manner_of, Shows}

-- solar Pauschal that is walked plainly has no date
pub own_undated : {reference : Reference} {pn : Watt} (terms : Terms) → reference ≡ ByFactor pn → Plain ≡ manner_of reference terms → terms.first ≡ 0
own_undated {reference} {pn} terms told e = by (eqb terms.first 0) refl (rw told at e)
  where
    by : (t : Bool) → eqb terms.first 0 ≡ t → Plain ≡ cond t Plain (ByDate pn) → terms.first ≡ 0
    by true k i = eqb-true terms.first 0 k
    by false k i = let z : ◌≡◌ {A = ℕ} 0 1 = cc in absurd (omega arith)

module _ (terms : Terms) (index : ℕ) (r : List ℕ) where
  -- from the quarter's own bytes
  module _ (undated : terms.first ≡ 0) where
    pub own_month : byte_at r 1 ≡ month_of terms index r
    unfolding month_of
    own_month = rw undated

    pub own_quarter : byte_at r 2 ≡ quarter_of_day_of terms index r
    unfolding quarter_of_day_of
    own_quarter = rw undated

  -- by the clock
  module _ {clock : Clock} (h : Shows terms index clock) where
    pub clock_month : clock.date.month ≡ month_of terms index r
    unfolding clock_of month_of
    clock_month = rw (ne_eqb terms.first 0 (λ e. omega (arith, h.some)), h.is)

    pub clock_quarter : 96 - (clock.until - index) ≡ quarter_of_day_of terms index r
    unfolding clock_of quarter_of_day_of
    clock_quarter = rw (ne_eqb terms.first 0 (λ e. omega (arith, h.some)), h.is) (omega (arith, quarter_few (number_at terms index)))

-- the clock is in range: midnight is no more than a day away
module _ {terms : Terms} {index : ℕ} {clock : Clock} (h : Shows terms index clock) where
  pub clock_month_near : (1 ≤ clock.date.month) × (clock.date.month ≤ 12)
  unfolding clock_of
  clock_month_near = let d = is_date _ (day_some (number_at terms index)) in rw h.is (d.month_some, d.month_few)

  pub clock_near : (index + 1 ≤ clock.until) × (clock.until ≤ index + 96)
  unfolding clock_of
  clock_near = let q = quarter_few (number_at terms index) in rw h.is (omega (arith, q), omega (arith, q))
