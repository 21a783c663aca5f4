-- The clock of a measure's quarters: the first one's, and along the measure.
use mathlib.Core.Path.{◌≡◌, sym, ◌∙◌, ap, ap₂}
use Prim.Native.Nat.{ℕ, ◌+◌, ◌-◌, ◌/◌, ◌%◌, ◌≤◌, ◌<◌, ◌^◌}
use native.Mathlib.Omega.{arith}
use borrow.Author.Tests.{lt-ltb, le-ltb}
use Rattle.rules.specs.Calendar.{date_of, day_of, quarter_of_day, day_after}
use Rattle.rules.specs.declared.Date.{Date}
use Rattle.rules.proofs.Calendar.{Order, before, same, behind, order, date_next, is_date, year_low, day_some, day_few, quarter_few, next_in_day, next_day}
use Rattle.calendar.specs.declared.Clock.{Clock}
use Rattle.calendar.specs.Clocks.{clock_of, clock_after, CanAdvance, Begins}

abbrev on : Date → ℕ → Clock
on date until = record { date = date; until = until }

-- ---- a quarter later

module _ (c : Clock) (index : ℕ) where
  same_day : index < c.until → c ≡ clock_after c index
  unfolding clock_after
  same_day k = rw (lt-ltb index c.until k)

  new_day : {date : Date} → date ≡ day_after c.date → c.until ≤ index → on date (c.until + 96) ≡ clock_after c index
  unfolding clock_after
  new_day e k = rw (le-ltb index c.until k, e)

-- a dated measure's next quarter, by its number
module _ (index number : ℕ) (some : 1 ≤ number) where
  abbrev now : Clock
  now = on (date_of (day_of number)) (index + (96 - quarter_of_day number))

  abbrev then : Clock
  then = on (date_of (day_of (number + 1))) (index + 1 + (96 - quarter_of_day (number + 1)))

  in_day : quarter_of_day number < 95 → clock_after now (index + 1) ≡ then
  in_day k =
      let n = next_in_day number some k in
      let u : index + (96 - quarter_of_day number) ≡ index + 1 + (96 - quarter_of_day (number + 1)) = omega (arith, n.0, k) in
      sym (same_day now (index + 1) (omega arith)) ∙ ap₂ on (ap date_of (sym n.1)) u

  at_midnight : 95 ≤ quarter_of_day number → clock_after now (index + 1) ≡ then
  at_midnight k =
      let n = next_day number some k in
      let e : date_of (day_of (number + 1)) ≡ day_after (date_of (day_of number)) = ap date_of n.1 ∙ date_next (day_of number) (day_some number) in
      let u : index + (96 - quarter_of_day number) + 96 ≡ index + 1 + (96 - quarter_of_day (number + 1)) = omega (arith, n.0, k, quarter_few number) in
      sym (new_day now (index + 1) e (omega (arith, k, quarter_few number))) ∙ ap (on (date_of (day_of (number + 1)))) u

  clock_turns : clock_after now (index + 1) ≡ then
  clock_turns = by (order (quarter_of_day number) 95)
    where
      by : Order (quarter_of_day number) 95 → clock_after now (index + 1) ≡ then
      by (before b) = in_day b
      by (same e) = at_midnight (omega arith)
      by (behind b) = at_midnight (omega arith)

pub clock_next : (first index : ℕ) → 1 ≤ first → clock_after (clock_of first index) (index + 1) ≡ clock_of first (index + 1)
unfolding clock_of
clock_next first index some =
    let sum : first + (index + 1) ≡ first + index + 1 = omega arith in
    rw sum (clock_turns index (first + index) (omega arith))

-- ---- the first quarter

module _ (first : ℕ) where
  can_advance : first < 2 ^ 64 → (index : ℕ) → index < 65536 → CanAdvance (clock_of first index) (index + 1)
  unfolding clock_of
  can_advance low index few k =
      let day = day_of (first + index) in
      let d = is_date day (day_some (first + index)) in
      record {
        month_some = d.month_some;
        month_few = d.month_few;
        year_low = omega (arith, year_low day (day_some (first + index)), day_few (first + index), low, few);
        until_low = omega (arith, few);
      }

  clock_first : {date : Date} → date ≡ date_of ((first - 1) / 96 + 1) → on date (96 - (first - 1) % 96) ≡ clock_of first 0
  unfolding clock_of day_of quarter_of_day
  clock_first e =
      let z : first + 0 ≡ first = omega arith in
      let u : 0 + (96 - (first - 1) % 96) ≡ 96 - (first - 1) % 96 = omega arith in
      rw (z, u, e)

  pub begins : first < 2 ^ 64 → {date : Date} → date ≡ date_of ((first - 1) / 96 + 1) → Begins first (on date (96 - (first - 1) % 96))
  begins low e = record { is = clock_first e; goes_on = can_advance low }
