-- The delivery day: the fourth working day of the next month, or 0 where it has fewer.
use mathlib.Core.Path.{◌≡◌, refl, ◌∙◌, ap}
use mathlib.Core.Bool.{Bool, true, false, cond, not, ◌&&◌}
use mathlib.Core.List.{List, [], ◌∷◌}
use Prim.Native.Nat.{ℕ, zero, suc, ◌+◌, ◌-◌, ◌≤◌, ◌<◌}
use native.Mathlib.Omega.{arith}
use borrow.Author.Tests.{not-true}
use lib.Dec.{leb, ltb}
use lib.ListN.{length, get_or}
use Rattle.rules.specs.Outcome.{given, ◌>>◌, require}
use Rattle.rules.specs.Numbers.{member, keep}
use Rattle.rules.specs.Calendar.{Date, month_length, dated, date_of, next_first, day_after, weekday_of, is_monday_to_friday, day_of, last_quarter}
use Rattle.rules.specs.Calendar.{is_working_day, days_from, working_days, next_month, delivery_day}
use Rattle.rules.specs.Demands.{IsDeliveryDay, DeliveryDays}
use Rattle.rules.proofs.Inversion.{Holds, holds_require, holds_given}
use Rattle.rules.proofs.Sound.{both}
use Rattle.rules.proofs.Calendar.{Order, before, same, behind, order, date_next, after_in_month, after_month_end, is_date, day_some}

-- ---- the days of a month

-- so many days later in the same month
module _ (day : ℕ) (some : 1 ≤ day) where
  abbrev at : ℕ → Date
  at later = dated (date_of day).year (date_of day).month ((date_of day).day + later)

  pub in_month : (later : ℕ) → (date_of day).day + later ≤ month_length (date_of day).year (date_of day).month → date_of (day + later) ≡ at later
  in_month zero k = let e : day + 0 ≡ day = omega arith in let f : (date_of day).day + 0 ≡ (date_of day).day = omega arith in rw (e, f)
  in_month (suc later) k =
      let e : day + suc later ≡ day + later + 1 = omega arith in
      let f : (date_of day).day + suc later ≡ (date_of day).day + later + 1 = omega arith in
      let r : date_of (day + later) ≡ at later = in_month later (omega arith) in
      rw (e, f) (date_next (day + later) (omega arith) ∙ ap day_after r ∙ after_in_month (at later) (omega arith))

  next_first_of : (day : ℕ) → next_first (dated (date_of day).year (date_of day).month (month_length (date_of day).year (date_of day).month)) ≡ next_first (date_of day)
  unfolding next_first
  next_first_of day = refl

  pub month_begins : date_of (next_month day) ≡ next_first (date_of day)
  unfolding next_month
  month_begins =
      let h = is_date day some in
      let length = month_length (date_of day).year (date_of day).month in
      let left = length - (date_of day).day in
      let e : (date_of day).day + left ≡ length = omega (arith, h.day_few) in
      let r : date_of (day + left) ≡ at left = in_month left (omega (arith, e)) in
      date_next (day + left) (omega arith) ∙ ap day_after r ∙ after_month_end (at left) (omega (arith, e)) ∙ ap (λ (n : ℕ). next_first (dated (date_of day).year (date_of day).month n)) e ∙ next_first_of day

-- ---- the k-th of those that pass a test, counted from 0

module _ (test : ℕ → Bool) where
  record Found (first days k : ℕ) : Type 0 where
    later : ℕ
    within : later < days
    is : get_or (keep test (days_from first days)) k 0 ≡ first + later
    passes : test (first + later) ≡ true
    earlier : length (keep test (days_from first later)) ≡ k

  found : (first days k : ℕ) → k < length (keep test (days_from first days)) → Found first days k
  found first zero k h = absurd (omega arith)
  found first (suc days) k h = by (test first) refl k h (found (first + 1) days)
    where
      there : (k : ℕ) → (n : ℕ) → first + 1 + n ≡ first + suc n
      there k n = omega arith

      by : (t : Bool) → test first ≡ t → (k : ℕ) → k < length (cond t (first ∷ keep test (days_from (first + 1) days)) (keep test (days_from (first + 1) days)))
          → ((j : ℕ) → j < length (keep test (days_from (first + 1) days)) → Found (first + 1) days j) → Found first (suc days) k
      by true e zero h rest =
          let f : first + 0 ≡ first = omega arith in
          record { later = 0; within = omega arith; is = rw (e, f); passes = rw f e; earlier = refl }
      by true e (suc k) h rest =
          let r = rest k (omega arith) in
          let f = there k r.later in
          record { later = suc r.later; within = omega (arith, r.within); is = rw (e, ← f) r.is; passes = rw (← f) r.passes; earlier = rw e (ap suc r.earlier) }
      by false e k h rest =
          let r = rest k h in
          let f = there k r.later in
          record { later = suc r.later; within = omega (arith, r.within); is = rw (e, ← f) r.is; passes = rw (← f) r.passes; earlier = rw e r.earlier }

past_end : (l : List ℕ) (k : ℕ) → length l ≤ k → get_or l k 0 ≡ 0
past_end [] k h = refl
past_end (x ∷ l) zero h = absurd (omega arith)
past_end (x ∷ l) (suc k) h = past_end l k (omega arith)

-- ---- the delivery day

first_day : (d : Date) → (next_first d).day ≡ 1
unfolding next_first
first_day d = by (ltb d.month 12)
  where
    by : (t : Bool) → (cond t (dated d.year (d.month + 1) 1) (dated (d.year + 1) 1 1)).day ≡ 1
    by true = refl
    by false = refl

module _ (quarter : ℕ) (holidays : List ℕ) where
  -- the first day of the month after the quarter's
  abbrev first : ℕ
  first = next_month (day_of quarter)

  begins : date_of first ≡ next_first (date_of (day_of quarter))
  begins = month_begins (day_of quarter) (day_some quarter)

  first_some : 1 ≤ first
  unfolding next_month
  first_some = omega arith

  first_is : (date_of first).day ≡ 1
  first_is = ap (λ d. d.day) begins ∙ first_day (date_of (day_of quarter))

  working : (day : ℕ) → is_working_day holidays day ≡ true → (is_monday_to_friday (weekday_of day) ≡ true) × (member day holidays ≡ false)
  unfolding is_working_day
  working day e = let t = both (is_monday_to_friday (weekday_of day)) (not (member day holidays)) e in (t.0, not-true (member day holidays) t.1)

  module _ (day : ℕ) (e : delivery_day quarter holidays ≡ given day) where
    day_is : day ≡ get_or (working_days holidays first) 3 0
    unfolding delivery_day
    day_is = from.of day e
      where
        from : Holds (λ (d : ℕ). d ≡ get_or (working_days holidays first) 3 0) (require (leb 1 quarter && leb quarter last_quarter) 18 >> given (get_or (working_days holidays first) 3 0))
        from = holds_require _ 18 _ (λ t. holds_given _ refl)

    fewer : length (working_days holidays first) < 4 → day ≡ 0
    fewer h = day_is ∙ past_end (working_days holidays first) 3 (omega arith)

    module _ (some : 4 ≤ length (working_days holidays first)) where
      found_fourth : Found (is_working_day holidays) first (month_length (date_of first).year (date_of first).month) 3
      unfolding working_days
      found_fourth = found (is_working_day holidays) first (month_length (date_of first).year (date_of first).month) 3 (omega (arith, some))

      is_found : day ≡ first + found_fourth.later
      unfolding working_days
      is_found = day_is ∙ found_fourth.is

      date_is : date_of day ≡ dated (date_of first).year (date_of first).month (1 + found_fourth.later)
      date_is =
          ap date_of is_found ∙ in_month first first_some found_fourth.later (omega (arith, first_is, found_fourth.within))
          ∙ ap (λ (n : ℕ). dated (date_of first).year (date_of first).month (n + found_fourth.later)) first_is

      is_delivery_day : IsDeliveryDay quarter holidays day
      is_delivery_day =
          let f = found_fourth in
          let w = working (first + f.later) f.passes in
          let d : (date_of day).day ≡ 1 + f.later = ap (λ x. x.day) date_is in
          let start : day + 1 - (date_of day).day ≡ first = omega (arith, is_found, d) in
          let count : (date_of day).day - 1 ≡ f.later = omega (arith, d) in
          record {
            year_is = ap (λ x. x.year) date_is ∙ ap (λ x. x.year) begins;
            month_is = ap (λ x. x.month) date_is ∙ ap (λ x. x.month) begins;
            weekday = rw is_found w.0;
            not_listed = rw is_found w.1;
            fourth = rw (start, count) f.earlier;
          }

    few_or_four : Order (length (working_days holidays first)) 4
    few_or_four = order (length (working_days holidays first)) 4

    fourth : (day ≡ 0 → ⊥) → IsDeliveryDay quarter holidays day
    fourth h = by few_or_four
      where
        by : Order (length (working_days holidays first)) 4 → IsDeliveryDay quarter holidays day
        by (before b) = absurd (h (fewer b))
        by (same k) = is_delivery_day (omega arith)
        by (behind b) = is_delivery_day (omega arith)

    none : day ≡ 0 → length (working_days holidays first) < 4
    none z = by few_or_four
      where
        by : Order (length (working_days holidays first)) 4 → length (working_days holidays first) < 4
        by (before b) = b
        by (same k) = absurd (omega (arith, is_found (omega arith), first_some))
        by (behind b) = absurd (omega (arith, is_found (omega arith), first_some))

pub delivery_days : DeliveryDays
delivery_days = record { fourth = fourth; none = none; fewer = fewer; begins = month_begins }
