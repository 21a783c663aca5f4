-- What holds of the marks of a month's days, of the days counted by them, and of the month after a day's; so the delivery day.
use mathlib.Core.Path.{◌≡◌, refl, sym, ◌∙◌, ap, subst}
use mathlib.Core.Bool.{Bool, true, false, not, ◌&&◌, ◌||◌}
use mathlib.Core.List.{List, [], ◌∷◌}
use Prim.Native.Nat.{ℕ, zero, suc, ◌+◌, ◌-◌, ◌/◌, ◌%◌, ◌≤◌, ◌<◌}
use native.Mathlib.Omega.{arith}
use native.Mathlib.Numerals.{add-one}
use borrow.Author.Tests.{eqb-true, eqb-false, ne_eqb}
use lib.Dec.{eqb, leb, ltb}
use lib.ListN.{length, get_or, take, drop, set, replicate, drop_of_length-le, get_or-replicate}
use lib.Seq.{drop-cons, get_or-set_same, get_or-set_other}
use Rattle.std.proofs.lemmas.List.{get_or-take}
use Rattle.rules.specs.declared.Date.{Date}
use Rattle.rules.specs.Outcome.{refused, given, ◌>>◌, require}
use Rattle.rules.specs.Refusals.{not_in_calendar}
use Rattle.rules.specs.Numbers.{member, keep}
use Rattle.rules.specs.Calendar.{month_length, date_of, day_of, last_quarter}
use Rattle.rules.specs.Calendar.{is_working_day, days_from, working_days, next_month, delivery_day}
use Rattle.rules.specs.Demands.{IsDate}
use Rattle.rules.proofs.Calendar.{is_date, month_long, monday_to_friday}
use Rattle.calendar.specs.Deliveries.{Marked, is_working_by_marks, passing}

-- ---- marks

or_false : (t : Bool) → (t || false) ≡ t
or_false true = refl
or_false false = refl

or_true : (t : Bool) → (t || true) ≡ true
or_true true = refl
or_true false = refl

-- one listed day: none of those that have a mark, or the one that gets it
module _ (first day : ℕ) (marks : List Bool) where
  stays : (i : ℕ) (mark : Bool) → (first + i ≡ day → ⊥) → mark ≡ (mark || (eqb (first + i) day || false))
  stays i mark other = rw (ne_eqb (first + i) day other) (sym (or_false mark))

  pub earlier_unmarked : day < first → Marked first (day ∷ []) marks marks
  earlier_unmarked k = record { at = λ i h. stays i (get_or marks i false) (λ e. omega arith) }

  pub later_unmarked : first ≤ day → length marks ≤ day - first → Marked first (day ∷ []) marks marks
  later_unmarked k l = record { at = λ i h. stays i (get_or marks i false) (λ e. omega arith) }

  pub marked_one : first ≤ day → day - first < length marks → Marked first (day ∷ []) marks (set marks (day - first) true)
  marked_one k l = record { at = λ i h. by i (eqb (first + i) day) refl }
    where
      by : (i : ℕ) (t : Bool) → eqb (first + i) day ≡ t → get_or (set marks (day - first) true) i false ≡ (get_or marks i false || (t || false))
      by i true e =
          let w = eqb-true (first + i) day e in
          let f : i ≡ day - first = omega arith in
          rw (f, get_or-set_same marks (day - first) true false l) (sym (or_true (get_or marks (day - first) false)))
      by i false e =
          let w = eqb-false (first + i) day e in
          get_or-set_other marks (day - first) i true false (λ f. w (omega arith)) ∙ sym (or_false (get_or marks i false))

-- with what is ahead in the list, what the whole list gives
pub record Marking (first : ℕ) (ahead listed : List ℕ) (marks later : List Bool) : Type 0 where
  pub at : (i : ℕ) → i < length marks → (get_or later i false || member (first + i) ahead) ≡ (get_or marks i false || member (first + i) listed)

module _ (first : ℕ) (listed : List ℕ) (marks : List Bool) where
  pub marking_starts : Marking first (drop 0 listed) listed marks marks
  marking_starts = record { at = λ i h. refl }

  regroup : (a b c : Bool) → ((a || (b || false)) || c) ≡ (a || (b || c))
  regroup true b c = refl
  regroup false true c = refl
  regroup false false c = refl

  pub marking_goes_on : (now later : List Bool) (i : ℕ) → i < length listed → length now ≡ length marks
      → Marked first (get_or listed i 0 ∷ []) now later → Marking first (drop i listed) listed marks now
      → Marking first (drop (i + 1) listed) listed marks later
  marking_goes_on now later i k size m so_far = record { at = by }
    where
      by : (j : ℕ) → j < length marks → (get_or later j false || member (first + j) (drop (i + 1) listed)) ≡ (get_or marks j false || member (first + j) listed)
      by j h =
          let e : drop i listed ≡ get_or listed i 0 ∷ drop (i + 1) listed = rw add-one (drop-cons listed i 0 k) in
          rw (m.at j (omega arith))
          (regroup (get_or now j false) (eqb (first + j) (get_or listed i 0)) (member (first + j) (drop (i + 1) listed)) ∙ rw e at (so_far.at j h))

  pub marking_ends : (later : List Bool) (i : ℕ) → length listed ≤ i → Marking first (drop i listed) listed marks later → Marked first listed marks later
  marking_ends later i k m = record { at = λ j h. sym (or_false (get_or later j false)) ∙ rw (drop_of_length-le listed k) at (m.at j h) }

-- ---- the days that pass a test, counted

-- the day at hand, with so many more to come
module _ (test : ℕ → Bool) (day more others : ℕ) where
  passes_last : test day ≡ true → passing test day (suc more) 0 ≡ day
  unfolding passing
  passes_last t = rw t

  passes_one : test day ≡ true → passing test day (suc more) (suc others) ≡ passing test (day + 1) more others
  unfolding passing
  passes_one t = rw t

  passes_none : test day ≡ false → passing test day (suc more) others ≡ passing test (day + 1) more others
  unfolding passing
  passes_none t = rw t

nothing_left : (test : ℕ → Bool) (day others : ℕ) → passing test day 0 others ≡ 0
unfolding passing
nothing_left test day others = refl

-- so many days have passed, and the one that is looked for comes after so many others
pub record Counting (first : ℕ) (marks : List Bool) (days others weekday passed : ℕ) : Type 0 where
  pub still : passing (is_working_by_marks first marks) first days 3 ≡ passing (is_working_by_marks first marks) (first + passed) (days - passed) others
  pub weekday_is : weekday ≡ (first + passed + 4) % 7
  pub few : passed ≤ days

module _ (first : ℕ) (marks : List Bool) (days : ℕ) where
  pub counting_starts : Counting first marks days 3 ((first + 4) % 7) 0
  counting_starts =
      let e : first + 0 ≡ first = omega arith in
      let f : days - 0 ≡ days = omega arith in
      record { still = rw (e, f); weekday_is = rw e; few = omega arith }

  pub counting_ends : {others weekday passed : ℕ} → Counting first marks days others weekday passed → days ≤ passed → 0 ≡ passing (is_working_by_marks first marks) first days 3
  counting_ends {others} {weekday} {passed} h k =
      let e : days - passed ≡ 0 = omega arith in
      sym (nothing_left (is_working_by_marks first marks) (first + passed) others) ∙ rw e at (sym h.still)

  -- a turn, by what the code finds of the day at hand
  module _ {others weekday passed : ℕ} (some : 1 ≤ first) (h : Counting first marks days others weekday passed) (k : passed < days)
      (t : Bool) (is : t ≡ (ltb weekday 5 && not (get_or (take days marks) passed false))) where
    at_hand : is_working_by_marks first marks (first + passed) ≡ t
    unfolding is_working_by_marks
    at_hand =
        let e : first + passed - first ≡ passed = omega arith in
        rw (e, monday_to_friday (first + passed) (omega arith), ← h.weekday_is, ← get_or-take days marks passed false k) (sym is)

    more : days - passed ≡ suc (days - (passed + 1))
    more = omega arith

    onward : first + passed + 1 ≡ first + (passed + 1)
    onward = omega arith

    next_weekday : (next : ℕ) → next ≡ (weekday + 1) % 7 → next ≡ (first + (passed + 1) + 4) % 7
    next_weekday next e = let w = h.weekday_is in omega arith

    pub counting_finds : t ≡ true → others ≡ 0 → first + passed ≡ passing (is_working_by_marks first marks) first days 3
    counting_finds e z = sym (rw (more, z, passes_last (is_working_by_marks first marks) (first + passed) (days - (passed + 1)) 0 (at_hand ∙ e)) at h.still)

    module _ (later next : ℕ) (n : next ≡ (weekday + 1) % 7) where
      pub counting_takes : t ≡ true → (others ≡ 0 → ⊥) → later ≡ others - 1 → Counting first marks days later next (passed + 1)
      counting_takes e z l =
          let one : others ≡ suc later = omega arith in
          record {
            still = h.still ∙ rw (more, one, passes_one (is_working_by_marks first marks) (first + passed) (days - (passed + 1)) later (at_hand ∙ e), onward);
            weekday_is = next_weekday next n;
            few = omega arith;
          }

      pub counting_passes : t ≡ false → later ≡ others → Counting first marks days later next (passed + 1)
      counting_passes e l = record {
        still = h.still ∙ rw (more, l, passes_none (is_working_by_marks first marks) (first + passed) (days - (passed + 1)) others (at_hand ∙ e), onward);
        weekday_is = next_weekday next n;
        few = omega arith;
      }

-- ---- months

-- by the date that the code finds for a day
module _ (day : ℕ) (some : 1 ≤ day) (date : Date) (is : date ≡ date_of day) where
  date_found : IsDate date
  date_found = subst IsDate (sym is) (is_date day some)

  pub month_found : (1 ≤ date.month) × (date.month ≤ 12)
  month_found = let h = date_found in (h.month_some, h.month_few)

  module _ (days : ℕ) (long : days ≡ month_length date.year date.month) where
    pub length_found : days ≡ month_length (date_of day).year (date_of day).month
    length_found = long ∙ ap (λ (d : Date). month_length d.year d.month) is

    pub days_found : (date.day ≤ days) × (days ≤ 31)
    days_found =
        let h = date_found in
        let m = month_long date.year date.month h.month_some h.month_few in
        (omega (arith, h.day_few), omega arith)

    pub next_found : day + (days - date.day) + 1 ≡ next_month day
    unfolding next_month
    next_found = rw (long, is)

pub month_few_days : (day : ℕ) → 1 ≤ day → month_length (date_of day).year (date_of day).month ≤ 31
month_few_days day some = (days_found day some (date_of day) refl (month_length (date_of day).year (date_of day).month) refl).1

pub next_month_near : (day : ℕ) → 1 ≤ day → (1 ≤ next_month day) × (next_month day ≤ day + 32)
unfolding next_month
next_month_near day some = let m = month_few_days day some in (omega arith, omega arith)

-- ---- the delivery day

-- the same days are kept by tests that agree on them
keep_same : (f g : ℕ → Bool) (day days : ℕ) → ((d : ℕ) → day ≤ d → d < day + days → f d ≡ g d) → keep f (days_from day days) ≡ keep g (days_from day days)
keep_same f g day zero same = refl
keep_same f g day (suc days) same =
    let e : f day ≡ g day = same day (omega arith) (omega arith) in
    let r : keep f (days_from (day + 1) days) ≡ keep g (days_from (day + 1) days) = keep_same f g (day + 1) days (λ d h k. same d (omega arith) (omega arith)) in
    rw (e, r)

-- no mark at first
module _ (first : ℕ) (holidays : List ℕ) (marks : List Bool) (m : Marked first holidays (replicate 31 false) marks) (days : ℕ) (few : days ≤ 31) where
  tells : (day : ℕ) → first ≤ day → day < first + days → is_working_by_marks first marks day ≡ is_working_day holidays day
  unfolding is_working_by_marks is_working_day
  tells day h k =
      let e : first + (day - first) ≡ day = omega arith in
      let none : get_or (replicate 31 false) (day - first) false ≡ false = get_or-replicate 31 (day - first) false false (omega arith) in
      rw (m.at (day - first) (omega arith), none, e)

  counted : passing (is_working_by_marks first marks) first days 3 ≡ get_or (keep (is_working_day holidays) (days_from first days)) 3 0
  unfolding passing
  counted =
      let r : keep (is_working_by_marks first marks) (days_from first days) ≡ keep (is_working_day holidays) (days_from first days) =
      keep_same (is_working_by_marks first marks) (is_working_day holidays) first days tells in
      rw r

module _ (quarter : ℕ) (holidays : List ℕ) where
  pub outside : (leb 1 quarter && leb quarter last_quarter) ≡ false → refused not_in_calendar ≡ delivery_day quarter holidays
  unfolding delivery_day require ◌>>◌
  outside e = rw e

  module _ (inside : (leb 1 quarter && leb quarter last_quarter) ≡ true) (first : ℕ) (is : first ≡ next_month ((quarter - 1) / 96 + 1)) where
    pub first_near : (1 ≤ first) × (first ≤ 36600)
    first_near =
        let few : quarter ≤ last_quarter = grind (arith, inside) in
        let n = next_month_near ((quarter - 1) / 96 + 1) (omega arith) in
        (omega arith, omega arith)

    module _ (days : ℕ) (long : days ≡ month_length (date_of first).year (date_of first).month) where
      pub few_days : days ≤ 31
      few_days = omega (arith, month_few_days first first_near.0)

      pub delivered : (marks : List Bool) → Marked first holidays (replicate 31 false) marks
          → (day : ℕ) → day ≡ passing (is_working_by_marks first marks) first days 3 → given day ≡ delivery_day quarter holidays
      unfolding delivery_day require ◌>>◌ working_days day_of
      delivered marks m day e = rw (inside, ← is, ← long) (ap given (e ∙ counted first holidays marks m days few_days))
