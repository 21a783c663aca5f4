-- The delivery day: the listed days of a month as marks, and its working days by them.
use Rattle.std.specs.Prelude.{ℕ, ◌+◌, ◌-◌, ◌<◌, ◌≡◌, Bool, false, not, ◌&&◌, ◌||◌, List, length, get_or}
use Rattle.rules.specs.Numbers.{member, keep}
use Rattle.calendar.specs.declared.Month.{Month}
use Rattle.rules.specs.Calendar.{weekday_of, is_monday_to_friday, days_from}

-- a mark for each day from the first on: the listed ones are marked too
pub record Marked (first : ℕ) (listed : List ℕ) (marks later : List Bool) : Type 0 where
  pub at : (i : ℕ) → i < length marks → get_or later i false ≡ (get_or marks i false || member (first + i) listed)

-- the same of a month, which keeps its first day and its length
pub record Marks (listed : List ℕ) (month later : Month) : Type 0 where
  pub marked : Marked month.first.0 listed month.marks later.marks
  pub same : later.first ≡ month.first
  pub size : length later.marks ≡ length month.marks

-- Monday to Friday, without the marked days
unfoldable pub is_working_by_marks : ℕ → List Bool → ℕ → Bool
is_working_by_marks first marks day = is_monday_to_friday (weekday_of day) && not (get_or marks (day - first) false)

-- of so many days from a day on, the one that passes the test after so many others, or 0
unfoldable pub passing : (ℕ → Bool) → ℕ → ℕ → ℕ → ℕ
passing test day days others = get_or (keep test (days_from day days)) others 0
