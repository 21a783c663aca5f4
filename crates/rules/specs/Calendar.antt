-- The calendar (02, 1): days and quarters numbered from 1 January 2000, in UTC+1, by the Gregorian rule; working days and the delivery day.
use Rattle.std.specs.Prelude.{ℕ, zero, suc, ◌+◌, ◌-◌, ◌/◌, ◌%◌, Bool, true, false, cond, not, ◌&&◌, ◌||◌, List, [], ◌∷◌, eqb, leb, ltb, get_or, take}
use Rattle.rules.specs.Outcome.{Outcome, given, ◌>>◌, require}
use Rattle.rules.specs.Refusals.{not_in_calendar}
use Rattle.rules.specs.Numbers.{sum, member, keep}
pub use Rattle.rules.specs.declared.Date.{Date}

-- ---- years and months

abbrev pub divides : ℕ → ℕ → Bool
divides n year = eqb (year % n) 0

-- every fourth year is a leap year; of the hundreds, every fourth alone
unfoldable pub is_leap_year : ℕ → Bool
is_leap_year year = divides 4 year && (not (divides 100 year) || divides 400 year)

unfoldable pub year_length : ℕ → ℕ
year_length year = cond (is_leap_year year) 366 365

-- January to December
unfoldable pub month_lengths : ℕ → List ℕ
month_lengths year = 31 ∷ cond (is_leap_year year) 29 28 ∷ 31 ∷ 30 ∷ 31 ∷ 30 ∷ 31 ∷ 31 ∷ 30 ∷ 31 ∷ 30 ∷ 31 ∷ []

-- months are counted from 1
unfoldable pub month_length : ℕ → ℕ → ℕ
month_length year month = get_or (month_lengths year) (month - 1) 0

-- ---- day numbers: 1 is 1 January 2000

abbrev pub dated : ℕ → ℕ → ℕ → Date
dated year month day = record { year = year; month = month; day = day }

-- a day counted from the first of a month; the list has the length of that month and of each later one of the year
abbrev pub in_months : ℕ → ℕ → List ℕ → ℕ → Date
in_months year month [] day = dated year month day
in_months year month (days ∷ later) day = cond (leb day days) (dated year month day) (in_months year (month + 1) later (day - days))

abbrev pub in_year : ℕ → ℕ → Date
in_year year day = in_months year 1 (month_lengths year) day

-- a day counted from 1 January of a year, at most so many years later
abbrev pub in_years : ℕ → ℕ → ℕ → Date
in_years zero year day = in_year year day
in_years (suc years) year day = cond (leb day (year_length year)) (in_year year day) (in_years years (year + 1) (day - year_length year))

-- the date of a day number: the years from 2000 on are passed; there are no more of them than days
unfoldable pub date_of : ℕ → Date
date_of day = in_years day 2000 day

-- the way back: the days of so many years from a year on, of the year's earlier months, and of the month
abbrev pub days_of_years : ℕ → ℕ → ℕ
days_of_years zero year = 0
days_of_years (suc years) year = year_length year + days_of_years years (year + 1)

unfoldable pub day_number : Date → ℕ
day_number d = days_of_years (d.year - 2000) 2000 + sum (take (d.month - 1) (month_lengths d.year)) + d.day

-- the first of the month after a date's, and the day after a date
unfoldable pub next_first : Date → Date
next_first d = cond (ltb d.month 12) (dated d.year (d.month + 1) 1) (dated (d.year + 1) 1 1)

unfoldable pub day_after : Date → Date
day_after d = cond (ltb d.day (month_length d.year d.month)) (dated d.year d.month (d.day + 1)) (next_first d)

-- ---- weekdays

pub data Weekday : Type 0 where
  monday tuesday wednesday thursday friday saturday sunday : Weekday

abbrev pub following : Weekday → Weekday
following monday = tuesday
following tuesday = wednesday
following wednesday = thursday
following thursday = friday
following friday = saturday
following saturday = sunday
following sunday = monday

-- the seven days of a week from day 1 on, which is a Saturday, again and again
unfoldable pub weekday_of : ℕ → Weekday
weekday_of day = get_or (saturday ∷ sunday ∷ monday ∷ tuesday ∷ wednesday ∷ thursday ∷ friday ∷ []) ((day - 1) % 7) saturday

abbrev pub is_monday_to_friday : Weekday → Bool
is_monday_to_friday monday = true
is_monday_to_friday tuesday = true
is_monday_to_friday wednesday = true
is_monday_to_friday thursday = true
is_monday_to_friday friday = true
is_monday_to_friday saturday = false
is_monday_to_friday sunday = false

-- ---- quarter numbers: 1 is 1 January 2000, 0:00, and a day has 96

-- the number of a quarter's day
unfoldable pub day_of : ℕ → ℕ
day_of quarter = (quarter - 1) / 96 + 1

-- a quarter's place in its day, counted from 0
unfoldable pub quarter_of_day : ℕ → ℕ
quarter_of_day quarter = (quarter - 1) % 96

-- the last allowed quarter: 31 December 2099, 23:45
abbrev pub last_quarter : ℕ
last_quarter = 3506400

-- ---- working days and the delivery day

-- Monday to Friday, without the days of a list of holidays
unfoldable pub is_working_day : List ℕ → ℕ → Bool
is_working_day holidays day = is_monday_to_friday (weekday_of day) && not (member day holidays)

-- so many days from a day on
abbrev pub days_from : ℕ → ℕ → List ℕ
days_from day zero = []
days_from day (suc days) = day ∷ days_from (day + 1) days

-- the working days of the month that begins on a day
unfoldable pub working_days : List ℕ → ℕ → List ℕ
working_days holidays first = keep (is_working_day holidays) (days_from first (month_length (date_of first).year (date_of first).month))

-- the first day of the month after a day's: past what is left of the day's own month
unfoldable pub next_month : ℕ → ℕ
next_month day = day + (month_length (date_of day).year (date_of day).month - (date_of day).day) + 1

-- the fourth working day of the month after a quarter's (001, 3.2.1), or 0 where it has fewer: 18 for a quarter that isn't in the calendar
unfoldable pub delivery_day : ℕ → List ℕ → Outcome ℕ
delivery_day quarter holidays = do
  require (leb 1 quarter && leb quarter last_quarter) not_in_calendar
  given (get_or (working_days holidays (next_month (day_of quarter))) 3 0)
