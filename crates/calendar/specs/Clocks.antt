-- Years that have passed, and the day that a measure's quarter lies in.
use Rattle.std.specs.Prelude.{ℕ, ◌+◌, ◌-◌, ◌^◌, ◌≤◌, ◌<◌, ◌≡◌, cond, ltb}
use Rattle.rules.specs.Calendar.{year_length, days_of_years, date_of, day_of, quarter_of_day, day_after}
use Rattle.calendar.specs.declared.Clock.{Clock}

-- so many whole years from 2000 on have passed with these days, and the next year has not
pub record Passed (days years : ℕ) : Type 0 where
  pub whole : days_of_years years 2000 ≤ days
  pub not_next : days < days_of_years years 2000 + year_length (2000 + years)

-- of quarter `index` of a measure, counted from 0, by the number of the first quarter: its date, and the index with which the next day begins
unfoldable pub clock_of : ℕ → ℕ → Clock
clock_of first index = record { date = date_of (day_of (first + index)); until = index + (96 - quarter_of_day (first + index)) }

-- at the quarter with this index, the next one
unfoldable pub clock_after : Clock → ℕ → Clock
clock_after c index = cond (ltb index c.until) c (record { date = day_after c.date; until = c.until + 96 })

-- a month of the year, a year and an index that can be counted on
pub record Advances (c : Clock) : Type 0 where
  pub month_some : 1 ≤ c.date.month
  pub month_few : c.date.month ≤ 12
  pub year_low : c.date.year < 2 ^ 63
  pub until_low : c.until < 2 ^ 63

-- where the next day begins, there is one
abbrev pub CanAdvance : Clock → ℕ → Type 0
CanAdvance c index = c.until ≤ index → Advances c

-- the clock of a measure's first quarter, by its number; along every chain it can be counted on
pub record Begins (first : ℕ) (clock : Clock) : Type 0 where
  pub is : clock ≡ clock_of first 0
  pub goes_on : (index : ℕ) → index < 65536 → CanAdvance (clock_of first index) (index + 1)
