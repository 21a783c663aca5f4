-- Dates as the code finds them: leap years and months by tests, the year by division, the month by leafing through the year.
use mathlib.Core.Path.{◌≡◌, refl, sym, ◌∙◌, ap}
use mathlib.Core.Bool.{true, false}
use mathlib.Core.List.{List, [], ◌∷◌}
use mathlib.Core.Logic.{◌⊎◌, inl, inr}
use Prim.Native.Nat.{ℕ, zero, suc, ◌+◌, ◌*◌, ◌-◌, ◌/◌, ◌%◌, ◌≤◌, ◌<◌, ◌^◌}
use native.Mathlib.Omega.{arith}
use borrow.Author.Tests.{le-leb, lt-leb, lt-ltb, le-ltb}
use lib.ListN.{drop}
use Rattle.rules.specs.Numbers.{sum}
use Rattle.rules.specs.declared.Date.{Date}
use Rattle.rules.specs.Calendar.{is_leap_year, year_length, month_lengths, month_length, dated, in_months, in_year, days_of_years, date_of, next_first, day_after}
use Rattle.rules.proofs.Calendar.{Later, months_later, months_sum, year_long, years_more, years_days, in_year_lem, after_month_end, after_in_month}
use Rattle.calendar.specs.Clocks.{Passed}

-- ---- months

module _ (year month : ℕ) where
  pub long_february : month ≡ 2 → true ≡ is_leap_year year → 29 ≡ month_length year month
  unfolding month_length month_lengths
  long_february e f = rw (e, ← f)

  pub short_february : month ≡ 2 → false ≡ is_leap_year year → 28 ≡ month_length year month
  unfolding month_length month_lengths
  short_february e f = rw (e, ← f)

-- April, June, September and November
abbrev pub Thirty : ℕ → Type 0
Thirty month = (month ≡ 4) ⊎ ((month ≡ 6) ⊎ ((month ≡ 9) ⊎ (month ≡ 11)))

pub thirty : (year month : ℕ) → Thirty month → 30 ≡ month_length year month
unfolding month_length month_lengths
thirty year month (inl e) = rw e
thirty year month (inr (inl e)) = rw e
thirty year month (inr (inr (inl e))) = rw e
thirty year month (inr (inr (inr e))) = rw e

pub thirty_one : (year month : ℕ) → 1 ≤ month → month ≤ 12 → (month ≡ 2 → ⊥) → (Thirty month → ⊥) → 31 ≡ month_length year month
unfolding month_length month_lengths
thirty_one year zero low high two four = absurd (omega arith)
thirty_one year (suc zero) low high two four = refl
thirty_one year (suc (suc zero)) low high two four = absurd (two refl)
thirty_one year (suc (suc (suc zero))) low high two four = refl
thirty_one year (suc (suc (suc (suc zero)))) low high two four = absurd (four (inl refl))
thirty_one year (suc (suc (suc (suc (suc zero))))) low high two four = refl
thirty_one year (suc (suc (suc (suc (suc (suc zero)))))) low high two four = absurd (four (inr (inl refl)))
thirty_one year (suc (suc (suc (suc (suc (suc (suc zero))))))) low high two four = refl
thirty_one year (suc (suc (suc (suc (suc (suc (suc (suc zero)))))))) low high two four = refl
thirty_one year (suc (suc (suc (suc (suc (suc (suc (suc (suc zero))))))))) low high two four = absurd (four (inr (inr (inl refl))))
thirty_one year (suc (suc (suc (suc (suc (suc (suc (suc (suc (suc zero)))))))))) low high two four = refl
thirty_one year (suc (suc (suc (suc (suc (suc (suc (suc (suc (suc (suc zero))))))))))) low high two four = absurd (four (inr (inr (inr refl))))
thirty_one year (suc (suc (suc (suc (suc (suc (suc (suc (suc (suc (suc (suc zero)))))))))))) low high two four = refl
thirty_one year (suc (suc (suc (suc (suc (suc (suc (suc (suc (suc (suc (suc (suc m))))))))))))) low high two four = absurd (omega arith)

pub ruleset months = (long_february, short_february, thirty, thirty_one)

-- ---- the year, by division

pub days_by_division : (years : ℕ) → 365 * years + (years + 3) / 4 + (years + 399) / 400 - (years + 99) / 100 ≡ days_of_years years 2000
days_by_division years = go _ _ _ _ (years_days years)
  where
    go : (days fours hundreds four_hundreds : ℕ) → days + hundreds ≡ 365 * years + fours + four_hundreds → 365 * years + fours + four_hundreds - hundreds ≡ days
    go days fours hundreds four_hundreds e = omega arith

-- 400 years have 146,097 days: the days of so many years are nearly that share
years_high : (years : ℕ) → 400 * days_of_years years 2000 ≤ 146097 * years + 699
years_high years = omega (arith, years_days years)

years_low : (years : ℕ) → 146097 * years ≤ 400 * days_of_years years 2000 + 396
years_low years = omega (arith, years_days years)

abbrev pub guessed : ℕ → ℕ
guessed days = days / 146097 * 400 + days % 146097 * 400 / 146097

guess_low : (days : ℕ) → 146097 * guessed days ≤ 400 * days
guess_low days = omega arith

guess_high : (days : ℕ) → 400 * days < 146097 * suc (guessed days)
guess_high days = omega arith

-- the years that have passed, by what the code was told of its guess
module _ (days guess : ℕ) (is : guess ≡ guessed days) where
  -- one day too many at most
  over : days_of_years guess 2000 ≤ days + 1
  over = omega (arith, years_high guess, guess_low days)

  -- none too few for the year after
  under : days ≤ days_of_years (guess + 1) 2000
  under = omega (arith, years_low (guess + 1), guess_high days)

  pub guess_some : days < days_of_years guess 2000 → 1 ≤ guess
  guess_some h = by guess h
    where
      by : (g : ℕ) → days < days_of_years g 2000 → 1 ≤ g
      by zero h = absurd (omega arith)
      by (suc g) h = omega arith

  -- the days of one year more
  one_more : (years next : ℕ) → suc years ≡ next → days_of_years next 2000 ≡ days_of_years years 2000 + year_length (2000 + years)
  one_more years next e = ap (λ (y : ℕ). days_of_years y 2000) (sym e) ∙ years_more years 2000

  pub year_before : days < days_of_years guess 2000 → Passed days (guess - 1)
  year_before h =
      let e : suc (guess - 1) ≡ guess = omega (arith, guess_some h) in
      let f = one_more (guess - 1) guess e in
      let l = year_long (2000 + (guess - 1)) in
      record { whole = omega (arith, f, l, over); not_next = omega (arith, f, h) }

  pub year_after : days_of_years (guess + 1) 2000 ≤ days → Passed days (guess + 1)
  year_after h = let l = year_long (2000 + (guess + 1)) in record { whole = h; not_next = omega (arith, l, under) }

  pub year_guessed : days_of_years guess 2000 ≤ days → days < days_of_years (guess + 1) 2000 → Passed days guess
  year_guessed h k =
      let e : suc guess ≡ guess + 1 = omega arith in
      let f = one_more guess (guess + 1) e in
      record { whole = h; not_next = omega (arith, f, k) }

-- ---- the month, by leafing through the year

pub record Leafing (year day month length left : ℕ) : Type 0 where
  pub later : List ℕ
  pub are : Later year month (length ∷ later)
  pub fits : left ≤ sum (length ∷ later)
  pub some : 1 ≤ left
  pub same : in_year year day ≡ in_months year month (length ∷ later) left

module _ (year day : ℕ) where
  pub january : 1 ≤ day → day ≤ year_length year → Leafing year day 1 (month_length year 1) day
  unfolding month_lengths month_length
  january some few = record { later = drop 1 (month_lengths year); are = months_later year; fits = omega (arith, months_sum year); some = some; same = refl }

  module _ {month length left : ℕ} (h : Leafing year day month length left) where
    pub month_turns : (n : ℕ) → n ≡ month_length year (month + 1) → length < left → Leafing year day (month + 1) n (left - length)
    month_turns n e k = by h.later h.are h.fits h.same
      where
        by : (later : List ℕ) → Later year month (length ∷ later) → left ≤ sum (length ∷ later) → in_year year day ≡ in_months year month (length ∷ later) left
            → Leafing year day (month + 1) n (left - length)
        by [] a f s = absurd (omega arith)
        by (next ∷ later) a f s =
            let g : next ≡ n = sym a.4.0 ∙ sym e in
            rw (← g) (record { later = later; are = a.4; fits = omega arith; some = omega arith; same = rw (lt-leb left length k) at s })

    month_found : left ≤ length → dated year month left ≡ in_year year day
    month_found k = sym (rw (le-leb left length k) at h.same)

    pub december : month ≡ 12 → dated year 12 left ≡ in_year year day
    december e = rw e at (month_found (by h.later h.are h.fits))
      where
        by : (later : List ℕ) → Later year month (length ∷ later) → left ≤ sum (length ∷ later) → left ≤ length
        by [] a f = omega arith
        by (next ∷ later) a f = let k : month + 1 ≤ 12 = a.4.3 in absurd (omega arith)

-- ---- the date of a day

module _ (day years : ℕ) (some : 1 ≤ day) (passed : Passed (day - 1) years) where
  pub years_few : day ≤ 2 ^ 58 → years < 2 ^ 54
  years_few few = omega (arith, years_low years, passed.whole)

  module _ {days : ℕ} (is : days ≡ days_of_years years 2000) where
    pub day_of_year : (1 ≤ day - 1 - days + 1) × (day - 1 - days + 1 ≤ year_length (2000 + years))
    day_of_year = (omega arith, omega (arith, passed.not_next))

    pub date_is : in_year (2000 + years) (day - 1 - days + 1) ≡ date_of day
    date_is =
        let e : days_of_years years 2000 + (day - 1 - days + 1) ≡ day = omega (arith, passed.whole) in
        sym (in_year_lem years (day - 1 - days + 1) day_of_year.0 day_of_year.1) ∙ ap date_of e

-- ---- the day after the last of a month

module _ (d : Date) (last : month_length d.year d.month ≤ d.day) where
  pub after_in_year : d.month < 12 → dated d.year (d.month + 1) 1 ≡ day_after d
  unfolding next_first
  after_in_year k = rw (after_month_end d last, lt-ltb d.month 12 k)

  pub after_in_december : 12 ≤ d.month → dated (d.year + 1) 1 1 ≡ day_after d
  unfolding next_first
  after_in_december k = rw (after_month_end d last, le-ltb d.month 12 k)

pub ruleset days_after = (after_in_month, after_in_year, after_in_december)
