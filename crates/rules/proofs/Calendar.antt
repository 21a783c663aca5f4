-- What holds of the calendar, and what the code's divisions give.
use mathlib.Core.Path.{◌≡◌, refl, sym, ◌∙◌, ap, subst}
use mathlib.Core.Bool.{Bool, true, false, cond, not, ◌&&◌, ◌||◌}
use mathlib.Core.List.{List, [], ◌∷◌}
use Prim.Native.Nat.{ℕ, zero, suc, ◌+◌, ◌*◌, ◌-◌, ◌/◌, ◌%◌, ◌≤◌, ◌<◌}
use native.Mathlib.Omega.{arith}
use borrow.Author.Tests.{lt-ltb, le-ltb, le-leb, lt-leb, eqb-true, eqb-false, ltb-true, ltb-false}
use lib.Dec.{eqb, ltb}
use lib.ListN.{get_or, take}
use Rattle.rules.specs.Numbers.{sum}
use Rattle.rules.specs.Demands.{IsDate, DaysFollow}
use Rattle.rules.specs.Calendar.{Date, divides, is_leap_year, year_length, month_lengths, month_length, dated, in_months, in_year, in_years, date_of, days_of_years, day_number, next_first, day_after}
use Rattle.rules.specs.Calendar.{Weekday, monday, tuesday, wednesday, thursday, friday, saturday, sunday, following, weekday_of, is_monday_to_friday, day_of, quarter_of_day}

-- ---- two numbers, one before the other or the same

pub data Order (a b : ℕ) : Type 0 where
  before : a < b → Order a b
  same : a ≡ b → Order a b
  behind : b < a → Order a b

pub order : (a b : ℕ) → Order a b
order a b = go (ltb a b) refl (eqb a b) refl
  where
    go : (t : Bool) → ltb a b ≡ t → (u : Bool) → eqb a b ≡ u → Order a b
    go true h u k = before (ltb-true a b h)
    go false h true k = same (eqb-true a b k)
    go false h false k = let w = eqb-false a b k in let v = ltb-false a b h in behind (omega (arith, w, v))

-- ---- the lengths of years and months

pub year_long : (year : ℕ) → (365 ≤ year_length year) × (year_length year ≤ 366)
unfolding year_length
year_long year = go (is_leap_year year)
  where
    go : (leap : Bool) → (365 ≤ cond leap 366 365) × (cond leap 366 365 ≤ 366)
    go true = (omega arith, omega arith)
    go false = (omega arith, omega arith)

february_long : (leap : Bool) → (28 ≤ cond leap 29 28) × (cond leap 29 28 ≤ 31)
february_long true = (omega arith, omega arith)
february_long false = (omega arith, omega arith)

pub months_sum : (year : ℕ) → sum (month_lengths year) ≡ year_length year
unfolding month_lengths year_length
months_sum year = go (is_leap_year year)
  where
    go : (leap : Bool) → sum (31 ∷ cond leap 29 28 ∷ 31 ∷ 30 ∷ 31 ∷ 30 ∷ 31 ∷ 31 ∷ 30 ∷ 31 ∷ 30 ∷ 31 ∷ []) ≡ cond leap 366 365
    go true = refl
    go false = refl

-- these are the lengths of a month and of the later ones of its year
abbrev pub Later : ℕ → ℕ → List ℕ → Type 0
Later year month [] = month ≡ 13
Later year month (days ∷ later) = (month_length year month ≡ days) × (28 ≤ days) × (days ≤ 31) × (month ≤ 12) × Later year (month + 1) later

pub months_later : (year : ℕ) → Later year 1 (month_lengths year)
unfolding month_lengths month_length
months_later year =
    let f = february_long (is_leap_year year) in
    (refl, omega arith, omega arith, omega arith, (refl, f.0, f.1, omega arith, (refl, omega arith, omega arith, omega arith, (refl, omega arith, omega arith, omega arith, (refl, omega arith, omega arith, omega arith, (refl, omega arith, omega arith, omega arith, (refl, omega arith, omega arith, omega arith, (refl, omega arith, omega arith, omega arith, (refl, omega arith, omega arith, omega arith, (refl, omega arith, omega arith, omega arith, (refl, omega arith, omega arith, omega arith, (refl, omega arith, omega arith, omega arith, refl))))))))))))

-- ---- the next day's date is the day after

module _ (year month day days : ℕ) (is : month_length year month ≡ days) where
  in_month : (later : List ℕ) → day < days → in_months year month (days ∷ later) (day + 1) ≡ day_after (in_months year month (days ∷ later) day)
  unfolding day_after
  in_month later k = rw (le-leb (day + 1) days (omega arith), le-leb day days (omega arith), is, lt-ltb day days k)

  past_month : (later : List ℕ) → days < day → in_months year (month + 1) later (day - days + 1) ≡ day_after (in_months year (month + 1) later (day - days))
      → in_months year month (days ∷ later) (day + 1) ≡ day_after (in_months year month (days ∷ later) day)
  past_month later k rest =
      let e : day + 1 - days ≡ day - days + 1 = omega arith in
      rw (lt-leb (day + 1) days (omega arith), lt-leb day days k, e) rest

  month_ends : (next : ℕ) (later : List ℕ) → day ≡ days → 1 ≤ next → month < 12
      → in_months year month (days ∷ next ∷ later) (day + 1) ≡ day_after (in_months year month (days ∷ next ∷ later) day)
  unfolding day_after next_first
  month_ends next later k some early =
      let e : day + 1 - days ≡ 1 = omega arith in
      rw (lt-leb (day + 1) days (omega arith), le-leb day days (omega arith), e, le-leb 1 next some, is, le-ltb day days (omega arith), lt-ltb month 12 early)

next_in_year : (year month : ℕ) (lengths : List ℕ) → Later year month lengths → (day : ℕ) → day < sum lengths
    → in_months year month lengths (day + 1) ≡ day_after (in_months year month lengths day)
next_in_year year month [] h day k = absurd (omega arith)
next_in_year year month (days ∷ later) h day k = by later h.4 k (order day days) (next_in_year year (month + 1) later h.4)
  where
    by : (later : List ℕ) → Later year (month + 1) later → day < days + sum later → Order day days
        → ((d : ℕ) → d < sum later → in_months year (month + 1) later (d + 1) ≡ day_after (in_months year (month + 1) later d))
        → in_months year month (days ∷ later) (day + 1) ≡ day_after (in_months year month (days ∷ later) day)
    by later l k (before b) rest = in_month year month day days h.0 later b
    by [] l k (same e) rest = absurd (omega arith)
    by (next ∷ later) l k (same e) rest = month_ends year month day days h.0 next later e (omega (arith, l.1)) (omega (arith, l.3))
    by later l k (behind b) rest = past_month year month day days h.0 later b (rest (day - days) (omega arith))

last_of_year : (year : ℕ) → in_year year (year_length year) ≡ dated year 12 31
unfolding year_length month_lengths
last_of_year year = go (is_leap_year year)
  where
    go : (leap : Bool) → in_months year 1 (31 ∷ cond leap 29 28 ∷ 31 ∷ 30 ∷ 31 ∷ 30 ∷ 31 ∷ 31 ∷ 30 ∷ 31 ∷ 30 ∷ 31 ∷ []) (cond leap 366 365) ≡ dated year 12 31
    go true = refl
    go false = refl

first_of_year : (year : ℕ) → in_year year 1 ≡ dated year 1 1
unfolding month_lengths
first_of_year year = refl

after_last : (year : ℕ) → day_after (dated year 12 31) ≡ dated (year + 1) 1 1
unfolding day_after next_first month_length month_lengths
after_last year = refl

-- in the year at hand, however many years more there may be
pub year_found : (years year day : ℕ) → day ≤ year_length year → in_years years year day ≡ in_year year day
year_found zero year day k = refl
year_found (suc years) year day k = rw (le-leb day (year_length year) k)

next_in_years : (years year day : ℕ) → 1 ≤ day → day < years → in_years years year (day + 1) ≡ day_after (in_years years year day)
next_in_years zero year day some k = absurd (omega arith)
next_in_years (suc years) year day some k = by (order day (year_length year)) (next_in_years years (year + 1) (day - year_length year))
  where
    by : Order day (year_length year)
        → (1 ≤ day - year_length year → day - year_length year < years → in_years years (year + 1) (day - year_length year + 1) ≡ day_after (in_years years (year + 1) (day - year_length year)))
        → in_years (suc years) year (day + 1) ≡ day_after (in_years (suc years) year day)
    by (before b) rest =
        rw (le-leb (day + 1) (year_length year) (omega arith), le-leb day (year_length year) (omega arith))
        (next_in_year year 1 (month_lengths year) (months_later year) day (omega (arith, months_sum year)))
    by (same e) rest =
        let w = year_long (year + 1) in
        let one : day + 1 - year_length year ≡ 1 = omega arith in
        rw (lt-leb (day + 1) (year_length year) (omega arith), le-leb day (year_length year) (omega arith), one, year_found years (year + 1) 1 (omega (arith, w)))
        (rw e (rw (last_of_year year) (first_of_year (year + 1) ∙ sym (after_last year))))
    by (behind b) rest =
        let w = year_long year in
        let e : day + 1 - year_length year ≡ day - year_length year + 1 = omega arith in
        rw (lt-leb (day + 1) (year_length year) (omega arith), lt-leb day (year_length year) b, e) (rest (omega arith) (omega (arith, w)))

-- more years than days change nothing
enough : (years more year day : ℕ) → day ≤ years → day ≤ more → in_years years year day ≡ in_years more year day
enough zero more year day k l = let w = year_long year in sym (year_found more year day (omega (arith, w)))
enough (suc years) zero year day k l = let w = year_long year in year_found (suc years) year day (omega (arith, w))
enough (suc years) (suc more) year day k l =
    let w = year_long year in
    let e : in_years years (year + 1) (day - year_length year) ≡ in_years more (year + 1) (day - year_length year) =
    enough years more (year + 1) (day - year_length year) (omega (arith, w)) (omega (arith, w)) in
    rw e

pub date_next : (day : ℕ) → 1 ≤ day → date_of (day + 1) ≡ day_after (date_of day)
unfolding date_of
date_next day some =
    next_in_years (day + 1) 2000 day some (omega arith) ∙ ap day_after (enough (day + 1) day 2000 day (omega arith) (omega arith))

-- ---- the date from a year and a day of it

years_passed : (years more year day : ℕ) → 1 ≤ day → in_years (years + more) year (days_of_years years year + day) ≡ in_years more (year + years) day
years_passed zero more year day some =
    let e : year + 0 ≡ year = omega arith in
    let f : 0 + more ≡ more = omega arith in
    let g : 0 + day ≡ day = omega arith in
    rw (e, f, g)
years_passed (suc years) more year day some =
    let l = year_length year in
    let e : l + days_of_years years (year + 1) + day - l ≡ days_of_years years (year + 1) + day = omega arith in
    let f : year + 1 + years ≡ year + suc years = omega arith in
    let g : suc years + more ≡ suc (years + more) = omega arith in
    rw (g, lt-leb (l + days_of_years years (year + 1) + day) l (omega arith), e, years_passed years more (year + 1) day some, f)

-- day 1 of a year comes after all days of the years from 2000 on
pub in_year_lem : (years day : ℕ) → 1 ≤ day → day ≤ year_length (2000 + years) → date_of (days_of_years years 2000 + day) ≡ in_year (2000 + years) day
unfolding date_of
in_year_lem years day some k =
    enough (days_of_years years 2000 + day) (years + (days_of_years years 2000 + day)) 2000 (days_of_years years 2000 + day) (omega arith) (omega arith)
    ∙ years_passed years (days_of_years years 2000 + day) 2000 day some
    ∙ year_found (days_of_years years 2000 + day) (2000 + years) day k

pub years_more : (years year : ℕ) → days_of_years (suc years) year ≡ days_of_years years year + year_length (year + years)
years_more zero year =
    let e : year + 0 ≡ year = omega arith in
    let f : year_length (year + 0) ≡ year_length year = ap year_length e in
    omega (arith, f)
years_more (suc years) year =
    let e : year + 1 + years ≡ year + suc years = omega arith in
    let f : year_length (year + 1 + years) ≡ year_length (year + suc years) = ap year_length e in
    omega (arith, years_more years (year + 1), f)

-- a year more is one more of those that 4, 100 or 400 divide, or none
module _ (years : ℕ) where
  fours : (t : Bool) → divides 4 (2000 + years) ≡ t → (years + 4) / 4 ≡ (years + 3) / 4 + cond t 1 0
  fours true e = let a = eqb-true ((2000 + years) % 4) 0 e in omega (arith, a)
  fours false e = let a = eqb-false ((2000 + years) % 4) 0 e in omega (arith, a)

  hundreds : (t : Bool) → divides 100 (2000 + years) ≡ t → (years + 100) / 100 ≡ (years + 99) / 100 + cond t 1 0
  hundreds true e = let a = eqb-true ((2000 + years) % 100) 0 e in omega (arith, a)
  hundreds false e = let a = eqb-false ((2000 + years) % 100) 0 e in omega (arith, a)

  four_hundreds : (t : Bool) → divides 400 (2000 + years) ≡ t → (years + 400) / 400 ≡ (years + 399) / 400 + cond t 1 0
  four_hundreds true e = let a = eqb-true ((2000 + years) % 400) 0 e in omega (arith, a)
  four_hundreds false e = let a = eqb-false ((2000 + years) % 400) 0 e in omega (arith, a)

  -- what 100 divides, 4 divides, and what 400 divides, 100 divides
  divided : (f h q : Bool) → divides 4 (2000 + years) ≡ f → divides 100 (2000 + years) ≡ h → divides 400 (2000 + years) ≡ q
      → cond (f && (not h || q)) 366 365 + cond h 1 0 ≡ 365 + cond f 1 0 + cond q 1 0
  divided true true true x y z = refl
  divided true true false x y z = refl
  divided true false false x y z = refl
  divided false false false x y z = refl
  divided true false true x y z = let a = eqb-false ((2000 + years) % 100) 0 y in let b = eqb-true ((2000 + years) % 400) 0 z in absurd (omega (arith, a, b))
  divided false false true x y z = let a = eqb-false ((2000 + years) % 4) 0 x in let b = eqb-true ((2000 + years) % 400) 0 z in absurd (omega (arith, a, b))
  divided false true q x y z = let a = eqb-false ((2000 + years) % 4) 0 x in let b = eqb-true ((2000 + years) % 100) 0 y in absurd (omega (arith, a, b))

  leap_counts : year_length (2000 + years) + (years + 100) / 100 + (years + 3) / 4 + (years + 399) / 400
      ≡ 365 + (years + 99) / 100 + (years + 4) / 4 + (years + 400) / 400
  unfolding year_length is_leap_year
  leap_counts =
      let f = divides 4 (2000 + years) in
      let h = divides 100 (2000 + years) in
      let q = divides 400 (2000 + years) in
      omega (arith, fours f refl, hundreds h refl, four_hundreds q refl, divided f h q refl refl refl)

-- the days of so many years from 2000 on, by division
pub years_days : (years : ℕ) → days_of_years years 2000 + (years + 99) / 100 ≡ 365 * years + (years + 3) / 4 + (years + 399) / 400
years_days zero = refl
years_days (suc years) =
    let f : (suc years + 3) / 4 ≡ (years + 4) / 4 = omega arith in
    let h : (suc years + 99) / 100 ≡ (years + 100) / 100 = omega arith in
    let q : (suc years + 399) / 400 ≡ (years + 400) / 400 = omega arith in
    rw (f, h, q) (with_year years (days_of_years years 2000) (year_length (2000 + years)) _ _ _ _ _ _ (years_more years 2000) (years_days years) (leap_counts years))
  where
    with_year : (years days year : ℕ) {all : ℕ} (f h q f' h' q' : ℕ) → all ≡ days + year → days + h ≡ 365 * years + f + q
        → year + h' + f + q ≡ 365 + h + f' + q' → all + h' ≡ 365 * suc years + f' + q'
    with_year years days year f h q f' h' q' x y z = omega arith

-- ---- every day number is a date

months_long : (year month : ℕ) (lengths : List ℕ) → Later year month lengths → (m : ℕ) → month ≤ m → m ≤ 12 → (28 ≤ month_length year m) × (month_length year m ≤ 31)
months_long year month [] h m low high = absurd (omega arith)
months_long year month (days ∷ later) h m low high = by (order month m) (months_long year (month + 1) later h.4 m)
  where
    by : Order month m → (month + 1 ≤ m → m ≤ 12 → (28 ≤ month_length year m) × (month_length year m ≤ 31)) → (28 ≤ month_length year m) × (month_length year m ≤ 31)
    by (before b) rest = rest (omega arith) high
    by (same e) rest = rw (← e, h.0) (h.1, h.2)
    by (behind b) rest = absurd (omega arith)

pub month_long : (year month : ℕ) → 1 ≤ month → month ≤ 12 → (28 ≤ month_length year month) × (month_length year month ≤ 31)
month_long year month low high = months_long year 1 (month_lengths year) (months_later year) month low high

next_first_is_date : (d : Date) → IsDate d → IsDate (next_first d)
unfolding next_first
next_first_is_date d h = by (ltb d.month 12) refl
  where
    by : (t : Bool) → ltb d.month 12 ≡ t → IsDate (cond t (dated d.year (d.month + 1) 1) (dated (d.year + 1) 1 1))
    by true e =
        let k = ltb-true d.month 12 e in
        let l = month_long d.year (d.month + 1) (omega arith) (omega arith) in
        record { since = h.since; month_some = omega arith; month_few = omega arith; day_some = omega arith; day_few = omega arith }
    by false e =
        let l = month_long (d.year + 1) 1 (omega arith) (omega arith) in
        record { since = omega (arith, h.since); month_some = omega arith; month_few = omega arith; day_some = omega arith; day_few = omega arith }

pub after_in_month : (d : Date) → d.day < month_length d.year d.month → day_after d ≡ dated d.year d.month (d.day + 1)
unfolding day_after
after_in_month d k = rw (lt-ltb d.day (month_length d.year d.month) k)

pub after_month_end : (d : Date) → month_length d.year d.month ≤ d.day → day_after d ≡ next_first d
unfolding day_after
after_month_end d k = rw (le-ltb d.day (month_length d.year d.month) k)

after_is_date : (d : Date) → IsDate d → IsDate (day_after d)
unfolding day_after
after_is_date d h = by (ltb d.day (month_length d.year d.month)) refl (next_first_is_date d h)
  where
    by : (t : Bool) → ltb d.day (month_length d.year d.month) ≡ t → IsDate (next_first d)
        → IsDate (cond t (dated d.year d.month (d.day + 1)) (next_first d))
    by true e k =
        let l = ltb-true d.day (month_length d.year d.month) e in
        record { since = h.since; month_some = h.month_some; month_few = h.month_few; day_some = omega arith; day_few = omega arith }
    by false e k = k

sum_more : (l : List ℕ) (n : ℕ) → sum (take (suc n) l) ≡ sum (take n l) + get_or l n 0
sum_more [] zero = refl
sum_more [] (suc n) = refl
sum_more (x ∷ l) zero = omega arith
sum_more (x ∷ l) (suc n) = omega (arith, sum_more l n)

all_months : (year : ℕ) → sum (take 12 (month_lengths year)) ≡ sum (month_lengths year)
unfolding month_lengths
all_months year = refl

eleven_months : (year : ℕ) → sum (take 11 (month_lengths year)) + month_length year 12 ≡ year_length year
unfolding month_length
eleven_months year = sym (sum_more (month_lengths year) 11) ∙ all_months year ∙ months_sum year

month_more : (year month : ℕ) → 1 ≤ month → sum (take month (month_lengths year)) ≡ sum (take (month - 1) (month_lengths year)) + month_length year month
unfolding month_length
month_more year zero some = absurd (omega arith)
month_more year (suc month) some = let e : suc month - 1 ≡ month = omega arith in rw e (sum_more (month_lengths year) month)

-- the number that the day after comes back to
number_first : (d : Date) → IsDate d → d.day ≡ month_length d.year d.month → day_number (next_first d) ≡ day_number d + 1
unfolding next_first day_number
number_first d h last = by (ltb d.month 12) refl
  where
    days : Date → ℕ
    days d = days_of_years (d.year - 2000) 2000 + sum (take (d.month - 1) (month_lengths d.year)) + d.day

    by : (t : Bool) → ltb d.month 12 ≡ t → days (cond t (dated d.year (d.month + 1) 1) (dated (d.year + 1) 1 1)) ≡ days d + 1
    by true e =
        let f : d.month + 1 - 1 ≡ d.month = omega arith in
        rw f (omega (arith, month_more d.year d.month h.month_some, last))
    by false e =
        let k = ltb-false d.month 12 e in
        let m : d.month ≡ 12 = omega (arith, h.month_few) in
        let f : d.year + 1 - 2000 ≡ suc (d.year - 2000) = omega (arith, h.since) in
        let g : 2000 + (d.year - 2000) ≡ d.year = omega (arith, h.since) in
        let l : year_length (2000 + (d.year - 2000)) ≡ year_length d.year = ap year_length g in
        let n : month_length d.year d.month ≡ month_length d.year 12 = ap (month_length d.year) m in
        rw (f, m) (omega (arith, years_more (d.year - 2000) 2000, l, eleven_months d.year, last, n))

number_in_month : (d : Date) → day_number (dated d.year d.month (d.day + 1)) ≡ day_number d + 1
unfolding day_number
number_in_month d = omega arith

number_after : (d : Date) → IsDate d → day_number (day_after d) ≡ day_number d + 1
unfolding day_after
number_after d h = by (ltb d.day (month_length d.year d.month)) refl
  where
    by : (t : Bool) → ltb d.day (month_length d.year d.month) ≡ t
        → day_number (cond t (dated d.year d.month (d.day + 1)) (next_first d)) ≡ day_number d + 1
    by true e = number_in_month d
    by false e =
        let k = ltb-false d.day (month_length d.year d.month) e in
        number_first d h (omega (arith, h.day_few))

-- its date, and the way back
record Numbered (day : ℕ) : Type 0 where
  is_date : IsDate (date_of day)
  back : day_number (date_of day) ≡ day

numbered : (day : ℕ) → Numbered (suc day)
unfolding date_of year_length month_lengths month_length is_leap_year day_number
numbered zero = record { is_date = record { since = omega arith; month_some = omega arith; month_few = omega arith; day_some = omega arith; day_few = omega arith }; back = refl }
numbered (suc day) = next day (numbered day)
  where
    next : (day : ℕ) → Numbered (suc day) → Numbered (suc (suc day))
    next day n =
        let e : suc day + 1 ≡ suc (suc day) = omega arith in
        let f : date_of (suc (suc day)) ≡ day_after (date_of (suc day)) = ap date_of (sym e) ∙ date_next (suc day) (omega arith) in
        record {
          is_date = subst IsDate (sym f) (after_is_date (date_of (suc day)) n.is_date);
          back = ap day_number f ∙ number_after (date_of (suc day)) n.is_date ∙ ap (λ (x : ℕ). x + 1) n.back ∙ e;
        }

numbered_from_one : (day : ℕ) → 1 ≤ day → Numbered day
numbered_from_one zero some = absurd (omega arith)
numbered_from_one (suc day) some = numbered day

pub is_date : (day : ℕ) → 1 ≤ day → IsDate (date_of day)
is_date day some = (numbered_from_one day some).is_date

pub comes_back : (day : ℕ) → 1 ≤ day → day_number (date_of day) ≡ day
comes_back day some = (numbered_from_one day some).back

-- no year is beyond its days
years_many : (years year : ℕ) → years ≤ days_of_years years year
years_many zero year = omega arith
years_many (suc years) year = let w = year_long year in omega (arith, w, years_many years (year + 1))

years_back : (d : Date) → d.year ≤ 2000 + day_number d
unfolding day_number
years_back d = omega (arith, years_many (d.year - 2000) 2000)

pub year_low : (day : ℕ) → 1 ≤ day → (date_of day).year ≤ 2000 + day
year_low day some = omega (arith, years_back (date_of day), comes_back day some)

-- ---- weekdays

abbrev week : List Weekday
week = saturday ∷ sunday ∷ monday ∷ tuesday ∷ wednesday ∷ thursday ∷ friday ∷ []

by_week : (P : ℕ → Type 0) → P 0 → P 1 → P 2 → P 3 → P 4 → P 5 → P 6 → (r : ℕ) → r < 7 → P r
by_week P a b c d e f g zero h = a
by_week P a b c d e f g (suc zero) h = b
by_week P a b c d e f g (suc (suc zero)) h = c
by_week P a b c d e f g (suc (suc (suc zero))) h = d
by_week P a b c d e f g (suc (suc (suc (suc zero)))) h = e
by_week P a b c d e f g (suc (suc (suc (suc (suc zero))))) h = f
by_week P a b c d e f g (suc (suc (suc (suc (suc (suc zero)))))) h = g
by_week P a b c d e f g (suc (suc (suc (suc (suc (suc (suc r))))))) h = absurd (omega arith)

-- n days after a Saturday, by what n leaves divided by 7
module _ (n : ℕ) where
  turns : (r : ℕ) → r < 7 → n % 7 ≡ r → get_or week ((n + 1) % 7) saturday ≡ following (get_or week r saturday)
  turns =
      by_week (λ (r : ℕ). n % 7 ≡ r → get_or week ((n + 1) % 7) saturday ≡ following (get_or week r saturday))
      (λ e. let f : (n + 1) % 7 ≡ 1 = omega arith in rw f) (λ e. let f : (n + 1) % 7 ≡ 2 = omega arith in rw f)
      (λ e. let f : (n + 1) % 7 ≡ 3 = omega arith in rw f) (λ e. let f : (n + 1) % 7 ≡ 4 = omega arith in rw f)
      (λ e. let f : (n + 1) % 7 ≡ 5 = omega arith in rw f) (λ e. let f : (n + 1) % 7 ≡ 6 = omega arith in rw f)
      (λ e. let f : (n + 1) % 7 ≡ 0 = omega arith in rw f)

  from_monday : (r : ℕ) → r < 7 → n % 7 ≡ r → is_monday_to_friday (get_or week r saturday) ≡ ltb ((n + 5) % 7) 5
  from_monday =
      by_week (λ (r : ℕ). n % 7 ≡ r → is_monday_to_friday (get_or week r saturday) ≡ ltb ((n + 5) % 7) 5)
      (λ e. let f : (n + 5) % 7 ≡ 5 = omega arith in rw f) (λ e. let f : (n + 5) % 7 ≡ 6 = omega arith in rw f)
      (λ e. let f : (n + 5) % 7 ≡ 0 = omega arith in rw f) (λ e. let f : (n + 5) % 7 ≡ 1 = omega arith in rw f)
      (λ e. let f : (n + 5) % 7 ≡ 2 = omega arith in rw f) (λ e. let f : (n + 5) % 7 ≡ 3 = omega arith in rw f)
      (λ e. let f : (n + 5) % 7 ≡ 4 = omega arith in rw f)

pub next_weekday : (day : ℕ) → 1 ≤ day → weekday_of (day + 1) ≡ following (weekday_of day)
unfolding weekday_of
next_weekday day some =
    let e : day + 1 - 1 ≡ day - 1 + 1 = omega arith in
    rw e (turns (day - 1) ((day - 1) % 7) (omega arith) refl)

-- Monday to Friday, by division: Monday leaves 0
pub monday_to_friday : (day : ℕ) → 1 ≤ day → is_monday_to_friday (weekday_of day) ≡ ltb ((day + 4) % 7) 5
unfolding weekday_of
monday_to_friday day some =
    let e : day + 4 ≡ day - 1 + 5 = omega arith in
    rw e (from_monday (day - 1) ((day - 1) % 7) (omega arith) refl)

-- ---- quarters

module _ (quarter : ℕ) where
  pub day_some : 1 ≤ day_of quarter
  unfolding day_of
  day_some = omega arith

  pub quarter_few : quarter_of_day quarter ≤ 95
  unfolding quarter_of_day
  quarter_few = omega arith

  pub day_few : 96 * day_of quarter ≤ quarter + 96
  unfolding day_of
  day_few = omega arith

  module _ (some : 1 ≤ quarter) where
    pub next_in_day : quarter_of_day quarter < 95 → (quarter_of_day (quarter + 1) ≡ quarter_of_day quarter + 1) × (day_of (quarter + 1) ≡ day_of quarter)
    unfolding quarter_of_day day_of
    next_in_day k = (omega arith, omega arith)

    pub next_day : 95 ≤ quarter_of_day quarter → (quarter_of_day (quarter + 1) ≡ 0) × (day_of (quarter + 1) ≡ day_of quarter + 1)
    unfolding quarter_of_day day_of
    next_day k = (omega arith, omega arith)

pub days_follow : DaysFollow
unfolding date_of year_length month_lengths is_leap_year weekday_of
days_follow = record {
  first_date = refl;
  next_date = date_next;
  is_date = is_date;
  comes_back = comes_back;
  first_weekday = refl;
  next_weekday = next_weekday;
}
