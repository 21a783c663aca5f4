-- Worked examples of the calendar, of the delivery day and of dated measures (02, 1): an entry has what the definitions give and what the
-- calendar on the wall or 02 says; proofs/DateFigures.antt proves that all are equal.
use Rattle.std.specs.Prelude.{ℕ, zero, suc, ◌+◌, ◌^◌, ◌-◌, List, [], ◌∷◌, ◌++◌, map, ℤ, pos, replicate, drop}
use Rattle.rules.specs.Outcome.{number_of, after}
use Rattle.rules.specs.Calendar.{Date, dated, date_of, day_number, day_of, quarter_of_day, weekday_of, is_monday_to_friday, delivery_day}
use Rattle.rules.specs.Terms.{terms_of, month_of, quarter_of_day_of}
use Rattle.rules.specs.Settle.{settle, list_after}
use Rattle.rules.specs.Host.{host_settle}
use Rattle.rules.specs.Figures.{head, plant, measure, quarter, with_byte, with_word, minus, lent, bit, settling, settles_a, refuses, number}
use Rattle.rules.specs.Figures.{case_a, case_b, case_d, case_g, factor_case}

-- ---- dates

abbrev told : Date → List ℕ
told d = d.year ∷ d.month ∷ d.day ∷ []

-- year, month, day and quarter of the day of a quarter
abbrev moment : ℕ → List ℕ
moment n = told (date_of (day_of n)) ++ quarter_of_day n ∷ []

-- month and quarter of the day of a solar Pauschal measure's quarter, by the number of the first; its bytes say month 13, quarter 255
abbrev day_time : ℕ → ℕ → List ℕ
day_time first index =
    let terms = terms_of (plant 2 2 0 0 2 1000000) (with_word (measure 2 2 0 0 3) 0 16 first) in
    let r = quarter 13 255 0 0 0 0 0 in
    month_of terms index r ∷ quarter_of_day_of terms index r ∷ []

unfoldable pub dates : List (List ℕ × List ℕ)
dates =
    -- the first and the last quarter of the first day, and the next
    (moment 1, 2000 ∷ 1 ∷ 1 ∷ 0 ∷ [])
    ∷ (moment 96, 2000 ∷ 1 ∷ 1 ∷ 95 ∷ [])
    ∷ (moment 97, 2000 ∷ 1 ∷ 2 ∷ 0 ∷ [])
    -- 1 October 2026, 0:00; 31 December 2099, 23:45
    ∷ (moment 937921, 2026 ∷ 10 ∷ 1 ∷ 0 ∷ [])
    ∷ (moment 3506400, 2099 ∷ 12 ∷ 31 ∷ 95 ∷ [])
    -- the end of February in 2000, 2027, 2028 and 2100
    ∷ (told (date_of 60), 2000 ∷ 2 ∷ 29 ∷ [])
    ∷ (told (date_of 9921) ++ told (date_of 9922), 2027 ∷ 2 ∷ 28 ∷ 2027 ∷ 3 ∷ 1 ∷ [])
    ∷ (told (date_of 10287) ++ told (date_of 10288), 2028 ∷ 2 ∷ 29 ∷ 2028 ∷ 3 ∷ 1 ∷ [])
    ∷ (told (date_of 36584) ++ told (date_of 36585), 2100 ∷ 2 ∷ 28 ∷ 2100 ∷ 3 ∷ 1 ∷ [])
    -- the last day that a delivery day can be
    ∷ (told (date_of 36556), 2100 ∷ 1 ∷ 31 ∷ [])
    -- the way back
    ∷ (day_number (dated 2000 1 1) ∷ day_number (dated 2026 10 1) ∷ day_number (dated 2028 2 29) ∷ day_number (dated 2099 12 31) ∷ [], 1 ∷ 9771 ∷ 10287 ∷ 36525 ∷ [])
    -- Saturday, Sunday, and the working week after them
    ∷ (map (λ day. bit (is_monday_to_friday (weekday_of day))) (1 ∷ 2 ∷ 3 ∷ 4 ∷ 5 ∷ 6 ∷ 7 ∷ 8 ∷ []), 0 ∷ 0 ∷ 1 ∷ 1 ∷ 1 ∷ 1 ∷ 1 ∷ 0 ∷ [])
    -- month and quarter of the day along a measure from 31 October 2026, 18:45, on, whatever its quarters' bytes
    ∷ (day_time 940876 0 ++ day_time 940876 20 ++ day_time 940876 21 ++ day_time 940876 57, 10 ∷ 75 ∷ 10 ∷ 95 ∷ 11 ∷ 0 ∷ 11 ∷ 36 ∷ [])
    -- a measure without a date keeps its quarters' bytes
    ∷ (day_time 0 0 ++ day_time 0 57, 13 ∷ 255 ∷ 13 ∷ 255 ∷ [])
    ∷ []

-- ---- delivery days

-- its number, and what stands afterwards where 7 stood
abbrev delivering : ℕ → List ℕ → List ℕ
delivering n holidays = number_of (delivery_day n holidays) ∷ after (delivery_day n holidays) (λ day. day) 7 ∷ []

-- the working days of November 2026 but the three Mondays 9,803, 9,817 and 9,831, the last first
abbrev pub all_but_three : List ℕ
all_but_three =
    9828 ∷ 9827 ∷ 9826 ∷ 9825 ∷ 9824 ∷ 9821 ∷ 9820 ∷ 9819 ∷ 9818 ∷ 9814 ∷ 9813 ∷ 9812 ∷ 9811 ∷ 9810 ∷ 9807 ∷ 9806 ∷ 9805 ∷ 9804 ∷ []

unfoldable pub deliveries : List (List ℕ × List ℕ)
deliveries =
    -- from October 2026: Thursday, 5 November; Friday where that is a holiday
    (delivering 937921 [], 0 ∷ 9806 ∷ [])
    ∷ (delivering 937921 (9806 ∷ []), 0 ∷ 9807 ∷ [])
    -- the month's last quarter has the same, the next one's first quarter that of December
    ∷ (delivering 940896 [] ++ delivering 940897 [], 0 ∷ 9806 ∷ 0 ∷ 9835 ∷ [])
    -- from the last quarter of the calendar: Wednesday, 6 January 2100; from the last of 2027: Thursday, 6 January 2028
    ∷ (delivering 3506400 [], 0 ∷ 36531 ∷ [])
    ∷ (delivering 981792 [], 0 ∷ 10233 ∷ [])
    -- no effect: weekends, other months, 0, beyond the calendar, repeats
    ∷ (delivering 937921 (9802 ∷ 9808 ∷ 9772 ∷ 9835 ∷ 0 ∷ 4294967295 ∷ []), 0 ∷ 9806 ∷ [])
    ∷ (delivering 937921 (9806 ∷ 9806 ∷ []), 0 ∷ 9807 ∷ [])
    -- any order
    ∷ (delivering 937921 (9806 ∷ 9803 ∷ []), 0 ∷ 9810 ∷ [])
    -- a list that leaves three, and one that leaves four
    ∷ (delivering 937921 all_but_three, 0 ∷ 0 ∷ [])
    ∷ (delivering 937921 (drop 1 all_but_three), 0 ∷ 9831 ∷ [])
    -- 18
    ∷ (delivering 0 [] ++ delivering 3506401 [] ++ delivering (2 ^ 64 - 1) [], 18 ∷ 7 ∷ 18 ∷ 7 ∷ 18 ∷ 7 ∷ [])
    ∷ []

-- ---- dated measures

-- so many quarters with these bytes 1 and 2, the next one at this number
abbrev quarters_at : ℕ → ℕ → ℕ → ℕ → List ℕ
quarters_at month of_day next zero = []
quarters_at month of_day next (suc zero) = quarter month of_day 0 0 0 0 0
quarters_at month of_day next (suc (suc more)) = quarter month of_day next 0 0 0 0 ++ quarters_at month of_day (next + 1) (suc more)

-- solar Pauschal, so many quarters from this one on: 1 plant, 2 measure, quarters from 3
unfoldable pub dated_case : ℕ → ℕ → ℕ → ℕ → List ℕ
dated_case first month of_day count =
    with_word (head (3 + count) 1 ++ plant 2 2 0 0 2 1000000 ++ measure 2 2 0 0 3 ++ quarters_at month of_day 4 count) 2 16 first

-- the list that settle leaves, and its number alone
abbrev leaving : List ℕ → ℕ → List ℤ
leaving archive places = list_after (settle archive 1 1 places) (lent places)

abbrev number_for : List ℕ → ℕ → List ℤ
number_for archive places = number (settle archive 1 1 places)

abbrev pub late : List ℤ
late = pos 18 ∷ []

-- a, with no reading of nonavailability in its quarters (02, 3)
abbrev unbounded_a : List ℕ
unbounded_a = with_word (with_word (with_word case_a 4 24 2147483647) 5 24 2147483647) 6 24 2147483647

unfoldable pub over_months : List (List ℤ × List ℤ)
over_months =
    -- from 31 October 2026, 23:45, to 1 November, 0:15, whatever bytes 1 and 2 of the quarters are; where July, 10:00, gives 154,725 each
    (leaving (dated_case 940896 7 40 3) 3, replicate 3 (pos 0))
    ∷ (leaving (dated_case 940896 13 255 3) 3, replicate 3 (pos 0))
    ∷ (leaving (dated_case 0 7 40 3) 3, replicate 3 (pos 154725))
    -- from 29 February 2028, 23:45, to 1 March, 0:15
    ∷ (leaving (dated_case 987552 13 255 3) 3, replicate 3 (pos 0))
    -- from 31 December 2026, 23:45, to 1 January 2027, 0:15
    ∷ (leaving (dated_case 946752 13 255 3) 3, replicate 3 (pos 0))
    -- 31 October 2026, 18:45, in summer, and 1 November, 9:00, in winter; 29 February 2028, 6:00, in winter, and 1 March in summer
    ∷ (leaving (dated_case 940876 13 255 1) 1 ++ leaving (dated_case 940933 13 255 1) 1, pos 61400 ∷ pos 69900 ∷ [])
    ∷ (leaving (dated_case 987481 13 255 1) 1 ++ leaving (dated_case 987577 13 255 1) 1, pos 0 ∷ pos 61400 ∷ [])
    ∷ []

unfoldable pub dated_measures : List (List ℤ × List ℤ)
dated_measures =
    -- without a date month 13 is out of range
    (number_for (dated_case 0 13 40 1) 1, pos 9 ∷ [])
    -- the calendar's last two quarters; a quarter later; the first one past the end
    ∷ (leaving (with_word (factor_case 7 35) 2 16 3506399) 2, pos 0 ∷ pos 0 ∷ [])
    ∷ (number_for (with_word (factor_case 7 35) 2 16 3506400) 2, late)
    ∷ (number_for (with_word (factor_case 7 35) 2 16 3506401) 2, late)
    -- other Pauschal: the last allowed first quarter, one later, the first one past the end, 2^31, and where first and count pass 32 bits
    ∷ (settling (with_word unbounded_a 2 16 3506398) 1 1 3, settles_a)
    ∷ (settling (with_word case_a 2 16 3506399) 1 1 3, refuses 18 3)
    ∷ (number_for (with_word case_a 2 16 3506401) 3, late)
    ∷ (number_for (with_word case_a 2 16 (2 ^ 31)) 3, late)
    ∷ (number_for (with_word case_a 2 16 (2 ^ 32 - 1)) 3, late)
    -- wind Spitz: the last quarter of the calendar, and the next
    ∷ (leaving (with_word case_b 4 16 3506400) 1, pos 250000 ∷ [])
    ∷ (number_for (with_word case_b 4 16 3506401) 1, late)
    -- wind Pauschal, solar Spitz, other Spitz
    ∷ (number_for (with_byte (with_word case_a 2 16 3506399) 1 1 1) 3, late)
    ∷ (number_for (with_word case_g 2 16 3506401) 1, late)
    ∷ (number_for (with_word case_d 2 16 3506401) 1, late)
    -- 8 before it, and 9, in a technology each
    ∷ (number_for (with_word (with_word case_a 2 12 0) 2 16 3506401) 3, pos 8 ∷ [])
    ∷ (number_for (with_word (with_word case_a 6 8 1000000001) 2 16 3506401) 3, pos 9 ∷ [])
    ∷ (number_for (with_word (with_word case_b 9 16 1001) 4 16 3506401) 1, pos 9 ∷ [])
    ∷ (number_for (with_word (with_word (factor_case 7 35) 4 8 (minus 1000000001)) 2 16 3506401) 2, pos 9 ∷ [])
    -- it before 13, in a technology each, and before the C entry's
    ∷ (number_for (with_word case_a 2 16 3506401) 2, late)
    ∷ (number_for (with_word case_b 4 16 3506401) 0, late)
    ∷ (number_for (with_word (factor_case 7 35) 2 16 3506401) 1, late)
    ∷ (number (host_settle (with_word case_a 2 16 3506401) 1 1 24 23), late)
    ∷ []
