-- Worked examples of the rules of October 2026 (02, 3): an entry has what the definitions give and what 02 says;
-- proofs/OctoberFigures.antt proves that all are equal.
use Rattle.std.specs.Prelude.{ℕ, ◌-◌, ◌^◌, List, [], ◌∷◌, ◌++◌, ℤ, pos, neg_ℤ}
use Rattle.rules.specs.Settle.{settle}
use Rattle.rules.specs.Figures.{head, plant, measure, before, quarter, with_word, minus, settling, settles, settles_one, settles_a, number}
use Rattle.rules.specs.DateFigures.{late}
use Rattle.rules.specs.Figures.{case_a, case_b, case_d, case_e, case_g, factor_case}

-- the last first quarter that is judged by the 2020 text, and the first one by the rules of October 2026
abbrev last_old : ℕ
last_old = 937920

abbrev first_new : ℕ
first_new = 937921

-- no reading
abbrev no_reading : ℕ
no_reading = 2147483647

-- ---- one quarter

-- Pauschal: technology, direction, execution, first quarter, reference, then measured power, limit, nonavailability and market adjustment of the
-- quarter. Pn is 1,000,000. 1 plant, 2 measure, 3 before-quarter, 4 quarter
unfoldable pub october_case : ℕ → ℕ → ℕ → ℕ → ℕ → ℕ → ℕ → ℕ → ℕ → List ℕ
october_case technology direction execution first reference measured limit nonavailability adjustment =
    with_word (with_word (with_word
    (head 5 1 ++ plant technology 2 0 0 2 1000000 ++ measure direction execution 0 3 4 ++ before 1 0 reference 0 ++ quarter 7 40 0 measured limit 0 0)
    2 16 first) 4 24 nonavailability) 4 28 adjustment

-- tolerated, reference 800,000, L 300,000: 125,000 Wh where nothing bounds T
abbrev wind : ℕ → ℕ → ℕ → List ℕ
wind first nonavailability adjustment = october_case 1 2 2 first 800000 300000 0 nonavailability adjustment

abbrev other : ℕ → ℕ → ℕ → List ℕ
other first nonavailability adjustment = october_case 3 2 2 first 800000 300000 0 nonavailability adjustment

-- positive, requested, reference 800,000, L 900,000: -25,000 Wh where nothing bounds L
abbrev positive : ℕ → ℕ → ℕ → List ℕ
positive first nonavailability adjustment = october_case 3 1 1 first 800000 950000 900000 nonavailability adjustment

abbrev one : List ℕ → List ℤ
one archive = settling archive 1 1 1

abbrev gives : ℕ → List ℤ
gives amount = settles_one (pos amount) 4

abbrev gives_minus : ℕ → List ℤ
gives_minus amount = settles_one (neg_ℤ (pos amount)) 4

abbrev number_of_one : List ℕ → List ℤ
number_of_one archive = number (settle archive 1 1 1)

abbrev out_of_range : List ℤ
out_of_range = pos 9 ∷ []

unfoldable pub bounded_references : List (List ℤ × List ℤ)
bounded_references =
    -- wind: the last old and the first new first quarter, and no date
    (one (wind last_old 500000 400000), gives 125000)
    ∷ (one (wind first_new 500000 400000), gives 25000)
    ∷ (one (wind 0 500000 400000), gives 125000)
    -- no reading, one, both; each of the three smallest once
    ∷ (one (wind first_new no_reading no_reading), gives 125000)
    ∷ (one (wind first_new 500000 no_reading), gives 50000)
    ∷ (one (wind first_new no_reading 400000), gives 25000)
    ∷ (one (wind first_new 400000 500000), gives 25000)
    ∷ (one (wind first_new 1000000000 900000), gives 125000)
    -- a bound of 0, below L; one below 0, above an L below 0; the lowest power is a reading too
    ∷ (one (wind first_new 0 no_reading), gives 0)
    ∷ (one (october_case 1 2 2 first_new 800000 (minus 300000) 0 (minus 100000) no_reading), gives 50000)
    ∷ (one (wind first_new no_reading (minus 1000000000)), gives 0)
    -- no cap at Pn: T is 1,500,000
    ∷ (one (october_case 1 2 2 first_new 2000000 300000 0 1500000 no_reading), gives 300000)
    -- requested, L 350,000; both sides fixed, L 300,000
    ∷ (one (october_case 1 2 1 first_new 800000 300000 350000 500000 400000), gives 12500)
    ∷ (one (october_case 1 2 3 first_new 800000 300000 350000 500000 400000), gives 25000)
    -- other plants: the same without the market adjustment, which isn't read
    ∷ (one (other last_old 500000 400000), gives 125000)
    ∷ (one (other first_new 500000 400000), gives 50000)
    ∷ (one (other 0 500000 400000), gives 125000)
    ∷ (one (other first_new no_reading 400000), gives 125000)
    ∷ (one (other first_new no_reading no_reading), gives 125000)
    ∷ (one (other first_new 900000 no_reading), gives 125000)
    ∷ (one (other first_new 500000 1000000001), gives 50000)
    ∷ (one (october_case 3 2 2 first_new 800000 (minus 300000) 0 (minus 100000) no_reading), gives 50000)
    ∷ (one (october_case 3 2 1 first_new 800000 300000 350000 500000 no_reading), gives 37500)
    ∷ (one (october_case 3 2 3 first_new 800000 300000 350000 500000 no_reading), gives 50000)
    ∷ []

unfoldable pub bounded_limitations : List (List ℤ × List ℤ)
bounded_limitations =
    -- positive: the last old and the first new first quarter, and no date
    (one (positive last_old 860000 no_reading), gives_minus 25000)
    ∷ (one (positive first_new 860000 no_reading), gives_minus 15000)
    ∷ (one (positive 0 860000 no_reading), gives_minus 25000)
    -- no reading; one above L; the market adjustment isn't read
    ∷ (one (positive first_new no_reading no_reading), gives_minus 25000)
    ∷ (one (positive first_new 940000 no_reading), gives_minus 25000)
    ∷ (one (positive first_new 860000 820000), gives_minus 15000)
    ∷ (one (positive first_new 860000 1000000001), gives_minus 15000)
    -- below the reference, which isn't bounded: 0, where a bounded reference and L as it was would give 50,000 Wh
    ∷ (one (positive first_new 600000 no_reading), gives_minus 0)
    -- the measured power is L in the other executions, and bounded too
    ∷ (one (october_case 3 1 2 first_new 800000 950000 900000 860000 no_reading), gives_minus 15000)
    ∷ (one (october_case 3 1 3 first_new 800000 950000 900000 860000 no_reading), gives_minus 15000)
    -- all below 0: L is -40,000, and T -100,000
    ∷ (one (october_case 3 1 1 first_new (minus 100000) 950000 900000 (minus 40000) no_reading), gives_minus 15000)
    ∷ []

-- ---- refusal 9

unfoldable pub tested_readings : List (List ℤ × List ℤ)
tested_readings =
    -- wind: both readings, whether or not one is the smallest; the ends of the range, and none alone beyond it
    (number_of_one (wind first_new 1000000001 0), out_of_range)
    ∷ (number_of_one (wind first_new 0 1000000001), out_of_range)
    ∷ (number_of_one (wind first_new (minus 1000000001) no_reading), out_of_range)
    ∷ (number_of_one (wind first_new no_reading (minus 1000000001)), out_of_range)
    ∷ (one (wind first_new 1000000000 1000000000), gives 125000)
    ∷ (number_of_one (wind first_new 2147483646 no_reading), out_of_range)
    ∷ (number_of_one (wind first_new no_reading (2 ^ 31)), out_of_range)
    -- other plants: nonavailability, in both directions
    ∷ (number_of_one (other first_new 1000000001 no_reading), out_of_range)
    ∷ (number_of_one (other first_new (minus 1000000001) no_reading), out_of_range)
    ∷ (number_of_one (positive first_new 1000000001 no_reading), out_of_range)
    ∷ (number_of_one (positive first_new (minus 1000000001) no_reading), out_of_range)
    -- older measures and those without a date aren't tested
    ∷ (one (wind last_old 1000000001 1000000001), gives 125000)
    ∷ (one (other last_old 1000000001 1000000001), gives 125000)
    ∷ (one (positive last_old 1000000001 1000000001), gives_minus 25000)
    ∷ (one (wind 0 1000000001 1000000001), gives 125000)
    -- a first quarter past the calendar is '937,921 or later': 9 before 18; what isn't read leaves 18
    ∷ (number_of_one (wind 3506401 1000000001 no_reading), out_of_range)
    ∷ (number_of_one (wind (2 ^ 32 - 1) no_reading 1000000001), out_of_range)
    ∷ (number_of_one (positive 3506401 1000000001 no_reading), out_of_range)
    ∷ (number_of_one (wind 3506401 0 0), late)
    ∷ (number_of_one (other 3506401 no_reading 1000000001), late)
    -- 9 before 13
    ∷ (number (settle (wind first_new 1000000001 no_reading) 1 1 0), out_of_range)
    ∷ []

-- ---- several quarters, and the other pairings

-- a with another first quarter, and nonavailability in each of its quarters
abbrev dated_a : ℕ → ℕ → ℕ → ℕ → List ℕ
dated_a first x y z = with_word (with_word (with_word (with_word case_a 2 16 first) 4 24 x) 5 24 y) 6 24 z

-- both readings of a quarter out of range
abbrev wild : List ℕ → ℕ → List ℕ
wild archive n = with_word (with_word archive n 24 1000000001) n 28 1000000001

unfoldable pub across_october : List (List ℤ × List ℤ)
across_october =
    -- a measure that begins before the date and runs past it keeps the 2020 text; a quarter later nothing is available
    (settling (dated_a 937919 0 0 0) 1 1 3, settles_a)
    ∷ (settling (dated_a last_old 0 0 0) 1 1 3, settles_a)
    ∷ (settling (dated_a first_new 0 0 0) 1 1 3, settles 3 (pos 0) 6 (pos 0 ∷ pos 0 ∷ pos 0 ∷ []))
    -- each quarter has its own bound, and the rest is carried: 500,002, none, 500,003 less 500,001, 500,001, 500,002, over 4
    ∷ (settling (dated_a first_new 500002 no_reading 500003) 1 1 3, settles 3 (pos 75000) 6 (pos 0 ∷ pos 75000 ∷ pos 0 ∷ []))
    ∷ (settling (dated_a first_new no_reading 500004 no_reading) 1 1 3, settles 3 (pos 150000) 6 (pos 74999 ∷ pos 1 ∷ pos 75000 ∷ []))
    -- one reading out of range among them
    ∷ (number (settle (dated_a first_new no_reading no_reading 1000000001) 1 1 3), out_of_range)
    -- wind Spitz, solar Spitz, solar Pauschal and other Spitz keep their rules, whatever stands in bytes 24-31
    ∷ (one (with_word case_b 4 16 first_new), settles_one (pos 250000) 9)
    ∷ (one (wild (with_word case_b 4 16 first_new) 9), settles_one (pos 250000) 9)
    ∷ (one (with_word case_g 2 16 first_new), settles_one (pos 100000) 6)
    ∷ (one (wild (with_word case_g 2 16 first_new) 6), settles_one (pos 100000) 6)
    ∷ (settling (with_word (factor_case 13 255) 2 16 937956) 1 1 2, settles 2 (pos 216125) 4 (pos 61400 ∷ pos 154725 ∷ []))
    ∷ (settling (wild (with_word (factor_case 13 255) 2 16 937956) 3) 1 1 2, settles 2 (pos 216125) 4 (pos 61400 ∷ pos 154725 ∷ []))
    ∷ (one (with_word case_d 2 16 first_new), settles_one (pos 100000) 3)
    ∷ (one (wild (with_word case_d 2 16 first_new) 3), settles_one (pos 100000) 3)
    ∷ (one (with_word case_e 2 16 first_new), settles_one (neg_ℤ (pos 25000)) 3)
    ∷ (one (wild (with_word case_e 2 16 first_new) 3), settles_one (neg_ℤ (pos 25000)) 3)
    ∷ []
