-- Worked examples on whole archives in bytes: the figures and refusals of 01, the order of its tests, and each call on the archive.
-- An entry has what the definitions give and what 01 says; proofs/Figures.antt proves that all are equal.
use Rattle.std.specs.Prelude.{ℕ, ◌+◌, ◌*◌, ◌-◌, ◌^◌, ◌≡◌, Bool, true, false, ℤ, pos, neg_ℤ, length, take, replicate}
use Prim.Native.Char.{code}
use Prim.Native.String.{String, [] as []ₛ, ◌∷◌ as ◌∷ₛ◌}
use mathlib.Core.List.{List, [], ◌∷◌, ◌++◌, map, flat_map}
use Rattle.std.specs.Int.Signed.{quot_z}
use Rattle.rules.specs.Outcome.{Outcome, ◌>>=◌, number_of, after}
use Rattle.rules.specs.Numbers.{sumℤ}
use Rattle.rules.specs.Archive.{plant_kind, point_kind, measure_kind, before_kind, quarter_kind}
use Rattle.rules.specs.Terms.{negative, requested, Point}
use Rattle.rules.specs.Reference.{limitation, curve_power}
use Rattle.rules.specs.Settle.{Settlement, settle, answer_of, list_after, usable}
use Rattle.rules.specs.Fractions.{Fractions, exact_fractions}
use Rattle.rules.specs.Encoding.{word, put}
use Rattle.rules.specs.Host.{host_settle, host_list_after, host_result_after}
use Rattle.rules.specs.Links.{namers}
use Rattle.rules.specs.Filing.{archive_after, fresh, append, shown}
use Rattle.rules.specs.Audit.{audit}
use Rattle.rules.specs.ReadBack.{Filing, file_all, read_back}
use Rattle.rules.specs.Output.{output, text_of_all}

-- what the definitions give is what 01 says, entry by entry
abbrev pub Hold : {A : Type 0} → List (A × A) → Type 0
Hold {A} entries = map (λ (e : A × A). e.0) entries ≡ map (λ (e : A × A). e.1) entries

-- ---- records in bytes, their numbers in byte order

-- a negative field, in two's complement
abbrev pub minus : ℕ → ℕ
minus n = 2 ^ 32 - n

-- U, first plant
abbrev pub head : ℕ → ℕ → List ℕ
head used plants = 65 ∷ 65 ∷ 82 ∷ 66 ∷ word used ++ word plants ++ replicate 20 0

-- kind, byte 1, byte 2, and the numbers at 4, 8, 12, 16 and 20
abbrev record_of : ℕ → ℕ → ℕ → ℕ → ℕ → ℕ → ℕ → ℕ → List ℕ
record_of kind x y at4 at8 at12 at16 at20 =
    kind ∷ x ∷ y ∷ 0 ∷ word at4 ++ word at8 ++ word at12 ++ word at16 ++ word at20 ++ replicate 8 0

-- technology, variant, next, first curve point, first measure, Pn
abbrev pub plant : ℕ → ℕ → ℕ → ℕ → ℕ → ℕ → List ℕ
plant technology variant next points measures pn = record_of plant_kind technology variant next points measures pn 0

-- next, speed, power
abbrev pub point : ℕ → ℕ → ℕ → List ℕ
point next speed power = record_of point_kind 0 0 next speed power 0 0

-- direction, execution, next, first before-quarter, first quarter
abbrev pub measure : ℕ → ℕ → ℕ → ℕ → ℕ → List ℕ
measure direction execution next befores quarters = record_of measure_kind direction execution next befores quarters 0 0

-- mark, next, measured power, weather
abbrev pub before : ℕ → ℕ → ℕ → ℕ → List ℕ
before mark next measured weather = record_of before_kind mark 0 next measured 0 weather 0

-- month, quarter of the day, next, measured power, limit, weather, planned power
abbrev pub quarter : ℕ → ℕ → ℕ → ℕ → ℕ → ℕ → ℕ → List ℕ
quarter month of_day next measured limit weather planned = record_of quarter_kind month of_day next measured limit weather planned

-- an archive with one byte, or the four bytes of one number, of record n changed
abbrev pub with_byte : List ℕ → ℕ → ℕ → ℕ → List ℕ
with_byte archive n at byte = put archive (32 * n + at) (byte ∷ [])

abbrev pub with_word : List ℕ → ℕ → ℕ → ℕ → List ℕ
with_word archive n at number = put archive (32 * n + at) (word number)

-- a quarter to file
abbrev pub new_quarter : List ℕ
new_quarter = quarter 7 43 0 500000 0 0 0

-- so many unused records
abbrev pub unused : ℕ → List ℕ
unused n = replicate (32 * n) 0

-- ---- archives

-- a as 01 prints it, with one before-quarter: 1 plant, 2 measure, 3 before-quarter, 4-6 quarters
unfoldable pub case_a : List ℕ
case_a =
    head 7 1 ++ plant 3 2 0 0 2 1000000 ++ measure 2 2 0 3 4 ++ before 1 0 800000 0
    ++ quarter 7 40 5 500001 0 0 0 ++ quarter 7 40 6 500001 0 0 0 ++ quarter 7 40 0 500002 0 0 0

-- wind Spitz, Pn 2,000,000, curve (0, 0), (200, 2,000,000), four before-quarters at speed 100: what three of them measure, what the
-- fourth does, then measured power and speed of the quarter. 1 plant, 2-3 curve points, 4 measure, 5-8 before-quarters, 9 quarter
unfoldable pub wind_case : ℕ → ℕ → ℕ → ℕ → List ℕ
wind_case three fourth measured speed =
    head 10 1 ++ plant 1 1 0 2 4 2000000 ++ point 3 0 0 ++ point 0 200 2000000 ++ measure 2 2 0 5 9
    ++ before 1 6 three 100 ++ before 1 7 three 100 ++ before 1 8 three 100 ++ before 1 0 fourth 100
    ++ quarter 7 40 0 measured 0 speed 0

abbrev pub case_b : List ℕ
case_b = wind_case 900000 900000 350000 150

abbrev pub case_c : List ℕ
case_c = wind_case 1200000 1200000 0 200

abbrev pub case_j : ℕ → List ℕ
case_j fourth = wind_case 900000 fourth 350000 150

-- other Spitz, requested: direction, measured power, limit, planned power. 1 plant, 2 measure, 3 quarter
unfoldable pub planned_case : ℕ → ℕ → ℕ → ℕ → List ℕ
planned_case direction measured limit planned =
    head 4 1 ++ plant 3 1 0 0 2 1000000 ++ measure direction 1 0 0 3 ++ quarter 7 40 0 measured limit 0 planned

-- with a reference of 1,000,000
abbrev pub case_d : List ℕ
case_d = planned_case 2 400000 600000 1000000

abbrev pub case_e : List ℕ
case_e = planned_case 1 700000 600000 500000

-- wind Spitz; A is four times B and L is 0, so that the amounts are the curve's powers. 1 plant, 2-3 curve points, 4 measure,
-- 5-8 before-quarters, 9-12 quarters
unfoldable pub case_f : List ℕ
case_f =
    head 13 1 ++ plant 1 1 0 2 4 1000000 ++ point 3 30 0 ++ point 0 40 100001 ++ measure 2 2 0 5 9
    ++ before 1 6 400004 40 ++ before 1 7 400004 40 ++ before 1 8 400004 40 ++ before 1 0 400004 40
    ++ quarter 7 40 10 0 0 35 0 ++ quarter 7 41 11 0 0 40 0 ++ quarter 7 42 12 0 0 29 0 ++ quarter 7 43 0 0 0 41 0

-- solar Spitz: 1 plant, 2 measure, 3-5 before-quarters, 6 quarter
unfoldable pub case_g : List ℕ
case_g =
    head 7 1 ++ plant 2 1 0 0 2 2000000 ++ measure 2 2 0 3 6
    ++ before 1 4 300000 500 ++ before 1 5 300000 500 ++ before 1 0 300000 500 ++ quarter 7 40 0 80000 0 800 0

-- solar Pauschal, two quarters in this month from this quarter of the day on: 1 plant, 2 measure, 3-4 quarters
unfoldable pub factor_case : ℕ → ℕ → List ℕ
factor_case month of_day =
    head 5 1 ++ plant 2 2 0 0 2 1000000 ++ measure 2 2 0 0 3 ++ quarter month of_day 4 0 0 0 0 ++ quarter month (of_day + 1) 0 0 0 0 0

abbrev pub case_h : List ℕ
case_h = factor_case 7 35

abbrev pub case_i : List ℕ
case_i = factor_case 11 66

-- other Pauschal; 10 % of Pn is more than the reference. 1 plant, 2 measure, 3 before-quarter, 4 quarter
unfoldable pub case_k : List ℕ
case_k = head 5 1 ++ plant 3 2 0 0 2 2000000 ++ measure 2 2 0 3 4 ++ before 1 0 100000 0 ++ quarter 7 40 0 (minus 20000) 0 0 0

-- b with a fifth before-quarter: 1 plant, 2-3 curve points, 4 measure, 5-9 before-quarters, 10 quarter
unfoldable pub five_befores : List ℕ
five_befores =
    head 11 1 ++ plant 1 1 0 2 4 2000000 ++ point 3 0 0 ++ point 0 200 2000000 ++ measure 2 2 0 5 10
    ++ before 1 6 900000 100 ++ before 1 7 900000 100 ++ before 1 8 900000 100 ++ before 1 9 900000 100 ++ before 1 0 900000 100
    ++ quarter 7 40 0 350000 0 150 0

-- b, calm in all four before-quarters
abbrev pub calm : List ℕ
calm = with_word (with_word (with_word (with_word case_b 5 16 0) 6 16 0) 7 16 0) 8 16 0

-- two plants: 1 other Spitz with measures 2, without a quarter, and 3, with quarter 4; 5 solar Pauschal with measure 6 and quarter 7
unfoldable pub two_plants : List ℕ
two_plants =
    head 8 1 ++ plant 3 1 5 0 2 1000000 ++ measure 2 2 3 0 0 ++ measure 1 2 0 0 4 ++ quarter 7 40 0 600000 0 0 500000
    ++ plant 2 2 0 0 6 1000000 ++ measure 2 2 0 0 7 ++ quarter 7 36 0 0 0 0 0

-- ---- what settle leaves

-- a list of so many places, with old numbers in them
abbrev pub lent : ℕ → List ℤ
lent places = replicate places (pos 7)

-- number, count, total, links, and the list afterwards
abbrev pub results : Outcome Settlement → List ℤ → List ℤ
results o list = pos (answer_of o).number ∷ pos (answer_of o).count ∷ (answer_of o).total ∷ pos (answer_of o).links ∷ list_after o list

abbrev pub settling : List ℕ → ℕ → ℕ → ℕ → List ℤ
settling archive p k places = results (settle archive p k (length (lent places))) (lent places)

abbrev pub settles : ℕ → ℤ → ℕ → List ℤ → List ℤ
settles count total links list = pos 0 ∷ pos count ∷ total ∷ pos links ∷ list

-- a measure of one quarter, and a list of one place
abbrev pub settles_one : ℤ → ℕ → List ℤ
settles_one amount links = settles 1 amount links (amount ∷ [])

abbrev pub refuses : ℕ → ℕ → List ℤ
refuses number places = pos number ∷ pos 0 ∷ pos 0 ∷ pos 0 ∷ lent places

-- figure a
abbrev pub settles_a : List ℤ
settles_a = settles 3 (pos 224999) 6 (pos 74999 ∷ pos 75000 ∷ pos 75000 ∷ [])

-- the number alone
abbrev pub number : {A : Type 0} → Outcome A → List ℤ
number o = pos (number_of o) ∷ []

-- ---- figures a to k (01, 'Figures to check against')

abbrev point_at : ℕ → ℕ → Point
point_at speed power = record { speed = speed; power = power }

abbrev pub bit : Bool → ℕ
bit true = 1
bit false = 0

unfoldable pub figures : List (List ℤ × List ℤ)
figures =
    -- a
    (settling case_a 1 1 3, settles_a)
    -- b
    ∷ (settling case_b 1 1 1, settles_one (pos 250000) 9)
    -- c
    ∷ (settling case_c 1 1 1, settles_one (pos 500000) 9)
    -- d; (1,000,000 - L) / 4 is 100,000
    ∷ (limitation negative requested (pos 400000) (pos 600000) ∷ [], pos 600000 ∷ [])
    ∷ (settling case_d 1 1 1, settles_one (pos 100000) 3)
    -- e
    ∷ (settling case_e 1 1 1, settles_one (neg_ℤ (pos 25000)) 3)
    -- f
    ∷ (map (λ v. pos (curve_power (point_at 30 0 ∷ point_at 40 100001 ∷ []) v)) (35 ∷ 40 ∷ 29 ∷ 41 ∷ []), pos 50000 ∷ pos 100001 ∷ pos 0 ∷ pos 0 ∷ [])
    ∷ (settling case_f 1 1 4, settles 4 (pos 150001) 12 (pos 50000 ∷ pos 100001 ∷ pos 0 ∷ pos 0 ∷ []))
    -- g
    ∷ (settling case_g 1 1 1, settles_one (pos 100000) 6)
    -- h
    ∷ (settling case_h 1 1 2, settles 2 (pos 216125) 4 (pos 61400 ∷ pos 154725 ∷ []))
    -- i
    ∷ (settling case_i 1 1 2, settles 2 (pos 69900) 4 (pos 69900 ∷ pos 0 ∷ []))
    -- j
    ∷ (map (λ m. pos (bit (usable 2000000 (record { measured = pos m; weather = pos 100 })))) (200000 ∷ 199999 ∷ []), pos 1 ∷ pos 0 ∷ [])
    ∷ (settling (case_j 200000) 1 1 1, settles_one (pos 184375) 9)
    ∷ (settling (case_j 199999) 1 1 1, refuses 11 1)
    -- k
    ∷ (settling case_k 1 1 1, settles_one (pos 30000) 4)
    ∷ []

-- ---- refusals 1 to 17 (01, 'Refused sheets', the table's examples)

unfoldable pub refusals : List (ℕ × ℕ)
refusals =
    -- 33 bytes
    (number_of (settle (take 33 case_a) 1 1 3), 1)
    -- record 5 names 5
    ∷ (number_of (settle (with_word case_a 5 4 5) 1 1 3), 2)
    -- quarters lead to kind 4
    ∷ (number_of (settle (with_word case_a 2 12 3) 1 1 3), 3)
    -- p = 0
    ∷ (number_of (settle case_a 0 1 3), 4)
    -- k = 2 of one
    ∷ (number_of (settle case_a 1 2 3), 5)
    -- Pn = 99,999
    ∷ (number_of (settle (with_word case_a 1 16 99999) 1 1 3), 6)
    -- direction 3
    ∷ (number_of (settle (with_byte case_a 2 1 3) 1 1 3), 7)
    -- no quarter
    ∷ (number_of (settle (with_word case_a 2 12 0) 1 1 3), 8)
    -- month 13
    ∷ (number_of (settle (factor_case 13 35) 1 1 2), 9)
    -- speeds 30, 30
    ∷ (number_of (settle (with_word (with_word case_b 2 8 30) 3 8 30) 1 1 1), 10)
    -- three of four
    ∷ (number_of (settle (with_byte case_b 5 1 0) 1 1 1), 11)
    -- calm, four times
    ∷ (number_of (settle calm 1 1 1), 12)
    -- 2 places for 3
    ∷ (number_of (settle case_a 1 1 2), 13)
    -- kind 9
    ∷ (number_of (append (case_a ++ unused 1) 2 (with_byte new_quarter 0 0 9)), 14)
    -- quarter under a plant
    ∷ (number_of (append (case_a ++ unused 1) 1 new_quarter), 15)
    -- 1 record, U = 1
    ∷ (number_of (append (head 1 0) 0 (plant 3 2 0 0 0 2000000)), 16)
    -- orphan 4
    ∷ (number_of (audit (with_word case_a 2 12 0)), 17)
    ∷ []

-- ---- the order of tests, and what is read (01, 'Refused sheets', below the table)

-- the largest number of 64 bits
abbrev pub largest : ℕ
largest = 2 ^ 64 - 1

-- a false reading: each quarter rounded by itself
abbrev rounded_alone : Fractions → ℤ
rounded_alone f = sumℤ (map (λ m. quot_z m (pos f.denominator)) f.numerators)

unfoldable pub orders : List (List ℤ × List ℤ)
orders =
    -- plants: a broken link on the way to a place is 2, also to the largest place, and a wrong kind 3
    (settling (with_word case_a 1 4 1) 2 1 3, refuses 2 3)
    ∷ (settling (with_word case_a 1 4 1) largest 1 3, refuses 2 3)
    ∷ (settling (with_word case_a 1 4 2) 2 1 3, refuses 3 3)
    -- the largest place on a sound chain is 4; so is place 0, and no link is followed
    ∷ (settling case_a largest 1 3, refuses 4 3)
    ∷ (settling (with_word case_a 0 8 7) 0 0 3, refuses 4 3)
    -- the next link of plant p isn't followed
    ∷ (settling (with_word case_a 1 4 1) 1 1 3, settles_a)
    -- measures: the same with 5
    ∷ (settling (with_word case_a 2 4 2) 1 2 3, refuses 2 3)
    ∷ (settling (with_word case_a 2 4 2) 1 largest 3, refuses 2 3)
    ∷ (settling (with_word case_a 2 4 3) 1 2 3, refuses 3 3)
    ∷ (settling case_a 1 largest 3, refuses 5 3)
    ∷ (settling (with_word case_a 1 12 1) 1 0 3, refuses 5 3)
    ∷ (settling (with_word case_a 2 4 2) 1 1 3, settles_a)
    -- 5 before 6: technology 4 and no measure; 6 before 7: technology 4 and direction 3; 7 before the curve: positive for wind
    ∷ (settling (with_byte (with_word case_a 1 12 0) 1 1 4) 1 1 3, refuses 5 3)
    ∷ (settling (with_byte (with_byte case_a 1 1 4) 2 1 3) 1 1 3, refuses 6 3)
    ∷ (settling (with_byte (with_word case_b 2 4 2) 4 1 1) 1 1 1, refuses 7 1)
    -- 2 before 3 at one link, but 3 at the first link before 2 at the second
    ∷ (settling (with_word case_a 2 12 2) 1 1 3, refuses 2 3)
    ∷ (settling (with_byte (with_word case_h 3 4 3) 3 0 4) 1 1 2, refuses 3 2)
    -- a link is above the record that holds it, not only above the chain's owner, and below U
    ∷ (settling (with_word case_a 5 4 4) 1 1 3, refuses 2 3)
    ∷ (settling (with_word case_a 0 4 6) 1 1 3, refuses 2 3)
    -- curve: 2 before 9; 9 before 10, with one point and with speeds that don't rise; 10 before the before-quarters
    ∷ (settling (with_word (with_word case_b 2 8 1001) 3 4 3) 1 1 1, refuses 2 1)
    ∷ (settling (with_word (with_word case_b 2 8 1001) 2 4 0) 1 1 1, refuses 9 1)
    ∷ (settling (with_word (with_word case_b 3 8 0) 3 12 (minus 1)) 1 1 1, refuses 9 1)
    ∷ (settling (with_word (with_word case_b 2 4 0) 8 4 8) 1 1 1, refuses 10 1)
    -- before-quarters: 2 before 11, where the chain breaks behind three usable ones and in Pauschal behind an unmarked one
    ∷ (settling (with_word case_b 7 4 7) 1 1 1, refuses 2 1)
    ∷ (settling (with_word case_b 0 4 8) 1 1 1, refuses 2 1)
    ∷ (settling (with_byte (with_word case_a 3 4 3) 3 1 0) 1 1 3, refuses 2 3)
    -- 9 before 11: three usable ones, and a mark of 2 or a usable one's speed out of range
    ∷ (settling (with_byte (with_byte case_b 5 1 0) 8 1 2) 1 1 1, refuses 9 1)
    ∷ (settling (with_byte (with_word case_b 8 16 1001) 5 1 0) 1 1 1, refuses 9 1)
    -- 11 before 12: three usable ones, calm; 11 and 12 before the quarters' 2
    ∷ (settling (with_byte calm 5 1 0) 1 1 1, refuses 11 1)
    ∷ (settling (with_word (with_byte case_b 5 1 0) 4 12 4) 1 1 1, refuses 11 1)
    ∷ (settling (with_word calm 4 12 4) 1 1 1, refuses 12 1)
    -- read of a fifth before-quarter behind four that are used: byte 1, not measured power and speed
    ∷ (settling (with_byte five_befores 9 1 2) 1 1 1, refuses 9 1)
    ∷ (settling (with_word (with_word five_befores 9 8 1000000001) 9 16 1001) 1 1 1, settles_one (pos 250000) 10)
    -- read of one under 10 %: measured power if it is marked, not its speed
    ∷ (settling (with_word five_befores 6 8 (minus 1000000001)) 1 1 1, refuses 9 1)
    ∷ (settling (with_byte (with_word five_befores 6 8 (minus 1000000001)) 6 1 0) 1 1 1, settles_one (pos 250000) 10)
    ∷ (settling (with_word (with_word five_befores 6 8 199999) 6 16 1001) 1 1 1, settles_one (pos 250000) 10)
    -- not read: weather in Pauschal; month outside solar Pauschal; the limit in execution 3, which execution 1 reads
    ∷ (settling (with_word case_a 3 16 (minus 1)) 1 1 3, settles_a)
    ∷ (settling (with_byte case_a 4 1 13) 1 1 3, settles_a)
    ∷ (settling (with_byte (with_word case_a 4 12 1000000001) 2 2 3) 1 1 3, settles_a)
    ∷ (settling (with_byte (with_word case_a 4 12 1000000001) 2 2 1) 1 1 3, refuses 9 3)
    -- not walked: a solar plant's curve, and before-quarters in solar Pauschal; audit does test these links
    ∷ (settling (with_word (with_word case_h 1 8 1) 2 8 2) 1 1 2, settles 2 (pos 216125) 4 (pos 61400 ∷ pos 154725 ∷ []))
    ∷ (number (audit (with_word case_h 2 8 2)), pos 2 ∷ [])
    -- quarters: 2 before 9, 9 before 13
    ∷ (settling (with_word (factor_case 13 35) 4 4 4) 1 1 1, refuses 2 1)
    ∷ (settling (factor_case 13 35) 1 1 1, refuses 9 1)
    -- the C entry: 13 for a result part of 23 or 25 bytes and for 2 places and 7 bytes for 3; 9 before it
    ∷ (number (host_settle case_a 1 1 24 23), pos 13 ∷ [])
    ∷ (number (host_settle case_a 1 1 24 25), pos 13 ∷ [])
    ∷ (number (host_settle case_a 1 1 23 24), pos 13 ∷ [])
    ∷ (number (host_settle (factor_case 13 35) 1 1 8 23), pos 9 ∷ [])
    -- append to a full archive: 1, 14, 15, 2, 3, 16
    ∷ (number (append (take 33 case_a) 7 (with_byte new_quarter 0 0 9)), pos 1 ∷ [])
    ∷ (number (append case_a 7 (with_byte new_quarter 0 0 9)), pos 14 ∷ [])
    ∷ (number (append case_a 7 new_quarter), pos 15 ∷ [])
    ∷ (number (append (with_word case_a 5 4 5) 2 new_quarter), pos 2 ∷ [])
    ∷ (number (append (with_byte case_a 5 0 4) 2 new_quarter), pos 3 ∷ [])
    ∷ (number (append case_a 2 new_quarter), pos 16 ∷ [])
    -- append walks the record's own chain only: the before-quarters' is broken
    ∷ (number (append (with_word (case_a ++ unused 1) 3 4 3) 2 new_quarter), pos 0 ∷ [])
    -- audit: a bad link in record 1 before an unknown kind in 3; that kind, met at record 2's link, before a bad link in 4
    ∷ (number (audit (with_byte (with_word case_a 1 4 1) 3 0 9)), pos 2 ∷ [])
    ∷ (number (audit (with_byte (with_word case_a 4 4 4) 3 0 9)), pos 3 ∷ [])
    -- links in byte order; a bad link before an orphan
    ∷ (number (audit (with_word (with_word case_a 2 8 4) 2 12 2)), pos 3 ∷ [])
    ∷ (number (audit (with_word (with_word case_a 2 12 0) 6 4 6)), pos 2 ∷ [])
    -- false readings: what rounding each quarter by itself would total in a; A / B before the product, and a cap, in solar Spitz
    ∷ (after (exact_fractions case_a 1 1) rounded_alone (pos 0) ∷ [], pos 224997 ∷ [])
    ∷ (settling (with_word (with_word (with_word case_g 3 16 700) 4 16 700) 5 16 700) 1 1 1, settles_one (pos 65714) 6)
    ∷ (settling (with_word case_g 1 16 100000) 1 1 1, settles_one (pos 100000) 6)
    -- places are counted along their chains; later places of the list keep theirs
    ∷ (settling two_plants 1 2 1, settles_one (neg_ℤ (pos 25000)) 4)
    ∷ (settling two_plants 2 1 3, settles 1 (pos 154725) 4 (pos 154725 ∷ pos 7 ∷ pos 7 ∷ []))
    ∷ []

-- ---- calls on the archive, and the program (01, 'Calls on the archive')

-- ASCII bytes
abbrev pub ascii : String → List ℕ
ascii []ₛ = []
ascii (c ∷ₛ s) = code c ∷ ascii s

-- case a, record by record
unfoldable pub filings_a : List Filing
filings_a =
    record { owner = 0; bytes = plant 3 2 0 0 0 1000000 }
    ∷ record { owner = 1; bytes = measure 2 2 0 0 0 }
    ∷ record { owner = 2; bytes = before 1 0 800000 0 }
    ∷ record { owner = 2; bytes = quarter 7 40 0 500001 0 0 0 }
    ∷ record { owner = 2; bytes = quarter 7 40 0 500001 0 0 0 }
    ∷ record { owner = 2; bytes = quarter 7 40 0 500002 0 0 0 }
    ∷ []

-- what the C entry leaves: its number, the list's bytes, the result part
abbrev pub hosted : Outcome Settlement → List ℕ → List ℕ → List ℕ
hosted o list result = number_of o ∷ host_list_after o list ++ host_result_after o result

abbrev pub hosting : List ℕ → ℕ → ℕ → List ℕ → List ℕ → List ℕ
hosting archive p k list result = hosted (host_settle archive p k (length list) (length result)) list result

unfoldable pub calls : List (List ℕ × List ℕ)
calls =
    -- fresh: AARB, U = 1, every other byte zero; a refused one leaves the archive
    (archive_after (fresh (replicate 96 9)) [], 65 ∷ 65 ∷ 82 ∷ 66 ∷ 1 ∷ replicate 91 0)
    ∷ (number_of (fresh (replicate 33 9)) ∷ archive_after (fresh (replicate 33 9)) (replicate 33 9), 1 ∷ replicate 33 9)
    -- case a filed into a fresh archive is case a, byte for byte, and its quarters are read back as filed
    ∷ (archive_after (fresh (replicate 224 9) >>= λ start. file_all filings_a start) [], case_a)
    ∷ (after (read_back case_a 7 2 quarter_kind) (flat_map (λ e. e.number ∷ e.bytes)) [], 4 ∷ quarter 7 40 0 500001 0 0 0 ++ 5 ∷ quarter 7 40 0 500001 0 0 0 ++ 6 ∷ quarter 7 40 0 500002 0 0 0)
    -- append: the record as number U, the last link of its chain, U; behind three others, and as the first of its chain
    ∷ (archive_after (append (case_a ++ replicate 32 9) 2 new_quarter) [], with_word (with_word case_a 6 4 7) 0 4 8 ++ new_quarter)
    ∷ (archive_after (append (case_a ++ replicate 32 9) 1 (point 0 30 0)) [], with_word (with_word case_a 1 8 7) 0 4 8 ++ point 0 30 0)
    -- a refused append leaves the archive
    ∷ (archive_after (append case_a 2 new_quarter) case_a, case_a)
    -- 14: a next link; a first quarter in a measure; 31 bytes; 15: a plant under a plant; a quarter under the head
    ∷ (number_of (append (case_a ++ unused 1) 2 (with_word new_quarter 0 4 1)) ∷ [], 14 ∷ [])
    ∷ (number_of (append (case_a ++ unused 1) 1 (measure 2 2 0 0 3)) ∷ [], 14 ∷ [])
    ∷ (number_of (append (case_a ++ unused 1) 2 (take 31 new_quarter)) ∷ [], 14 ∷ [])
    ∷ (number_of (append (case_a ++ unused 1) 1 (plant 3 2 0 0 0 1000000)) ∷ [], 15 ∷ [])
    ∷ (number_of (append (case_a ++ unused 1) 0 new_quarter) ∷ [], 15 ∷ [])
    -- show: a record below U, also if a link of it is broken; no other, and none on 1
    ∷ (shown case_a 4, 5 ∷ 7 ∷ 40 ∷ 0 ∷ 5 ∷ 0 ∷ 0 ∷ 0 ∷ 0x21 ∷ 0xa1 ∷ 0x07 ∷ replicate 21 0)
    ∷ (shown (with_word (case_a ++ unused 1) 6 4 6) 6, quarter 7 40 6 500002 0 0 0)
    ∷ (shown (case_a ++ unused 1) 7 ++ shown (with_word case_a 0 4 8) 0, [])
    -- audit: sound with and without unused records, and with no plant; 17 for a record named twice
    ∷ (number_of (audit case_a) ∷ number_of (audit (case_a ++ unused 1)) ∷ number_of (audit (head 1 0)) ∷ [], 0 ∷ 0 ∷ 0 ∷ [])
    ∷ (number_of (audit (with_word two_plants 2 12 4)) ∷ [], 17 ∷ [])
    ∷ (namers two_plants 8 4 ++ namers (with_word two_plants 2 12 4) 8 4, 108 ∷ 76 ∷ 108 ∷ [])
    -- the C entry: 3 places and 5 bytes past them; a minus; a refusal leaves both parts
    ∷ (
      hosting case_a 1 1 (replicate 29 9) (replicate 24 9),
      0 ∷ 0xf7 ∷ 0x24 ∷ 0x01 ∷ replicate 5 0 ++ 0xf8 ∷ 0x24 ∷ 0x01 ∷ replicate 5 0 ++ 0xf8 ∷ 0x24 ∷ 0x01 ∷ replicate 5 0 ++ replicate 5 9
          ++ 3 ∷ replicate 7 0 ++ 0xe7 ∷ 0x6e ∷ 0x03 ∷ replicate 5 0 ++ 6 ∷ replicate 7 0,
    )
    ∷ (
      hosting case_e 1 1 (replicate 8 9) (replicate 24 9),
      0 ∷ 0x58 ∷ 0x9e ∷ replicate 6 0xff ++ 1 ∷ replicate 7 0 ++ 0x58 ∷ 0x9e ∷ replicate 6 0xff ++ 3 ∷ replicate 7 0,
    )
    ∷ (hosting case_a 1 1 (replicate 23 9) (replicate 24 9), 13 ∷ replicate 47 9)
    -- the program: case a as 01 prints it
    ∷ (text_of_all (output case_a), ascii "M 1 1 3 224999 6\nQ 1 74999\nQ 2 75000\nQ 3 75000\n")
    -- a refused head; no plant
    ∷ (text_of_all (output (take 33 case_a)), ascii "E 0 0 1\n")
    ∷ (text_of_all (output (head 1 0)), [])
    -- a refused measure leads on to the next one, the last measure of a plant to the next plant
    ∷ (text_of_all (output two_plants), ascii "E 1 1 8\nM 1 2 1 -25000 4\nQ 1 -25000\nM 2 1 1 154725 4\nQ 1 154725\n")
    -- 2 or 3 ends the program after its line: on a measure's own chain, though others would settle, and on the plants' chain
    ∷ (text_of_all (output (with_word two_plants 2 12 2)), ascii "E 1 1 2\n")
    ∷ (text_of_all (output (with_word two_plants 2 12 3)), ascii "E 1 1 3\n")
    ∷ (text_of_all (output (with_word two_plants 1 4 1)), ascii "E 1 1 8\nM 1 2 1 -25000 4\nQ 1 -25000\nE 2 1 2\n")
    ∷ []

-- the program on long inputs: no plant, in 65,536 bytes; 32 bytes more
unfoldable pub long_inputs : List (List ℕ × List ℕ)
long_inputs =
    (text_of_all (output (head 1 0 ++ unused 2047)), [])
    ∷ (text_of_all (output (head 1 0 ++ unused 2048)), ascii "E 0 0 1\n")
    ∷ []
