-- Worked examples of taking back (02, 2): an entry has what the definitions give and what 02 says; proofs/TakeBackFigures.antt proves that
-- all are equal.
use Rattle.std.specs.Prelude.{ℕ, List, [], ◌∷◌, ◌++◌, take, replicate}
use Rattle.rules.specs.Outcome.{◌>>=◌, number_of}
use Rattle.rules.specs.Filing.{archive_after, append}
use Rattle.rules.specs.TakeBack.{take_back, take_back_times}
use Rattle.rules.specs.Figures.{head, plant, measure, quarter, with_byte, with_word, new_quarter, unused, case_a}

-- a plant, other Spitz, and its measures 2 and 3, each with one quarter: 4 and 5
unfoldable pub two_measures : List ℕ
two_measures =
    head 6 1 ++ plant 3 1 0 0 2 1000000 ++ measure 2 2 3 0 4 ++ measure 2 2 0 0 5
    ++ quarter 7 42 0 500000 0 0 600000 ++ quarter 7 43 0 400000 0 0 600000

-- its number, and the archive afterwards
abbrev taking : List ℕ → List ℕ
taking archive = number_of (take_back archive) ∷ archive_after (take_back archive) archive

-- 19, and every byte as before
abbrev stays : List ℕ → List ℕ × List ℕ
stays archive = (taking archive, 19 ∷ archive)

-- 0, and what is left of case a, or of an archive made of it in which no link names record 6: that record cleared, U = 6
abbrev without : List ℕ → List ℕ
without archive = 0 ∷ with_word (take 192 archive) 0 4 6 ++ unused 1

-- case a with record 5, which names 6, ending the chain: record 6 is named by none
abbrev unnamed : List ℕ
unnamed = with_word case_a 5 4 0

unfoldable pub takings : List (List ℕ × List ℕ)
takings =
    -- a quarter filed under measure 3 instead of 2, and taken back: every byte as before
    (archive_after (append (two_measures ++ unused 1) 3 new_quarter >>= take_back) [], two_measures ++ unused 1)
    -- what the unused record held is lost
    ∷ (archive_after (append (two_measures ++ replicate 32 9) 3 new_quarter >>= take_back) [], two_measures ++ unused 1)
    -- case a: the last quarter; all six records, one after another
    ∷ (taking case_a, without unnamed)
    ∷ (archive_after (take_back_times 6 case_a) [], head 1 0 ++ unused 6)
    -- U = 1: 19, whatever the head's link is, and 1 before it
    ∷ stays (head 1 0 ++ unused 1)
    ∷ stays (head 1 1 ++ unused 1)
    ∷ (number_of (take_back (with_byte (head 1 0) 0 0 66)) ∷ number_of (take_back (take 33 case_a)) ∷ number_of (take_back (head 0 0)) ∷ [], 1 ∷ 1 ∷ 1 ∷ [])
    -- named by none; by two links, of two records and of one
    ∷ stays unnamed
    ∷ stays (with_word case_a 4 4 6)
    ∷ stays (with_word case_a 0 8 6)
    ∷ stays (with_word (with_word unnamed 2 4 6) 2 8 6)
    -- by itself alone; by itself and another
    ∷ (taking (with_word unnamed 6 4 6), without unnamed)
    ∷ stays (with_word case_a 6 4 6)
    -- by a record of unknown kind only, and beside a link that counts
    ∷ stays (with_byte case_a 5 0 9)
    ∷ (taking (with_byte (with_word case_a 4 4 6) 4 0 9), without (with_byte (with_word unnamed 4 4 6) 4 0 9))
    -- by a link that should lead to another kind; by a record that none names; by no link of an unused record
    ∷ (taking (with_word unnamed 2 8 6), without (with_word unnamed 2 8 0))
    ∷ (taking (with_word case_a 4 4 0), without (with_word unnamed 4 4 0))
    ∷ (taking (case_a ++ quarter 7 43 6 0 0 0 0), without unnamed ++ quarter 7 43 6 0 0 0 0)
    -- of unknown kind itself, with its own number in bytes 4-7; a link of its own to another record vanishes with it
    ∷ (taking (with_word (with_byte case_a 6 0 9) 6 4 6), without unnamed)
    ∷ (taking (with_word case_a 6 4 4), without unnamed)
    -- no links: bytes 8-15 of kinds 2, 4 and 5, bytes 16-19, the head's bytes 12-15; and the low bytes of a larger number
    ∷ (taking (with_byte (with_word case_a 3 8 6) 3 0 2), without (with_byte (with_word unnamed 3 8 6) 3 0 2))
    ∷ (taking (with_byte (with_word case_a 3 12 6) 3 0 2), without (with_byte (with_word unnamed 3 12 6) 3 0 2))
    ∷ (taking (with_word (with_word case_a 3 8 6) 4 12 6), without (with_word (with_word unnamed 3 8 6) 4 12 6))
    ∷ (taking (with_word (with_word case_a 3 12 6) 4 8 6), without (with_word (with_word unnamed 3 12 6) 4 8 6))
    ∷ (taking (with_word (with_word case_a 2 16 6) 0 12 6), without (with_word (with_word unnamed 2 16 6) 0 12 6))
    ∷ (taking (with_word case_a 1 4 65542), without (with_word unnamed 1 4 65542))
    ∷ []
