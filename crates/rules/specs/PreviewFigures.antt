-- Worked examples of the preview (02, 6): an entry has what the definitions give and what 02 says; proofs/PreviewFigures.antt proves that all
-- are equal.
use Rattle.std.specs.Prelude.{ℕ, ◌+◌, ◌*◌, List, [], ◌∷◌, ◌++◌, ℤ, pos, neg_ℤ, length, take, replicate}
use Rattle.rules.specs.Outcome.{◌>>=◌, number_of}
use Rattle.rules.specs.Archive.{record_at}
use Rattle.rules.specs.Filing.{archive_after, append}
use Rattle.rules.specs.TakeBack.{take_back}
use Rattle.rules.specs.Preview.{preview, host_preview, undone}
use Rattle.rules.specs.Figures.{head, plant, point, measure, before, quarter, with_byte, with_word, unused, case_a}
use Rattle.rules.specs.Figures.{lent, results, settling, settles, settles_one, settles_a, refuses, hosted, hosting}

-- ---- archives

-- case a while its third quarter isn't filed yet; what the free record holds. 1 plant, 2 measure, 3 before-quarter, 4-5 quarters
unfoldable pub awaiting : List ℕ → List ℕ
awaiting free = with_word (with_word (take 192 case_a) 5 4 0) 0 4 6 ++ free

abbrev pub third : List ℕ
third = quarter 7 40 0 500002 0 0 0

-- a free record full of old bytes, of no known kind
abbrev nines : List ℕ
nines = replicate 32 9

abbrev pub waiting : List ℕ
waiting = awaiting nines

-- wind Spitz, figure b, while its curve has one point. 1 plant, 2 curve point, 3 measure, 4-7 before-quarters, 8 quarter
unfoldable pub one_point : List ℕ
one_point =
    head 9 1 ++ plant 1 1 0 2 3 2000000 ++ point 0 0 0 ++ measure 2 2 0 4 8
    ++ before 1 5 900000 100 ++ before 1 6 900000 100 ++ before 1 7 900000 100 ++ before 1 0 900000 100
    ++ quarter 7 40 0 350000 0 150 0 ++ nines

-- other Spitz: a plant with measures 2, with quarters 4 and 5, and 3, with none; a second plant, 6, with measure 7 and quarter 8
unfoldable pub three_measures : List ℕ
three_measures =
    head 9 1 ++ plant 3 1 6 0 2 1000000 ++ measure 2 2 3 0 4 ++ measure 2 2 0 0 0 ++ quarter 7 40 5 400000 0 0 600000 ++ quarter 7 41 0 400001 0 0 600000
    ++ plant 3 1 0 0 7 1000000 ++ measure 1 2 0 0 8 ++ quarter 7 40 0 600000 0 0 500000 ++ unused 1

-- a link of measure 3 names record 9, which is unused: its chain of quarters is broken until a record is there
abbrev pub stale : List ℕ
stale = with_word three_measures 3 12 9

abbrev pub planned : ℕ → List ℕ
planned power = quarter 7 42 0 400000 0 0 power

-- ---- what a preview leaves

abbrev previewing : List ℕ → ℕ → List ℕ → ℕ → ℕ → ℕ → List ℤ
previewing archive owner new p k places = results (preview archive owner new p k (length (lent places))) (lent places)

-- append, and then settle, on a copy
abbrev one_by_one : List ℕ → ℕ → List ℕ → ℕ → ℕ → ℕ → List ℤ
one_by_one archive owner new p k places = settling (archive_after (append archive owner new) archive) p k places

abbrev settles_two : ℕ → List ℤ → List ℤ
settles_two links rest = settles 2 (pos 149999) links (pos 74999 ∷ pos 75000 ∷ rest)

unfoldable pub previewed : List (List ℤ × List ℤ)
previewed =
    -- the result now, and with one more quarter; beside it, one by one on a copy
    (settling waiting 1 1 3, settles_two 5 (pos 7 ∷ []))
    ∷ (previewing waiting 2 third 1 1 3, settles_a)
    ∷ (one_by_one waiting 2 third 1 1 3, settles_a)
    ∷ (previewing waiting 2 third 1 1 4, settles 3 (pos 224999) 6 (pos 74999 ∷ pos 75000 ∷ pos 75000 ∷ pos 7 ∷ []))
    -- 13: room for the filed quarters alone
    ∷ (previewing waiting 2 third 1 1 2, refuses 13 2)
    -- 16: a full archive, whatever settle would say
    ∷ (previewing case_a 2 third 1 1 4, refuses 16 4)
    ∷ (previewing case_a 2 third 2 1 4, refuses 16 4)
    -- settle's refusal after a good append: 9 for the new quarter, 4 and 5 for the places
    ∷ (previewing waiting 2 (with_word third 0 8 1000000001) 1 1 3, refuses 9 3)
    ∷ (previewing waiting 2 third 2 1 3, refuses 4 3)
    ∷ (one_by_one waiting 2 third 2 1 3, refuses 4 3)
    ∷ (previewing waiting 2 third 1 2 3, refuses 5 3)
    -- 18: the new quarter is past the calendar's last, while the filed ones are in it; nothing is available in them
    ∷ (settling (with_word waiting 2 16 3506399) 1 1 3, settles 2 (pos 0) 5 (pos 0 ∷ pos 0 ∷ pos 7 ∷ []))
    ∷ (previewing (with_word waiting 2 16 3506399) 2 third 1 1 3, refuses 18 3)
    -- a measure: it has no before-quarter yet, and no quarter, has no effect on another, and is 7 if it isn't allowed
    ∷ (previewing waiting 1 (measure 2 2 0 0 0) 1 2 3, refuses 11 3)
    ∷ (previewing three_measures 1 (measure 2 2 0 0 0) 1 3 3, refuses 8 3)
    ∷ (previewing waiting 1 (measure 2 2 0 0 0) 1 1 3, settles_two 5 (pos 7 ∷ []))
    ∷ (previewing waiting 1 (measure 3 2 0 0 0) 1 2 3, refuses 7 3)
    -- a before-quarter: a link more, and the reference where none was marked
    ∷ (previewing waiting 2 (before 1 0 900000 0) 1 1 3, settles_two 6 (pos 7 ∷ []))
    ∷ (settling (with_byte waiting 3 1 0) 1 1 3, refuses 11 3)
    ∷ (previewing (with_byte waiting 3 1 0) 2 (before 1 0 800000 0) 1 1 3, settles_two 6 (pos 7 ∷ []))
    -- a curve point: the second that the curve wants
    ∷ (settling one_point 1 1 1, refuses 10 1)
    ∷ (previewing one_point 1 (point 0 200 2000000) 1 1 1, settles_one (pos 250000) 9)
    -- a plant: it has no measure yet, and no effect on another
    ∷ (previewing waiting 0 (plant 3 1 0 0 0 1000000) 2 1 3, refuses 5 3)
    ∷ (previewing waiting 0 (plant 3 1 0 0 0 1000000) 1 1 3, settles_two 5 (pos 7 ∷ []))
    -- owner and places that don't belong together: the other measures are settled as they are; with its own quarter the last one settles
    ∷ (previewing three_measures 2 (planned 600000) 2 1 1, settles_one (neg_ℤ (pos 25000)) 4)
    ∷ (previewing three_measures 7 (planned 600000) 1 1 2, settles 2 (pos 99999) 4 (pos 50000 ∷ pos 49999 ∷ []))
    ∷ (previewing three_measures 2 (planned 600000) 1 2 1, refuses 8 1)
    ∷ (previewing three_measures 3 (planned 600000) 1 2 1, settles_one (pos 50000) 4)
    -- unsound: the new record is the one that a broken chain names; settled before, it is 2
    ∷ (settling stale 1 2 1, refuses 2 1)
    ∷ (previewing stale 2 (planned 600000) 1 2 1, settles_one (pos 50000) 4)
    ∷ (previewing stale 7 (planned 400004) 1 2 1, settles_one (pos 1) 4)
    ∷ (previewing stale 3 (planned 600000) 1 1 2, refuses 2 2)
    ∷ []

-- append's refusals come first: 1; then 14, 15, 2, 3, 16, each where settle's would be 4
unfoldable pub append_comes_first : List (List ℤ × List ℤ)
append_comes_first =
    (previewing (take 33 waiting) 2 third 9 1 1, refuses 1 1)
    ∷ (previewing waiting 7 (with_byte third 0 0 6) 9 1 1, refuses 14 1)
    ∷ (previewing waiting 7 third 9 1 1, refuses 15 1)
    ∷ (previewing (with_word waiting 4 4 4) 2 third 9 1 1, refuses 2 1)
    ∷ (previewing (with_byte waiting 5 0 4) 2 third 9 1 1, refuses 3 1)
    ∷ (previewing case_a 2 third 9 1 1, refuses 16 1)
    ∷ (previewing waiting 2 third 9 1 1, refuses 4 1)
    -- 2 and 3 of settle: on a chain that append doesn't walk
    ∷ (previewing (with_word waiting 3 4 3) 2 third 1 1 3, refuses 2 3)
    ∷ (previewing (with_word waiting 2 8 4) 2 third 1 1 3, refuses 3 3)
    ∷ []

-- the C entry
abbrev host_previewing : List ℕ → ℕ → List ℕ → ℕ → ℕ → List ℕ → List ℕ → List ℕ
host_previewing archive owner new p k list result = hosted (host_preview archive owner new p k (length list) (length result)) list result

unfoldable pub previewed_bytes : List (List ℕ × List ℕ)
previewed_bytes =
    -- as settle on case a, which has the third quarter; 13 for 23 bytes of list, and for a result part that is a byte too short or too long
    (host_previewing waiting 2 third 1 1 (replicate 29 9) (replicate 24 9), hosting case_a 1 1 (replicate 29 9) (replicate 24 9))
    ∷ (host_previewing waiting 2 third 1 1 (replicate 23 9) (replicate 24 9), 13 ∷ replicate 47 9)
    ∷ (host_previewing waiting 2 third 1 1 (replicate 24 9) (replicate 23 9), 13 ∷ replicate 47 9)
    ∷ (host_previewing waiting 2 third 1 1 (replicate 24 9) (replicate 25 9), 13 ∷ replicate 49 9)
    -- append's refusals before it, and settle's
    ∷ (host_previewing case_a 2 third 1 1 (replicate 24 9) (replicate 23 9), 16 ∷ replicate 47 9)
    ∷ (host_previewing waiting 2 third 1 2 (replicate 24 9) (replicate 23 9), 5 ∷ replicate 47 9)
    ∷ []

-- ---- undoing, beside taking back

-- the record's number and the place of the link to it
abbrev undoing : List ℕ → ℕ → List ℕ → ℕ → ℕ → List ℕ
undoing archive owner new used place = undone (archive_after (append archive owner new) []) used place (record_at archive used)

-- append, and then taking back
abbrev taking_back : List ℕ → ℕ → List ℕ → List ℕ
taking_back archive owner new = archive_after (append archive owner new >>= take_back) []

unfoldable pub undoings : List (List ℕ × List ℕ)
undoings =
    -- a quarter, a before-quarter, a measure, a curve point, a plant; the first plant, whose link is the head's
    (undoing waiting 2 third 6 (32 * 5 + 4), waiting)
    ∷ (undoing waiting 2 (before 1 0 900000 0) 6 (32 * 3 + 4), waiting)
    ∷ (undoing waiting 1 (measure 2 2 0 0 0) 6 (32 * 2 + 4), waiting)
    ∷ (undoing waiting 1 (point 0 30 0) 6 (32 * 1 + 8), waiting)
    ∷ (undoing waiting 0 (plant 3 1 0 0 0 1000000) 6 (32 * 1 + 4), waiting)
    ∷ (undoing (head 1 0 ++ nines) 0 (plant 3 1 0 0 0 1000000) 1 8, head 1 0 ++ nines)
    -- unsound: a link names record U before it is there
    ∷ (undoing stale 2 (planned 600000) 9 (32 * 5 + 4), stale)
    -- taking back loses the old bytes, and is refused where two links name the record
    ∷ (taking_back waiting 2 third, awaiting (unused 1))
    ∷ (number_of (append stale 2 (planned 600000) >>= take_back) ∷ [], 19 ∷ [])
    ∷ []
