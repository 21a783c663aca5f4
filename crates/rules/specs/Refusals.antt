-- The refusal numbers of 01, 'Refused sheets', and 02 by name; src/refusal.rt has the same names for the code.
use Rattle.std.specs.Prelude.{ℕ, List, [], ◌∷◌, ◌++◌}

-- length not 32 × 1..65,535, text or U wrong
abbrev pub not_archive : ℕ
not_archive = 1

-- link not above its holder or not below U
abbrev pub bad_link : ℕ
bad_link = 2

-- wrong kind at a link; in audit any unknown kind
abbrev pub wrong_kind : ℕ
wrong_kind = 3

-- no plant p
abbrev pub no_plant : ℕ
no_plant = 4

-- no measure k
abbrev pub no_measure : ℕ
no_measure = 5

-- technology, variant or Pn
abbrev pub bad_plant : ℕ
bad_plant = 6

-- direction or execution; positive for wind or solar
abbrev pub bad_measure : ℕ
bad_measure = 7

-- quarters not 1..2,976; before-quarters over 96
abbrev pub bad_count : ℕ
bad_count = 8

-- needed field out of range
abbrev pub out_of_range : ℕ
out_of_range = 9

-- under two curve points, or speeds not rising
abbrev pub bad_curve : ℕ
bad_curve = 10

-- fewer usable before-quarters than needed
abbrev pub too_few_usable : ℕ
too_few_usable = 11

-- B is 0
abbrev pub divisor_zero : ℕ
divisor_zero = 12

-- list shorter than the quarters; in the C entry also a result part that isn't 24 bytes
abbrev pub no_room : ℕ
no_room = 13

-- new record: not 32 bytes, kind not 1-5, or a link not 0
abbrev pub bad_record : ℕ
bad_record = 14

-- owner unused or of the wrong kind
abbrev pub bad_owner : ℕ
bad_owner = 15

-- U equals all records
abbrev pub archive_full : ℕ
archive_full = 16

-- audit: a record named by none or several
abbrev pub not_named_once : ℕ
not_named_once = 17

-- a dated measure's first or last quarter past 3,506,400; delivery day: quarter 0 or past 3,506,400 (02, 1)
abbrev pub not_in_calendar : ℕ
not_in_calendar = 18

-- taking back: U is 1, or the last record isn't named by precisely one link of the head or of a used record of known kind (02, 2)
abbrev pub last_not_named_once : ℕ
last_not_named_once = 19

-- correction: an amount or a balanced energy beyond 1,000,000,000 Wh either way, or more than 2,976 quarters (02, 5)
abbrev pub bad_energies : ℕ
bad_energies = 20

-- correction: a price beyond 1,000,000 cents per MWh either way (02, 5)
abbrev pub bad_price : ℕ
bad_price = 21

-- correction: lists of unequal length (02, 5)
abbrev pub unequal_lists : ℕ
unequal_lists = 22

-- ---- the numbers that each call can return beside 0

abbrev pub settle_refusals : List ℕ
settle_refusals =
    not_archive ∷ bad_link ∷ wrong_kind ∷ no_plant ∷ no_measure ∷ bad_plant ∷ bad_measure ∷ bad_count ∷ out_of_range ∷ bad_curve
    ∷ too_few_usable ∷ divisor_zero ∷ not_in_calendar ∷ no_room ∷ []

abbrev pub fresh_refusals : List ℕ
fresh_refusals = not_archive ∷ []

abbrev pub append_refusals : List ℕ
append_refusals = not_archive ∷ bad_record ∷ bad_owner ∷ bad_link ∷ wrong_kind ∷ archive_full ∷ []

abbrev pub audit_refusals : List ℕ
audit_refusals = not_archive ∷ bad_link ∷ wrong_kind ∷ not_named_once ∷ []

abbrev pub delivery_day_refusals : List ℕ
delivery_day_refusals = not_in_calendar ∷ []

abbrev pub take_back_refusals : List ℕ
take_back_refusals = not_archive ∷ last_not_named_once ∷ []

abbrev pub correction_refusals : List ℕ
correction_refusals = unequal_lists ∷ bad_energies ∷ bad_price ∷ []

-- append's first, then settle's (02, 6); 1, 2 and 3 are among both
abbrev pub preview_refusals : List ℕ
preview_refusals = append_refusals ++ settle_refusals
