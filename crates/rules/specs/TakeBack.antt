-- Taking the last record back (02, 2).
use Rattle.std.specs.Prelude.{ℕ, zero, suc, ◌*◌, ◌-◌, List, [], ◌∷◌, ltb, replicate}
use Rattle.rules.specs.Outcome.{Outcome, refused, given, ◌>>=◌, ◌>>◌, require}
use Rattle.rules.specs.Refusals.{last_not_named_once}
use Rattle.rules.specs.Archive.{used_of}
use Rattle.rules.specs.Encoding.{word, put}
use Rattle.rules.specs.Links.{namers}

-- the place of the one link that names a record, out of those of all that do; 19 unless there is precisely one
abbrev pub only_place : List ℕ → Outcome ℕ
only_place [] = refused last_not_named_once
only_place (place ∷ []) = given place
only_place (place ∷ (another ∷ rest)) = refused last_not_named_once

-- record U - 1 is cleared, the link that named it is zeroed, U is lowered by 1, no other byte changes
unfoldable pub taken_back : List ℕ → ℕ → ℕ → List ℕ
taken_back archive used place = put (put (put archive (32 * (used - 1)) (replicate 32 0)) place (word 0)) 4 (word (used - 1))

-- 1; then 19, if U is 1 or the last record, U - 1, isn't named by precisely one link of the head or of a used record of known kind. With
-- U = 1 that record is the head, whose number the zero links have, and nothing is compared. A link names the last record by its value
-- alone, allowed or not, on a chain or not; the last record's own links are among them
unfoldable pub take_back : List ℕ → Outcome (List ℕ)
take_back archive = do
  used ← used_of archive
  require (ltb 1 used) last_not_named_once
  place ← only_place (namers archive used (used - 1))
  given (taken_back archive used place)

-- taken back so many times, one after another; refused if one is
abbrev pub take_back_times : ℕ → List ℕ → Outcome (List ℕ)
take_back_times zero archive = given archive
take_back_times (suc times) archive = take_back_times times archive >>= take_back
