-- Fresh, append and show (01, 'Calls on the archive').
use Rattle.std.specs.Prelude.{ℕ, ◌+◌, ◌*◌, ◌-◌, ◌/◌, Bool, cond, ◌&&◌, List, [], ◌∷◌, eqb, ltb, length, replicate}
use Rattle.rules.specs.Outcome.{Outcome, refused, given, ◌>>=◌, ◌>>◌, require, after}
use Rattle.rules.specs.Refusals.{not_archive, bad_record, bad_owner, archive_full}
use Rattle.rules.specs.Numbers.{all}
use Rattle.rules.specs.Archive.{link_at, kind_of, record_at, is_whole, used_of, Entry, chain}
use Rattle.rules.specs.Encoding.{word, put}
use Rattle.rules.specs.Links.{Link, is_kind, links_of, owned_at}

-- the archive after a call that gives the later archive; a refused call leaves it as it was
abbrev pub archive_after : Outcome (List ℕ) → List ℕ → List ℕ
archive_after o archive = after o (λ later. later) archive

-- ---- fresh: 1 for the length

-- AARB and U = 1, every other byte zero
abbrev pub fresh_bytes : ℕ → List ℕ
fresh_bytes size = 65 ∷ 65 ∷ 82 ∷ 66 ∷ 1 ∷ 0 ∷ 0 ∷ 0 ∷ replicate (size - 8) 0

unfoldable pub fresh : List ℕ → Outcome (List ℕ)
fresh archive = do
  require (is_whole (length archive)) not_archive
  given (fresh_bytes (length archive))

-- ---- append: 1, 14, 15, 2, 3, 16

-- what refusal 14 tests: 32 bytes of a known kind with every link zero (4-7, and 8-15 in kinds 1 and 3)
abbrev pub new_allowed : List ℕ → Bool
new_allowed new = eqb (length new) 32 && (is_kind (kind_of new) && all (λ l. eqb (link_at new l.at) 0) (links_of new))

-- the byte of the owner's link to its records of a kind; 15 if it owns none of that kind
abbrev pub offset_in : List Link → ℕ → Outcome ℕ
offset_in [] kind = refused bad_owner
offset_in (l ∷ ls) kind = cond (eqb l.to kind) (given l.at) (offset_in ls kind)

-- owner: the head for kind 1, a plant for 2 and 3, a measure for 4 and 5; 15 also if it is unused
unfoldable pub offset_for : List ℕ → ℕ → ℕ → ℕ → Outcome ℕ
offset_for archive used owner kind = do
  require (ltb owner used) bad_owner
  offset_in (owned_at archive owner) kind

-- the place of a chain's last link, from the place of its first one and its records
abbrev pub last_place : ℕ → List Entry → ℕ
last_place place [] = place
last_place place (e ∷ es) = last_place (32 * e.number + 4) es

-- the record goes to number U, the last link of its chain points to it, U grows by 1, no other byte changes
unfoldable pub append_after : List ℕ → ℕ → ℕ → List ℕ → List ℕ
append_after archive used place new = put (put (put archive (32 * used) new) place (word used)) 4 (word (used + 1))

unfoldable pub append : List ℕ → ℕ → List ℕ → Outcome (List ℕ)
append archive owner new = do
  used ← used_of archive
  require (new_allowed new) bad_record
  offset ← offset_for archive used owner (kind_of new)
  entries ← chain archive used (kind_of new) owner (link_at archive (32 * owner + offset))
  require (ltb used (length archive / 32)) archive_full
  given (append_after archive used (last_place (32 * owner + offset) entries) new)

-- ---- show

-- record n is shown: no refusal 1, and n below U
abbrev pub is_shown : Outcome ℕ → ℕ → Bool
is_shown (refused k) n = ltb n 0
is_shown (given used) n = ltb n used

-- the record's 32 bytes, or the empty part; no refusal number
unfoldable pub shown : List ℕ → ℕ → List ℕ
shown archive n = cond (is_shown (used_of archive) n) (record_at archive n) []
