-- What demand 2 says of filing: records filed one by one into a fresh archive are read again along their chains in that order, each as
-- filed but for its links.
use Rattle.std.specs.Prelude.{ℕ, ◌+◌, ◌*◌, ◌<◌, ◌≡◌, false, cond, ◌&&◌, eqb, length, get_or}
use mathlib.Core.List.{List, [], ◌∷◌, map, Memᴰ}
use Rattle.rules.specs.Outcome.{Outcome, given, ◌>>=◌, ◌>>◌}
use Rattle.rules.specs.Archive.{byte_at, link_at, kind_of, record_at, used_of, Entry, chain}
use Rattle.rules.specs.Encoding.{put}
use Rattle.rules.specs.Links.{Link, links_of, is_link_byte}
use Rattle.rules.specs.Filing.{offset_for, append}
use Rattle.rules.specs.Audit.{Sound}

-- a record to file, and its owner's number
pub record Filing : Type 0 where
  pub owner : ℕ
  pub bytes : List ℕ

-- filed one by one; refused if one is
unfoldable pub file_all : List Filing → List ℕ → Outcome (List ℕ)
file_all [] archive = given archive
file_all (f ∷ fs) archive = append archive f.owner f.bytes >>= λ later. file_all fs later

-- those of a kind filed under an owner, in the order filed, numbered on from `number`
unfoldable pub filed_under : ℕ → ℕ → ℕ → List Filing → List Entry
filed_under number owner kind [] = []
filed_under number owner kind (f ∷ fs) =
    cond (eqb f.owner owner && eqb (kind_of f.bytes) kind)
    (record { number = number; bytes = f.bytes } ∷ filed_under (number + 1) owner kind fs)
    (filed_under (number + 1) owner kind fs)

-- a record with its links zeroed
abbrev pub cleared : List Link → List ℕ → List ℕ
cleared [] r = r
cleared (l ∷ ls) r = cleared ls (put r l.at (0 ∷ 0 ∷ 0 ∷ 0 ∷ []))

unfoldable pub unlinked : List ℕ → List ℕ
unlinked r = cleared (links_of r) r

abbrev pub but_links : Entry → Entry
but_links e = record { number = e.number; bytes = unlinked e.bytes }

-- the records of a kind that an owner has, read along their chain: 15, 2, 3
unfoldable pub read_under : List ℕ → ℕ → ℕ → ℕ → Outcome (List Entry)
read_under archive used owner kind = do
  offset ← offset_for archive used owner kind
  chain archive used kind owner (link_at archive (32 * owner + offset))

-- the same with the links of every record zeroed
unfoldable pub read_back : List ℕ → ℕ → ℕ → ℕ → Outcome (List Entry)
read_back archive used owner kind = do
  es ← read_under archive used owner kind
  given (map but_links es)

abbrev pub no_filing : Filing
no_filing = record { owner = 0; bytes = [] }

-- these filings and nothing else are in the archive, as filed but for their links
pub record Filed (filings : List Filing) (archive : List ℕ) : Type 0 where
  pub used : used_of archive ≡ given (1 + length filings)
  -- the filing at place i, counted from 0, is record 1 + i
  pub stored : (i : ℕ) → i < length filings → unlinked (record_at archive (1 + i)) ≡ (get_or filings i no_filing).bytes
  -- so every byte that isn't of a link is as filed
  pub bytes : (i at : ℕ) → i < length filings → at < 32 → is_link_byte (get_or filings i no_filing).bytes at ≡ false
      → byte_at (record_at archive (1 + i)) at ≡ byte_at (get_or filings i no_filing).bytes at
  -- whoever owns a chain of that kind: read along it, those filed under it, of that kind, in the order filed
  pub chains : (owner kind : ℕ) → read_back archive (1 + length filings) owner kind
      ≡ offset_for archive (1 + length filings) owner kind >> given (filed_under 1 owner kind filings)
  -- the owner of every filing has such a chain
  pub owners : (f : Filing) → Memᴰ f filings
      → (offset : ℕ) × (offset_for archive (1 + length filings) f.owner (kind_of f.bytes) ≡ given offset)
  pub sound : Sound archive
