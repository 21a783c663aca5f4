-- The archive (01, 'The archive'): bytes, fields, records, the head, links and chains.
use Rattle.std.specs.Prelude.{ℕ, zero, suc, ◌+◌, ◌*◌, ◌/◌, ◌%◌, ◌^◌, Bool, cond, ◌&&◌, List, [], ◌∷◌, eqb, leb, ltb, ℤ, pos, length, get_or, take, drop}
use Rattle.std.proofs.Math.IntN.{sub_ℕ}
use Rattle.rules.specs.Outcome.{Outcome, refused, given, ◌>>=◌, ◌>>◌, require}
use Rattle.rules.specs.Refusals.{not_archive, bad_link, wrong_kind}

-- ---- a record's bytes and fields

abbrev pub byte_at : List ℕ → ℕ → ℕ
byte_at r at = get_or r at 0

-- four bytes, little-endian, as an unsigned number: a link
unfoldable pub link_at : List ℕ → ℕ → ℕ
link_at r at = byte_at r at + 2 ^ 8 * byte_at r (at + 1) + 2 ^ 16 * byte_at r (at + 2) + 2 ^ 24 * byte_at r (at + 3)

-- a number of 32 bits as a signed one, in two's complement
unfoldable pub twos : ℕ → ℤ
twos w = cond (ltb w (2 ^ 31)) (pos w) (sub_ℕ w (2 ^ 32))

-- every other field of four bytes
unfoldable pub field_at : List ℕ → ℕ → ℤ
field_at r at = twos (link_at r at)

-- record n: its own 32 bytes out of the middle of the archive
unfoldable pub record_at : List ℕ → ℕ → List ℕ
record_at archive n = take 32 (drop (32 * n) archive)

-- byte 0 of a record other than the head is its kind, bytes 4-7 the next record of its chain
abbrev pub kind_of : List ℕ → ℕ
kind_of r = byte_at r 0

abbrev pub next_of : List ℕ → ℕ
next_of r = link_at r 4

-- the kinds
abbrev pub plant_kind : ℕ
plant_kind = 1

abbrev pub point_kind : ℕ
point_kind = 2

abbrev pub measure_kind : ℕ
measure_kind = 3

abbrev pub before_kind : ℕ
before_kind = 4

abbrev pub quarter_kind : ℕ
quarter_kind = 5

-- the links from a record to the first of the records that it owns
abbrev pub first_plant : List ℕ → ℕ
first_plant head = link_at head 8

abbrev pub first_point : List ℕ → ℕ
first_point plant = link_at plant 8

abbrev pub first_measure : List ℕ → ℕ
first_measure plant = link_at plant 12

abbrev pub first_before : List ℕ → ℕ
first_before measure = link_at measure 8

abbrev pub first_quarter : List ℕ → ℕ
first_quarter measure = link_at measure 12

-- ---- the head, record 0

-- bytes 0-3 are ASCII AARB
abbrev pub is_text : List ℕ → Bool
is_text r = eqb (byte_at r 0) 65 && eqb (byte_at r 1) 65 && eqb (byte_at r 2) 82 && eqb (byte_at r 3) 66

-- 1 to 65,535 records of 32 bytes
abbrev pub is_whole : ℕ → Bool
is_whole n = eqb (n % 32) 0 && leb 1 (n / 32) && leb (n / 32) 65535

-- U, the count of used records with the head, 1 up to all; or refusal 1
unfoldable pub used_of : List ℕ → Outcome ℕ
used_of archive = do
  require (is_whole (length archive)) not_archive
  require (is_text (record_at archive 0)) not_archive
  require (leb 1 (link_at (record_at archive 0) 4) && leb (link_at (record_at archive 0) 4) (length archive / 32)) not_archive
  given (link_at (record_at archive 0) 4)

-- ---- links and chains

-- a record met by following a link: what is read of it later is read from these bytes
pub record Entry : Type 0 where
  pub number : ℕ
  pub bytes : List ℕ

-- record n as it is met
abbrev pub entry_at : List ℕ → ℕ → Entry
entry_at archive n = record { number = n; bytes = record_at archive n }

module _ (archive : List ℕ) (used kind : ℕ) where
  -- a link that isn't zero, followed: it must be above its holder's own number and below U (2), then of the right kind (3)
  unfoldable pub follow : ℕ → ℕ → Outcome Entry
  follow holder link = do
    require (ltb holder link && ltb link used) bad_link
    require (eqb (kind_of (record_at archive link)) kind) wrong_kind
    given (entry_at archive link)

  -- the record at a place of a chain, counted from 1; zero ends the chain, and a place that it doesn't have is refused as missing;
  -- at place 0 no link is followed
  abbrev pub at_place : ℕ → ℕ → ℕ → ℕ → Outcome Entry
  at_place missing zero holder link = refused missing
  at_place missing (suc zero) holder link = cond (eqb link 0) (refused missing) (follow holder link)
  at_place missing (suc (suc place)) holder link =
      cond (eqb link 0) (refused missing)
      (follow holder link >>= λ e. at_place missing (suc place) e.number (next_of e.bytes))

  -- a chain to its end, in at most so many steps
  abbrev pub chain_from : ℕ → ℕ → ℕ → Outcome (List Entry)
  chain_from zero holder link = cond (eqb link 0) (given []) (refused bad_link)
  chain_from (suc steps) holder link =
      cond (eqb link 0) (given [])
      (follow holder link >>= λ e. chain_from steps e.number (next_of e.bytes) >>= λ es. given (e ∷ es))

  -- a chain to its end; each link followed is above its holder and below U, so U steps are enough: `chain_is` of proofs/Chains.antt
  unfoldable pub chain : ℕ → ℕ → Outcome (List Entry)
  chain holder link = chain_from used holder link
