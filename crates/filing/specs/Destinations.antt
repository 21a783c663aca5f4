-- What the answers of the code stand for: document 01's number and values for each case.
use Rattle.std.specs.Prelude.{ℕ, ◌+◌, ◌*◌, ◌≤◌, ◌<◌, ◌≡◌, true, false, List, length, Option, Some, None, Result, Ok, Err}
use Rattle.std.specs.Borrow.{Bor}
use Rattle.rules.specs.Outcome.{refused, given}
use Rattle.rules.specs.Results.{number}
use Rattle.rules.specs.Archive.{link_at, used_of}
use Rattle.rules.specs.Filing.{new_allowed, append_after, append}
use Rattle.rules.specs.declared.refusal.Refusal.{Refusal}
use Rattle.filing.specs.declared.Destination.{Destination}

-- the new record as it was given, or 14
abbrev pub Allowed : List ℕ → Option (Bor (List ℕ)) → Type 0
Allowed new (Some r) = (new_allowed new ≡ true) × (r.now ≡ new)
Allowed new None = new_allowed new ≡ false

-- a new record can be written at number `used` and the link to it at a place
pub record HasRoom (archive : List ℕ) (used place : ℕ) (new : List ℕ) : Type 0 where
  pub size : length new ≡ 32
  -- the record and the link lie in the archive
  pub free : 32 * used + 32 ≤ length archive
  pub link : place + 4 ≤ length archive
  -- U grows by 1
  pub few : used < 65535

-- of so many used records a link at a place ends a chain: it stands behind the head's count, in the used part, and is zero
pub record EndsAt (archive : List ℕ) (used place : ℕ) : Type 0 where
  pub counted : used_of archive ≡ given used
  pub low : 8 ≤ place
  pub high : place + 4 ≤ 32 * used
  pub was_zero : link_at archive place ≡ 0

-- append is refused, or writes the record at number `used` and the link to it at a place
abbrev pub Goes : List ℕ → ℕ → List ℕ → Result Destination Refusal → Type 0
Goes archive owner new (Err e) = append archive owner new ≡ refused (number e)
Goes archive owner new (Ok to) =
    (append archive owner new ≡ given (append_after archive to.number to.place new)) × HasRoom archive to.number to.place new × EndsAt archive to.number to.place
