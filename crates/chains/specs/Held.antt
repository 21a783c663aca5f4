-- What is asked of a link before it is read.
use Rattle.std.specs.Prelude.{ℕ, ◌+◌, ◌*◌, ◌≤◌, ◌<◌, List, length}

-- the link at a byte of a used record
pub record LinkHeld (archive : List ℕ) (used holder offset : ℕ) : Type 0 where
  -- all used records lie in the archive
  pub fits : 32 * used ≤ length archive
  pub few : used < 65536
  pub below : holder < used
  -- its four bytes are the record's
  pub within : offset + 4 ≤ 32
