-- Show for the operator's host: a place in the archive stands for the part that is handed back.
use Rattle.std.specs.Prelude.{ℕ, ◌*◌, cond, List, length}
use Rattle.rules.specs.Archive.{used_of}
use Rattle.rules.specs.Filing.{is_shown}

-- where the record's 32 bytes start; the archive's length, where no byte is, for the empty part
unfoldable pub shown_place : List ℕ → ℕ → ℕ
shown_place archive n = cond (is_shown (used_of archive) n) (32 * n) (length archive)
