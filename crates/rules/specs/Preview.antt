-- Preview (02, 6): what settle would give with one more record. It is stated through append and settle alone, and leaves the archive.
use Rattle.std.specs.Prelude.{ℕ, ◌*◌, List}
use Rattle.rules.specs.Outcome.{Outcome, ◌>>=◌}
use Rattle.rules.specs.Settle.{Settlement, settle}
use Rattle.rules.specs.Encoding.{word, put}
use Rattle.rules.specs.Host.{host_settle}
use Rattle.rules.specs.Filing.{append}

-- append's refusals first; then what settle gives or refuses on the archive after that append, 13 as the last test of all
unfoldable pub preview : List ℕ → ℕ → List ℕ → ℕ → ℕ → ℕ → Outcome Settlement
preview archive owner new p k places = do
  appended ← append archive owner new
  settle appended p k places

-- the same for the operator's host, in C
unfoldable pub host_preview : List ℕ → ℕ → List ℕ → ℕ → ℕ → ℕ → ℕ → Outcome Settlement
host_preview archive owner new p k list_bytes result_bytes = do
  appended ← append archive owner new
  host_settle appended p k list_bytes result_bytes

-- ---- an append undone, which isn't taking back

-- the three places that an append wrote to are as before: record U has its old bytes, the link is 0, and U is what it was
unfoldable pub undone : List ℕ → ℕ → ℕ → List ℕ → List ℕ
undone appended used place old = put (put (put appended (32 * used) old) place (word 0)) 4 (word used)
