-- The entry for the operator's host, in C (01, 'Calls on the archive'): settle over bytes.
use Rattle.std.specs.Prelude.{ℕ, ◌*◌, ◌/◌, ◌&&◌, List, [], ◌∷◌, ◌++◌, eqb, leb, pos, drop}
use Rattle.rules.specs.Outcome.{Outcome, given, ◌>>=◌, ◌>>◌, require, after}
use Rattle.rules.specs.Refusals.{no_room}
use Rattle.rules.specs.Settle.{Settlement, count_of, total_of, settled}
use Rattle.rules.specs.Encoding.{encoded}

-- the list has a place for every 8 of its bytes, and the result part is 24 bytes long: 13, in 13's place
unfoldable pub host_settle : List ℕ → ℕ → ℕ → ℕ → ℕ → Outcome Settlement
host_settle archive p k list_bytes result_bytes = do
  s ← settled archive p k
  require (leb (count_of s) (list_bytes / 8) && eqb result_bytes 24) no_room
  given s

-- the list's bytes afterwards: 8 to a place; later places and bytes past the last whole place stay
abbrev pub host_list_after : Outcome Settlement → List ℕ → List ℕ
host_list_after o list = after o (λ s. encoded s.amounts ++ drop (8 * count_of s) list) list

-- the result part afterwards: count, total and links, 8 bytes each; a refusal leaves it
abbrev pub host_result_after : Outcome Settlement → List ℕ → List ℕ
host_result_after o result = after o (λ s. encoded (pos (count_of s) ∷ total_of s ∷ pos s.links ∷ [])) result
