-- The C entry is settle over a list with a place for every 8 of its bytes, once the result part is 24 bytes long.
use mathlib.Core.Path.{◌≡◌, ap}
use mathlib.Core.Bool.{Bool, and-true}
use mathlib.Core.List.{List}
use Prim.Native.Nat.{ℕ, ◌/◌}
use lib.Dec.{leb}
use Rattle.rules.specs.Outcome.{◌>>◌, require, given}
use Rattle.rules.specs.Settle.{settled, settle, count_of}
use Rattle.rules.specs.Host.{host_settle}
use Rattle.rules.proofs.Inversion.{bind_same}

pub host_settles_alike : (archive : List ℕ) (p k list_bytes : ℕ) → host_settle archive p k list_bytes 24 ≡ settle archive p k (list_bytes / 8)
unfolding host_settle settle
host_settles_alike archive p k list_bytes =
    bind_same (settled archive p k) _ _ (λ s e. ap (λ (t : Bool). require t 13 >> given s) (and-true (leb (count_of s) (list_bytes / 8))))
