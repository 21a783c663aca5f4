-- A settled measure has 1 to 2,976 quarters, so a list of 2,976 places is never too short.
use mathlib.Core.Path.{◌≡◌, refl}
use mathlib.Core.List.{List}
use Prim.Native.Nat.{ℕ, ◌≤◌}
use native.Mathlib.Omega.{arith}
use lib.Dec.{leb}
use borrow.Author.Tests.{le-leb}
use Rattle.rules.specs.Outcome.{Outcome, refused, given, ◌>>=◌, ◌>>◌, require}
use Rattle.rules.specs.Refusals.{no_room}
use Rattle.rules.specs.Settle.{Settlement, count_of, settled, settle}
use Rattle.rules.proofs.Inversion.{Holds, holds_bind, holds_given}
use Rattle.rules.proofs.Settled.{Counted, quarters_counted, count_is}

pub settled_counted : (archive : List ℕ) (p k : ℕ) → Holds (λ (s : Settlement). Counted (count_of s)) (settled archive p k)
unfolding settled
settled_counted archive p k =
    holds_bind _ _ (λ place e. holds_bind _ _ (λ basis f. holds_bind _ _ (λ quarters g.
    let c = (quarters_counted archive place basis).of quarters g in
    holds_given _ (record { some = omega (arith, count_is place basis quarters, c.some); few = omega (arith, count_is place basis quarters, c.few) }))))

-- 13 is never met
pub settle_long : (archive : List ℕ) (p k places : ℕ) → 2976 ≤ places → settle archive p k places ≡ settled archive p k
unfolding settle ◌>>=◌ ◌>>◌ require
settle_long archive p k places h = go (settled archive p k) (settled_counted archive p k)
  where
    go : (o : Outcome Settlement) → Holds (λ (s : Settlement). Counted (count_of s)) o → (o >>= λ s. require (leb (count_of s) places) no_room >> given s) ≡ o
    go (refused n) c = refl
    go (given s) c = let f = c.of s refl in rw (le-leb (count_of s) places (omega (arith, f.few)))
