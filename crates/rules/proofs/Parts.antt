-- The part `&archive[32 * n..32 * n + 32]` of a record, over plain variables: what its code asks.
use mathlib.Core.Path.{◌≡◌}
use Prim.Native.Nat.{ℕ, ◌+◌, ◌-◌, ◌*◌, ◌≤◌, ◌<◌}
use native.Mathlib.Omega.{arith}
use mir.Syntax.{w64}
use mir.Val.{Fits}

module _ {n used : ℕ} (below : n < used) where
  pub start_fits : used < 65536 → Fits w64 (32 * n)
  start_fits few = record { fits = omega arith }

  pub end_fits : used < 65536 → Fits w64 (32 * n + 32)
  end_fits few = record { fits = omega arith }

  pub end_within : {size : ℕ} → 32 * used ≤ size → 32 * n + 32 ≤ size
  end_within room = omega arith

pub start_end : (n : ℕ) → 32 * n ≤ 32 * n + 32
start_end n = omega arith

pub part_size : (n : ℕ) {size : ℕ} → size ≡ 32 * n + 32 - 32 * n → size ≡ 32
part_size n e = omega arith
