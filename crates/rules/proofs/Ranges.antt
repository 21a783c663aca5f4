-- What a field's range says of its number, as orders of natural numbers.
use mathlib.Core.Path.{◌≡◌, refl}
use mathlib.Core.Bool.{true, false≢true}
use Prim.Native.Nat.{ℕ, suc, ◌≤◌}
use native.Mathlib.Omega.{arith}
use borrow.Author.Tests.{leb-true}
use lib.IntN.{ℤ, pos, negsuc}
use Rattle.rules.specs.Numbers.{within, or_zero}
use Rattle.rules.proofs.Ints.{under}
use Rattle.rules.proofs.Sound.{both}

-- a range from a natural number up
pub within_natural : (low high : ℕ) (z : ℤ) → within (pos low) (pos high) z ≡ true
    → (z ≡ pos (or_zero z)) × (low ≤ or_zero z) × (or_zero z ≤ high)
within_natural low high (pos n) e = let b = both _ _ e in (refl, leb-true low n b.0, leb-true n high b.1)
within_natural low high (negsuc n) e = absurd (false≢true e)

-- a range around zero; its low end is -(low + 1)
pub within_signed : (low high : ℕ) (z : ℤ) → within (negsuc low) (pos high) z ≡ true → (or_zero z ≤ high) × (under z ≤ suc low)
within_signed low high (pos n) e = (leb-true n high e, omega arith)
within_signed low high (negsuc n) e = let h : n ≤ low = leb-true n low (both _ _ e).0 in (omega arith, omega arith)
