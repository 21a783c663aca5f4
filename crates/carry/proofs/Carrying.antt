-- Booking one magnitude: the quotient and the remainder of the magnitude alone, and at most one Wh more from what was carried.
use mathlib.Core.Path.{◌≡◌, refl}
use Prim.Native.Nat.{ℕ, ◌+◌, ◌*◌, ◌-◌, ◌/◌, ◌%◌, ◌≤◌, ◌<◌}
use native.Mathlib.Nat.{mod-lt}
use native.Mathlib.Omega.{arith}
use Rattle.std.proofs.lemmas.Nat.{div-add-mod', div-mul-add, mod-mul-add}
use Rattle.carry.specs.declared.Carry.{Carry}
use Rattle.carry.specs.declared.Parts.{Parts}
use Rattle.carry.specs.Carrying.{booked_of, parts_of}

-- a number by its quotient and remainder
pub divides : (n d q rest : ℕ) → rest < d → n ≡ q * d + rest → (n / d ≡ q) × (n % d ≡ rest)
divides n d q rest h e = rw e (div-mul-add q d rest h, mod-mul-add q d rest h)

-- p is the magnitude's whole Wh and what is left of it
module _ (c : Carry) (m : ℕ) (p : Parts) (is : p ≡ parts_of m c.divisor.denominator) where
  magnitude : p.whole * c.divisor.denominator + p.rest ≡ m
  magnitude = rw is (div-add-mod' m c.divisor.denominator)

  abbrev IsBooked : ℕ → ℕ → Type 0
  IsBooked amount left =
      (amount ≡ (booked_of c m).amount) × ◌≡◌ {A = Carry} (record { remainder = left; divisor = c.divisor }) (booked_of c m).carry

  booked : (q left : ℕ) → left < c.divisor.denominator → c.remainder + m ≡ q * c.divisor.denominator + left → IsBooked q left
  booked q left h e = let d = divides (c.remainder + m) c.divisor.denominator q left h e in rw (d.0, d.1) (refl, refl)

  -- what is carried and the magnitude's own remainder make no whole Wh
  pub booked_same : c.remainder + p.rest < c.divisor.denominator → IsBooked p.whole (c.remainder + p.rest)
  booked_same h = booked p.whole (c.remainder + p.rest) h (omega (arith, magnitude))

  -- they make one
  pub booked_more : c.remainder < c.divisor.denominator → c.divisor.denominator ≤ c.remainder + p.rest → IsBooked (p.whole + 1) (c.remainder + p.rest - c.divisor.denominator)
  booked_more small over =
      let left : p.rest < c.divisor.denominator = rw is (mod-lt m (omega arith)) in
      booked (p.whole + 1) (c.remainder + p.rest - c.divisor.denominator) (omega arith) (omega (arith, magnitude))
