-- The carry of a measure (01, 'Amounts'): what booking one exact magnitude gives, and what it leaves to carry.
use Rattle.std.specs.Prelude.{ℕ, ◌+◌, ◌/◌, ◌%◌}
use Rattle.carry.specs.declared.Carry.{Carry}
use Rattle.carry.specs.declared.Parts.{Parts}

pub record Booked : Type 0 where
  pub amount : ℕ
  pub carry : Carry

-- the whole Wh that the remainder and the magnitude make, and the remainder that is left, over the same divisor
abbrev pub booked_of : Carry → ℕ → Booked
booked_of c magnitude = record {
  amount = (c.remainder + magnitude) / c.divisor.denominator;
  carry = record { remainder = (c.remainder + magnitude) % c.divisor.denominator; divisor = c.divisor };
}

-- a number by its quotient and remainder
abbrev pub parts_of : ℕ → ℕ → Parts
parts_of n d = record { whole = n / d; rest = n % d }
