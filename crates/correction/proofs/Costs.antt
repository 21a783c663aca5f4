-- The cost of a quarter's gap as the code forms it: no difference and no product leaves 64 bits.
use mathlib.Core.Path.{◌≡◌, sym, ap, ap₂, ◌∙◌, subst}
use mathlib.Core.Bool.{true}
use Prim.Native.Nat.{ℕ, ◌^◌, ◌≤◌, ◌<◌}
use native.Mathlib.Omega.{arith}
use lib.IntN.{ℤ, ◌-ℤ◌, ◌*ℤ◌}
use lib.Signed.{mag}
use mir.Syntax.{w64}
use mir.Val.{SFits}
use mir.Facts.{to_z-of_z}
use Rattle.rules.specs.Numbers.{or_zero}
use Rattle.rules.specs.Correction.{gap_of, is_energy, energies_allowed, price_allowed, millionths, cost_of}
use Rattle.rules.proofs.Correction.{gap_small, cost_small}
use Rattle.rules.proofs.Ints.{under, mag_parts}
use Rattle.rules.proofs.Ranges.{within_signed}
use Rattle.rules.proofs.Sound.{both}
use Rattle.units.proofs.Laws.{held, back}

-- within the type: neither part is above some number far below its end
pub in_range : (z : ℤ) (most : ℕ) → (or_zero z ≤ most) × (under z ≤ most) → most < 2 ^ 63 → mag z < 2 ^ 63
in_range z most h few = mag_parts z (omega (arith, h.0)) (omega (arith, h.1))

energy_held : (z : ℤ) → is_energy z ≡ true → held z ≡ z
energy_held z e = back z (in_range z 1000000000 (within_signed 999999999 1000000000 z e) (omega arith))

module _ (a b p : ℤ) (energies : energies_allowed (gap_of a b p) ≡ true) (price : price_allowed (gap_of a b p) ≡ true) where
  gap_held : held a -ℤ held b ≡ a -ℤ b
  gap_held = let t = both (is_energy a) (is_energy b) energies in ap₂ ◌-ℤ◌ (energy_held a t.0) (energy_held b t.1)

  pub gap_fits : SFits w64 (held a -ℤ held b)
  gap_fits = subst (SFits w64) (sym gap_held) (record { sfits = in_range (a -ℤ b) 2000000000 (gap_small (gap_of a b p) energies) (omega arith) })

  cost_held : held (held a -ℤ held b) *ℤ held p ≡ (a -ℤ b) *ℤ p
  cost_held = ap₂ ◌*ℤ◌ (to_z-of_z gap_fits ∙ gap_held) (back p (in_range p 1000000 (within_signed 999999 1000000 p price) (omega arith)))

  cost_small_enough : mag ((a -ℤ b) *ℤ p) < 2 ^ 63
  unfolding cost_of
  cost_small_enough = in_range ((a -ℤ b) *ℤ p) 2000000000000000 (cost_small (gap_of a b p) energies price) (omega arith)

  pub cost_fits : SFits w64 (held (held a -ℤ held b) *ℤ held p)
  cost_fits = subst (SFits w64) (sym cost_held) (record { sfits = cost_small_enough })

  pub cost_is : millionths (held (held (held a -ℤ held b) *ℤ held p)) ≡ cost_of (gap_of a b p)
  unfolding cost_of
  cost_is = ap millionths (to_z-of_z cost_fits ∙ cost_held)
