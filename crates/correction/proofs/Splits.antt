-- The exact sum split into whole cents and what is left.
use mathlib.Core.Path.{◌≡◌, sym, ap, ap₂, ◌∙◌}
use Prim.Native.Nat.{ℕ, ◌^◌, ◌<◌}
use lib.IntN.{ℤ, pos, negsuc, nat_abs}
use lib.Signed.{mag}
use Rattle.std.specs.Int.{int_div_euclid, int_rem_euclid}
use Rattle.rules.specs.declared.Money.{Money}
use Rattle.rules.specs.Correction.{millionths, money_of}
use Rattle.rules.proofs.Correction.{money_natural, money_negative}
use Rattle.units.proofs.Laws.{held, back}

abbrev pub money : ℤ → ℕ → Money
money cents remainder = record { cents = cents; remainder = remainder }

split : (z : ℤ) → money (int_div_euclid z (pos 1000000)) (nat_abs (int_rem_euclid z (pos 1000000))) ≡ money_of (millionths z)
split (pos n) = sym (money_natural n)
split (negsuc n) = sym (money_negative n)

-- as the code holds them
module _ (z cents rest : ℤ) (fits : mag z < 2 ^ 63) (c : cents ≡ int_div_euclid (held z) (pos 1000000)) (r : rest ≡ int_rem_euclid (held z) (pos 1000000))
    (cents_fit : mag cents < 2 ^ 63) (rest_fits : mag rest < 2 ^ 63) where
  pub split_held : money (held cents) (nat_abs (held rest)) ≡ money_of (millionths z)
  split_held = ap₂ money (back cents cents_fit ∙ rw (back z fits) at c) (ap nat_abs (back rest rest_fits ∙ rw (back z fits) at r)) ∙ split z
