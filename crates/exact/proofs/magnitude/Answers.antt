use mathlib.Core.Path.{◌≡◌, refl, sym, ap, ap₂, ◌∙◌, subst}
use Prim.Native.Nat.{ℕ, ◌+◌, ◌^◌, ◌<◌, ◌≤◌}
use native.Mathlib.Omega.{arith}
use lib.IntN.{ℤ, pos, ◌-ℤ◌, ◌*ℤ◌}
use lib.Signed.{mag}
use mir.Syntax.{w64}
use mir.Val.{SFits, to_z}
use mir.Facts.{to_z_pos, to_z-of_z}
use Rattle.rules.specs.declared.Direction.TheVariants.{Positive as positive, Negative as negative}
use Rattle.rules.specs.Numbers.{or_zero}
use Rattle.rules.specs.Reference.{magnitude}
use Rattle.rules.proofs.Ints.{mag_times, mag_minus}
use Rattle.units.proofs.Laws.{held, back}
use Rattle.reference.proofs.Products.{times_is}
use Rattle.exact.specs.Exacts.{Room}
use Rattle.exact.proofs.magnitude.Goals as goal

-- a difference as the code makes it
module _ (x y a b : ℤ) (ba bb : ℕ) (ex : x ≡ a) (ey : y ≡ b) (ha : mag a < ba) (hb : mag b < bb) (room : ba + bb ≤ 2 ^ 63) where
  minus_fits : SFits w64 (x -ℤ y)
  minus_fits = subst (SFits w64) (sym (ap₂ ◌-ℤ◌ ex ey)) (record { sfits = omega (arith, mag_minus a b ba bb ha hb) })

  minus_is : held (x -ℤ y) ≡ a -ℤ b
  minus_is = to_z-of_z minus_fits ∙ ap₂ ◌-ℤ◌ ex ey

-- L × D, and its difference to T's numerator
module _ (d : ℕ) (t l : ℤ) (room : Room d t l) where
  limit_small : mag (l *ℤ pos d) < 4000000004000000001
  limit_small = mag_times l d 1000000001 4000000000 (omega (arith, room.limit)) room.divisor

  -- as the code holds it
  abbrev limit : ℤ
  limit = held (held l *ℤ to_z w64 d)

  limit_is : limit ≡ l *ℤ pos d
  limit_is = times_is l (pos d) _ _ d 1000000001 4000000000 (back l (omega arith)) (to_z_pos w64 (omega arith)) refl (omega arith) room.divisor (omega arith)

  t_is : held t ≡ t
  t_is = back t (omega arith)

  positive_fits : SFits w64 (limit -ℤ held t)
  positive_fits = minus_fits _ _ (l *ℤ pos d) t 4000000004000000001 4000000000000000001 limit_is t_is limit_small (omega arith) (omega arith)

  negative_fits : SFits w64 (held t -ℤ limit)
  negative_fits = minus_fits _ _ t (l *ℤ pos d) 4000000000000000001 4000000004000000001 t_is limit_is (omega arith) limit_small (omega arith)

  positive_is : or_zero (held (limit -ℤ held t)) ≡ magnitude positive d t l
  unfolding magnitude
  positive_is = ap or_zero (minus_is _ _ (l *ℤ pos d) t 4000000004000000001 4000000000000000001 limit_is t_is limit_small (omega arith) (omega arith))

  negative_is : or_zero (held (held t -ℤ limit)) ≡ magnitude negative d t l
  unfolding magnitude
  negative_is = ap or_zero (minus_is _ _ t (l *ℤ pos d) 4000000000000000001 4000000004000000001 t_is limit_is (omega arith) limit_small (omega arith))

pub overflow_sub-limit : goal.overflow_sub-limit
overflow_sub-limit c = let a = c.args in positive_fits a.d a.t a.l.0 c.requires

pub overflow_sub-t : goal.overflow_sub-t
overflow_sub-t c = let a = c.args in negative_fits a.d a.t a.l.0 c.requires

pub returns-in-Positive : goal.returns-in-Positive
returns-in-Positive c = let a = c.args in rw c.in-Positive.is (c.or_zero.ensures ∙ positive_is a.d a.t a.l.0 c.requires)

pub returns-in-Negative : goal.returns-in-Negative
returns-in-Negative c = let a = c.args in rw c.in-Negative.is (c.or_zero-in-Negative.ensures ∙ negative_is a.d a.t a.l.0 c.requires)
