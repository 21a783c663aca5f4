-- A product as the code makes it, of a number and one that is 0 or more.
use mathlib.Core.Path.{◌≡◌, sym, ap₂, ◌∙◌, subst}
use Prim.Native.Nat.{ℕ, ◌*◌, ◌^◌, ◌≤◌, ◌<◌}
use native.Mathlib.Omega.{arith}
use lib.IntN.{ℤ, pos, ◌*ℤ◌}
use lib.Signed.{mag}
use mir.Syntax.{w64}
use mir.Val.{SFits}
use mir.Facts.{to_z-of_z}
use Rattle.rules.proofs.Ints.{mag_times}
use Rattle.units.proofs.Laws.{held}

module _ (a b x y : ℤ) (n ba bn : ℕ) (ex : x ≡ a) (ey : y ≡ b) (eb : b ≡ pos n) (ha : mag a < ba) (hn : n ≤ bn) (room : ba * bn < 2 ^ 63) where
  times_fits : SFits w64 (x *ℤ y)
  times_fits = subst (SFits w64) (sym (ap₂ ◌*ℤ◌ ex (ey ∙ eb))) (record { sfits = omega (arith, mag_times a n ba bn ha hn) })

  pub times_is : held (x *ℤ y) ≡ a *ℤ b
  times_is = to_z-of_z times_fits ∙ ap₂ ◌*ℤ◌ ex ey
