-- Signed numbers as the code holds them: by their bits `of_z w64 z`, which `to_z w64` reads.
use mathlib.Core.Path.{◌≡◌}
use Prim.Native.Nat.{◌^◌, ◌<◌}
use lib.IntN.{ℤ}
use lib.Signed.{mag}
use mir.Syntax.{w64}
use mir.Val.{to_z, of_z}
use mir.Facts.{to_z-of_z}

-- what is read of a number that is held
abbrev pub held : ℤ → ℤ
held z = to_z w64 (of_z w64 z)

pub back : (z : ℤ) → mag z < 2 ^ 63 → held z ≡ z
back z h = to_z-of_z {w = w64} {z = z} (record { sfits = h })
