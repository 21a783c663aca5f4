-- A power curve as a table of powers by speed.
use Rattle.std.specs.Prelude.{ℕ, ◌≤◌, ◌≡◌, cond, List, ltb, ℤ, pos, length, get_or}
use Rattle.rules.specs.Numbers.{or_zero}
use Rattle.rules.specs.Terms.{Point}
use Rattle.rules.specs.Reference.{CurveReading, below, on, above, read_curve, curve_power}
use Rattle.curve.specs.declared.Curve.{Curve}

abbrev pub table_reading : Curve → List ℕ → ℕ → CurveReading
table_reading curve powers speed =
    cond (ltb speed curve.first) below (cond (ltb curve.last speed) above (on (get_or powers speed 0)))

-- no power in the table is above 1,000,000,000
abbrev pub Low : List ℕ → Type 0
Low powers = (speed : ℕ) → get_or powers speed 0 ≤ 1000000000

-- a place for the power at every speed
pub record Spare (powers : List ℕ) : Type 0 where
  pub size : length powers ≡ 1001
  pub low : Low powers

-- the table says what the curve of these points says, at every speed in range
pub record Tabulates (curve : Curve) (powers : List ℕ) (points : List Point) : Type 0 where
  pub size : length powers ≡ 1001
  pub agrees : (speed : ℕ) → speed ≤ 1000 → table_reading curve powers speed ≡ read_curve points speed
  pub low : Low powers

-- a table that can be read at this speed
pub record Readable (powers : List ℕ) (speed : ℕ) : Type 0 where
  pub size : length powers ≡ 1001
  pub low : Low powers
  pub speed_low : speed ≤ 1000

-- a power read from the table: at this speed that of the curve of the points, from 0 to 1,000,000,000
pub record PowerAt (curve : Curve) (powers : List ℕ) (speed : ℕ) (power : ℤ) : Type 0 where
  pub is : (points : List Point) → Tabulates curve powers points → power ≡ pos (curve_power points speed)
  pub natural : power ≡ pos (or_zero power)
  pub low : or_zero power ≤ 1000000000
