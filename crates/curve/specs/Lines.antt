-- The line between two points, filled into a table.
use Rattle.std.specs.Prelude.{ℕ, zero, suc, ◌≤◌, ◌<◌, List, set}
use Rattle.rules.specs.Terms.{Point}
use Rattle.rules.specs.Reference.{line_at}

abbrev pub point : ℕ → ℕ → Point
point speed power = record { speed = speed; power = power }

-- speed and power are in range
pub record InRange (a : Point) : Type 0 where
  pub low_speed : a.speed ≤ 1000
  pub low_power : a.power ≤ 1000000000

-- two points that follow one another on a curve
pub record Piece (a b : Point) : Type 0 where
  pub rises : a.speed < b.speed
  pub left : InRange a
  pub right : InRange b

-- the line from a to b at so many speeds from this one on
unfoldable pub filled : Point → Point → ℕ → ℕ → List ℕ → List ℕ
filled a b zero speed powers = powers
filled a b (suc n) speed powers = filled a b n (suc speed) (set powers speed (line_at a b speed))
