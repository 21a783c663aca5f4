-- The walk along the points of a curve, step by step: what it has read, and the table that it fills.
use Rattle.std.specs.Prelude.{ℕ, ◌+◌, ◌-◌, ◌<◌, ◌≡◌, true, false, cond, ◌&&◌, List, eqb, leb, ltb, length, set}
use Rattle.rules.specs.Outcome.{Outcome, refused, given}
use Rattle.rules.specs.Refusals.{out_of_range, bad_curve}
use Rattle.rules.specs.Terms.{Point, point_of, point_allowed}
use Rattle.curve.specs.declared.Curve.{Curve}
use Rattle.curve.specs.Lines.{InRange, point, filled}
use Rattle.points.specs.declared.PointsRead.{PointsRead}
use Rattle.points.specs.declared.PlantCurve.{PlantCurve}

-- where a walk stands
pub record Walk : Type 0 where
  pub read : PointsRead
  pub powers : List ℕ

abbrev pub walk : PointsRead → List ℕ → Walk
walk read powers = record { read = read; powers = powers }

-- before the first point
abbrev pub no_points : PointsRead
no_points = record { count = 0; allowed = true; rising = true; first = 0; last = 0; power = 0 }

-- the last point whose speed rises
abbrev pub last_read : PointsRead → Point
last_read p = point p.last p.power

-- one more point can go into the table
pub record PointFits (powers : List ℕ) (read : PointsRead) (a : Point) : Type 0 where
  pub size : length powers ≡ 1001
  pub last_in_range : InRange (last_read read)
  pub in_range : InRange a

-- one more record can be read
pub record RecordFits (powers : List ℕ) (read : PointsRead) : Type 0 where
  pub size : length powers ≡ 1001
  pub few : read.count < 65536
  pub last_in_range : InRange (last_read read)

-- one point more
abbrev pub counted : PointsRead → PointsRead
counted p = record { count = p.count + 1; allowed = p.allowed; rising = p.rising; first = p.first; last = p.last; power = p.power }

-- the first point
abbrev pub with_first : Point → PointsRead → List ℕ → Walk
with_first a p powers =
    walk (record { count = p.count; allowed = p.allowed; rising = p.rising; first = a.speed; last = a.speed; power = a.power })
    (set powers a.speed a.power)

-- a point whose speed is above that of the last one: the line to it, and at its speed its own power
abbrev pub with_next : Point → PointsRead → List ℕ → Walk
with_next a p powers =
    walk (record { count = p.count; allowed = p.allowed; rising = p.rising; first = p.first; last = a.speed; power = a.power })
    (set (filled (last_read p) a (a.speed - p.last) p.last powers) a.speed a.power)

-- a point whose speed isn't
abbrev pub with_not_rising : PointsRead → List ℕ → Walk
with_not_rising p powers =
    walk (record { count = p.count; allowed = p.allowed; rising = false; first = p.first; last = p.last; power = p.power }) powers

-- a point in range, counted already
unfoldable pub with_point : Point → Walk → Walk
with_point a w =
    cond (eqb w.read.count 1) (with_first a w.read w.powers)
    (cond (ltb w.read.last a.speed) (with_next a w.read w.powers) (with_not_rising w.read w.powers))

-- a point out of range
abbrev pub with_out_of_range : PointsRead → List ℕ → Walk
with_out_of_range p powers =
    walk (record { count = p.count; allowed = false; rising = p.rising; first = p.first; last = p.last; power = p.power }) powers

-- a point, by its bytes
unfoldable pub with_record : List ℕ → Walk → Walk
with_record r w =
    cond (point_allowed r) (with_point (point_of r) (walk (counted w.read) w.powers)) (with_out_of_range (counted w.read) w.powers)

-- the curve from the first point to the last
abbrev pub curve_of : PointsRead → Curve
curve_of p = record { first = p.first; last = p.last }

-- the curve and the links followed
abbrev pub read_of : PointsRead → PlantCurve
read_of p = record { curve = curve_of p; links = p.count }

-- after the walk: 9, then 10
unfoldable pub answer_of : PointsRead → Outcome PlantCurve
answer_of p =
    cond p.allowed
    (cond (leb 2 p.count && p.rising) (given (read_of p)) (refused bad_curve))
    (refused out_of_range)
