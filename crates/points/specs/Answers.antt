-- What the curve that was read stands for.
use Rattle.std.specs.Prelude.{ℕ, ◌≡◌, List, length, Result, Ok, Err}
use Rattle.rules.specs.Outcome.{Outcome, refused, given}
use Rattle.rules.specs.Results.{number}
use Rattle.rules.specs.Terms.{Point}
use Rattle.rules.specs.declared.refusal.Refusal.{Refusal}
use Rattle.curve.specs.Tables.{Tabulates}
use Rattle.points.specs.declared.PlantCurve.{PlantCurve}

-- these points are given: the links followed, one to each point, and the table of their curve
pub record PointsGiven (o : Outcome (List Point)) (r : PlantCurve) (powers : List ℕ) : Type 0 where
  pub points : List Point
  pub is : o ≡ given points
  pub count : r.links ≡ length points
  pub tabulates : Tabulates r.curve powers points

-- the points, or 2, 3, 9 or 10
abbrev pub CurveRead : Outcome (List Point) → Result PlantCurve Refusal → List ℕ → Type 0
CurveRead o (Ok r) powers = PointsGiven o r powers
CurveRead o (Err e) powers = o ≡ refused (number e)
