use Rattle.rules.specs.Archive.{point_kind}
use Rattle.chains.proofs.Walking.{Walking}
use Rattle.points.specs.Steps.{walk, no_points}
use Rattle.points.proofs.Points.{stepped}
use Rattle.points.proofs.Walks.{Kept}
use Rattle.points.proofs.read_points.Given as goal

-- the walk along the chain, and what it keeps
abbrev pub invariant-loop-step : goal.invariant-loop-step
invariant-loop-step l =
    (goal.iterator-loop-step).can_next l.step-iterator
    × (goal.iterator-loop-step).is_finite l.step-iterator
    × Walking stepped l.archive l.fn.place.used point_kind l.fn.place.plant l.first (walk no_points l.initial.powers) l.step-iterator (walk l.read l.powers)
    × Kept l.initial.powers l.step-iterator.last (walk l.read l.powers)
