use Rattle.std.proofs.Common.{◌+◌, ◌*◌, ◌≤◌}
use Rattle.chains.proofs.Ends.{stand, onward}
use Rattle.chains.proofs.Walking.{Walking}
use Rattle.chains.proofs.walk_all.Given as goal

abbrev pub invariant-loop-step : goal.invariant-loop-step
invariant-loop-step l =
    (goal.iterator-loop-step).can_next l.step-iterator
    × (goal.iterator-loop-step).is_finite l.step-iterator
    × Walking onward l.archive l.used l.kind l.holder l.first (stand (32 * l.holder + l.offset) 0) l.step-iterator (stand l.place l.links)
    × (l.links ≤ l.step-iterator.last)
