use Rattle.chains.proofs.Places.{Nearing}
use Rattle.chains.proofs.walk_to.Given as goal

abbrev pub invariant-loop-step : goal.invariant-loop-step
invariant-loop-step l =
    (goal.iterator-loop-step).can_next l.step-iterator
    × (goal.iterator-loop-step).is_finite l.step-iterator
    × Nearing l.archive l.used l.kind l.place l.holder l.first l.passed l.step-iterator
