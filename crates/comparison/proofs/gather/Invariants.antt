use Rattle.comparison.proofs.Walks.{Going}
use Rattle.comparison.proofs.gather.Given as goal

abbrev pub invariant-loop-one : goal.invariant-loop-one
invariant-loop-one l =
    (goal.iterator-loop-one).can_next l.one-iterator
    × (goal.iterator-loop-one).is_finite l.one-iterator
    × Going l.purpose l.powers l.archive l.fn.place.used l.fn.place.measure l.first l.one-iterator l.walk
