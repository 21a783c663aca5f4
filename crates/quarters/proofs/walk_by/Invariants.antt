use Rattle.std.proofs.Common.{◌≡◌}
use Rattle.terms.specs.Meanings.{meaning}
use Rattle.rules.specs.Reference as book
use Rattle.quarters.proofs.Walks.{state, Going}
use Rattle.quarters.proofs.walk_by.Given as goal

abbrev pub invariant-loop-step : goal.invariant-loop-step
invariant-loop-step g l =
    (goal.iterator-loop-step g).can_next l.step-iterator
    × (goal.iterator-loop-step g).is_finite l.step-iterator
    × Going l.archive l.fn.place.used l.fn.place.measure l.first (meaning l.place.terms) (g.Q.Quarters.means l.initial.quarters) l.initial.sheet l.step-iterator (state l.count l.fine l.sheet)
    × (g.Q.Quarters.terms l.quarters ≡ meaning l.place.terms)
    × g.Q.Quarters.ready l.quarters l.count
    × ((ref : book.Reference) → g.Q.Quarters.means l.initial.quarters ref → g.Q.Quarters.means l.quarters ref)
