use Rattle.filing.proofs.Links.{OffsetFrom}
use Rattle.filing.proofs.offset_for.Given as goal

abbrev pub invariant-loop-at : goal.invariant-loop-at
invariant-loop-at l = OffsetFrom l.archive l.used l.owner l.kind l.at-index
