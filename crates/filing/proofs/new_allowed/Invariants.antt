use Rattle.filing.proofs.Links.{NewFrom}
use Rattle.filing.proofs.new_allowed.Given as goal

abbrev pub invariant-loop-at : goal.invariant-loop-at
invariant-loop-at l = NewFrom l.record l.at-index
