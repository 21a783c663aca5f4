use Rattle.takeback.proofs.Namings.{Read}
use Rattle.takeback.proofs.naming_in.Given as goal

abbrev pub invariant-loop-at : goal.invariant-loop-at
invariant-loop-at l = Read l.archive l.n l.named l.fn.met l.at-index l.place
