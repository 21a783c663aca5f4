use Rattle.takeback.proofs.Namings.{Met}
use Rattle.takeback.proofs.only_link_to.Given as goal

abbrev pub invariant-loop-n : goal.invariant-loop-n
invariant-loop-n l = Met l.archive l.named l.n l.met
