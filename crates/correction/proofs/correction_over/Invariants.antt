use Rattle.correction.proofs.Passes.{Summing}
use Rattle.correction.proofs.correction_over.Given as goal

abbrev pub invariant-loop-i : goal.invariant-loop-i
invariant-loop-i l = Summing l.amounts l.balanced l.prices l.exact.0 l.i
