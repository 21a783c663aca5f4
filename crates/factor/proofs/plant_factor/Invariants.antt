use Rattle.factor.proofs.Rows.{Looked}
use Rattle.factor.proofs.plant_factor.Given as goal

abbrev pub invariant-loop-r : goal.invariant-loop-r
invariant-loop-r l = Looked l.summer l.quarter l.factor l.r-iterator.iter.rest.now
