use Rattle.report.specs.Cursors.{bytes_left}
use Rattle.program.specs.Due.{RestDue}
use Rattle.program.proofs.Report.print.Given as goal

abbrev pub invariant-loop-self : goal.invariant-loop-self
invariant-loop-self g l = RestDue l.archive l.self l.handed.handed

-- what is left falls with every part
abbrev pub decreases-loop-self : goal.decreases-loop-self
decreases-loop-self g l = bytes_left l.archive l.self.cursor l.self.list
