use Rattle.std.proofs.Common.{Ok}
use Rattle.audit.specs.Marks.{RecordsChecked}
use Rattle.audit.proofs.Records.check.Given as goal

abbrev pub invariant-loop-n : goal.invariant-loop-n
invariant-loop-n l = RecordsChecked l.self.archive.now l.self.used l.n l.fn.marks l.marks (Ok tt)
