use Rattle.std.proofs.Common.{◌-◌, ◌+◌, ◌≡◌, length}
use Rattle.report.specs.Cursors.{steps, Continues}
use Rattle.program.proofs.Report.fill.Given as goal

abbrev pub invariant-loop-self : goal.invariant-loop-self
invariant-loop-self l =
    Continues l.archive l.initial.self.cursor l.initial.self.list l.self.cursor l.self.list l.self.out × (length l.self.out ≡ 65536)

abbrev pub decreases-loop-self : goal.decreases-loop-self
decreases-loop-self l = (length l.self.out - l.self.cursor.end) + steps l.self.cursor
