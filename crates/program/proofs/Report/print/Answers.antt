use mathlib.Core.Path.{sym, ◌∙◌}
use Rattle.report.proofs.Laws.{less_left}
use Rattle.program.proofs.Handing.{handed_on, all_handed}
use Rattle.program.proofs.Report.print.Goals as goal

pub loop-self-smaller : goal.loop-self-smaller
loop-self-smaller g c =
    let r = c.loop-self.self in
    less_left c.args.archive.now r.cursor r.list c.fill.new.self.cursor _ _ (sym c.is_finished.ensures ∙ c.loop-self-test.true) c.fill.ensures.fills

pub loop-self-preserved : goal.loop-self-preserved
loop-self-preserved g c = handed_on c.loop-self.invariant c.fill.ensures c.in_ok-handed.handed c.in_ok-handed.ensures

pub returns : goal.returns
returns g c = all_handed _ c.loop-self.self _ c.loop-self.invariant (sym c.is_finished.ensures ∙ c.loop-self-test.false)
