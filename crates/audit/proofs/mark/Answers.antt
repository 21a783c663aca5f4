use Rattle.audit.proofs.Marks.{mark_up, mark_stays}
use Rattle.audit.proofs.mark.Goals as goal

pub returns-then-marks-i-lt2 : goal.returns-then-marks-i-lt2
returns-then-marks-i-lt2 c = mark_up _ c.args.n c.if-marks-i-lt2.true

pub returns-else-marks-i-lt2 : goal.returns-else-marks-i-lt2
returns-else-marks-i-lt2 c = mark_stays _ c.args.n c.if-marks-i-lt2.false
