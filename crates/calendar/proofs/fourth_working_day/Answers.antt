use native.Mathlib.Omega.{arith}
use Rattle.calendar.proofs.Days.{counting_ends, counting_finds, counting_takes, counting_passes}
use Rattle.calendar.proofs.fourth_working_day.Goals as goal
use Rattle.calendar.proofs.fourth_working_day.Goals.{then-is_working+else-others-eq0, else-is_working}

pub returns-then-others-eq0 : goal.returns-then-others-eq0
returns-then-others-eq0 c =
    let a = c.args in
    counting_finds a.month.now.first.0 a.month.now.marks a.days c.requires.0 c.loop-passed.invariant (omega arith) c.is_working.result c.is_working.ensures c.if-is_working.true c.if-others-eq0.true

pub loop-passed-preserved : goal.loop-passed-preserved
loop-passed-preserved c =
    let a = c.args in
    elim c.if-is_working.branch [
      | then-is_working+else-others-eq0 w ↦
          counting_takes a.month.now.first.0 a.month.now.marks a.days c.requires.0 c.loop-passed.invariant (omega arith) c.is_working.result c.is_working.ensures c.if-is_working.others c.weekday_after-weekday.result c.weekday_after-weekday.ensures w.if-is_working.true w.if-others-eq0.false w.others-is
      | else-is_working w ↦
          counting_passes a.month.now.first.0 a.month.now.marks a.days c.requires.0 c.loop-passed.invariant (omega arith) c.is_working.result c.is_working.ensures c.if-is_working.others c.weekday_after-weekday.result c.weekday_after-weekday.ensures w.if-is_working.false w.others-is
    ]

pub returns : goal.returns
returns c =
    let a = c.args in
    counting_ends a.month.now.first.0 a.month.now.marks a.days c.loop-passed.invariant (omega arith)
