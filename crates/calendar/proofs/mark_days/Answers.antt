use mathlib.Core.Path.{◌∙◌}
use Rattle.calendar.proofs.Days.{marking_goes_on}
use Rattle.calendar.proofs.mark_days.Goals as goal

pub loop-day-preserved : goal.loop-day-preserved
loop-day-preserved c =
    let same = c.loop-day.invariant.1 in
    let size = c.loop-day.invariant.2 in (
      marking_goes_on _ _ _ _ _ c.loop-day.day-index c.loop-day-test.true size (rw same at c.mark_day.ensures.marked) c.loop-day.invariant.0,
      c.mark_day.ensures.same ∙ same,
      c.mark_day.ensures.size ∙ size,
    )
