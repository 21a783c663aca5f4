use mathlib.Core.Path.{refl}
use native.Mathlib.Omega.{arith}
use Rattle.calendar.proofs.Dates.{january, month_turns, december}
use Rattle.calendar.proofs.date_in.Goals as goal

pub loop-month-init : goal.loop-month-init
loop-month-init c = january c.args.year c.args.day c.requires.0 c.requires.1

pub loop-month-preserved : goal.loop-month-preserved
loop-month-preserved c =
    let length = c.month_length-length in
    rw length.ensures (month_turns _ _ c.loop-month.invariant _ refl (omega (arith, c.if-left-length.false, length.ensures)))

pub returns : goal.returns
returns c = december _ _ c.loop-month.invariant (omega (arith, c.loop-month-test.false, c.loop-month.auto.month-end))
