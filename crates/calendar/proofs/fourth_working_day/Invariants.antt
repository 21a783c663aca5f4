use Rattle.calendar.proofs.Days.{Counting}
use Rattle.calendar.proofs.fourth_working_day.Given as goal

-- the day that is looked for is still the same
abbrev pub invariant-loop-passed : goal.invariant-loop-passed
invariant-loop-passed l = Counting l.month.first.0 l.month.marks l.days l.others l.weekday l.passed
