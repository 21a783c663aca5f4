use Rattle.rules.specs.Calendar.{month_length}
use Rattle.calendar.proofs.Dates.{Leafing}
use Rattle.calendar.proofs.date_in.Given as goal

abbrev pub invariant-loop-month : goal.invariant-loop-month
invariant-loop-month l = Leafing l.year l.day l.month (month_length l.year l.month) l.left
