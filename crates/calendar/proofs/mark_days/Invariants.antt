use mathlib.Core.Path.{◌≡◌}
use lib.ListN.{length, drop}
use Rattle.calendar.proofs.Days.{Marking}
use Rattle.calendar.proofs.mark_days.Given as goal

-- with what is ahead in the list, the marks are those that the whole list gives
abbrev pub invariant-loop-day : goal.invariant-loop-day
invariant-loop-day l =
    Marking l.initial.month.first.0 (drop l.day-index l.holidays) l.holidays l.initial.month.marks l.month.marks
    × (l.month.first ≡ l.initial.month.first) × (length l.month.marks ≡ length l.initial.month.marks)
