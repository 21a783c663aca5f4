use mathlib.Core.Path.{sym}
use native.Mathlib.Omega.{arith}
use Rattle.calendar.proofs.Days.{outside, first_near, few_days, delivered}
use Rattle.calendar.proofs.delivery_day.Goals as goal

pub returns-then-not-is_in_calendar : goal.returns-then-not-is_in_calendar
returns-then-not-is_in_calendar c = let a = c.args in outside a.quarter.0 a.holidays.now (sym c.if-not-is_in_calendar.ensures)

pub days_of_month-days-requires : goal.days_of_month-days-requires
days_of_month-days-requires c =
    let a = c.args in
    let n = first_near a.quarter.0 a.holidays.now (sym c.if-not-is_in_calendar.ensures) _ c.next_month-first.ensures in
    (n.0, omega (arith, n))

pub fourth_working_day-requires : goal.fourth_working_day-requires
fourth_working_day-requires c =
    let a = c.args in
    let n = first_near a.quarter.0 a.holidays.now (sym c.if-not-is_in_calendar.ensures) _ c.next_month-first.ensures in
    let few = few_days a.quarter.0 a.holidays.now (sym c.if-not-is_in_calendar.ensures) _ c.next_month-first.ensures _ c.days_of_month-days.ensures in
    rw c.mark_days.ensures.same (n.0, omega (arith, n), few)

pub returns : goal.returns
returns c =
    let a = c.args in
    delivered a.quarter.0 a.holidays.now (sym c.if-not-is_in_calendar.ensures) _ c.next_month-first.ensures _ c.days_of_month-days.ensures
    c.mark_days.new.month.marks c.mark_days.ensures.marked _ (rw c.mark_days.ensures.same at c.fourth_working_day.ensures)
