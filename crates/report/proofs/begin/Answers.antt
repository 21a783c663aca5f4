use native.Mathlib.Omega.{arith}
use mathlib.Core.Path.{sym}
use Rattle.rules.proofs.Output.{output_long, output_refused}
use Rattle.report.proofs.Laws.{begins_refused, begins_first}
use Rattle.report.proofs.begin.Goals as goal

pub returns-then-input-gt65536 : goal.returns-then-input-gt65536
returns-then-input-gt65536 c =
    let i = c.args.input.now in
    begins_refused i _ _ c.refused_head.result (output_long i (omega arith)) c.refused_head.ensures

pub returns-in-Err : goal.returns-in-Err
returns-in-Err c =
    let i = c.args.input.now in
    begins_refused i _ _ c.refused_head-in-Err.result (output_refused i _ (sym c.in-Err.ensures)) c.refused_head-in-Err.ensures

pub returns-in-Ok : goal.returns-in-Ok
returns-in-Ok c = begins_first c.args.input.now _ _ c.first.result (omega arith) (sym c.in-Ok.ensures) c.first.ensures
