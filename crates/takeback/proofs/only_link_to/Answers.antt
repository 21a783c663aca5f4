use Rattle.std.proofs.Common.{sym, ◌∙◌, arith}
use Rattle.std.proofs.lemmas.Result.{err_from_is_err_and}
use Rattle.takeback.proofs.Namings.{met_none, met_next, met_same, met_second}
use Rattle.takeback.proofs.only_link_to.Goals as goal
use Rattle.takeback.proofs.only_link_to.Goals.{then-holds+in_ok-met-2, else-holds}

pub returns-in_err-met : goal.returns-in_err-met
returns-in_err-met c =
    let p = err_from_is_err_and c.from_residual.result c.from_residual.ensures.1 in
    let s = met_second (met_none _ _) c.args.used (omega (arith, c.requires.0)) c.in_err-met.ensures in
    rw (p.1, p.2, s.0) s.1

pub loop-n-init : goal.loop-n-init
loop-n-init c = met_next (met_none _ _) c.in_ok-met.ensures

pub returns-in_err-met-2 : goal.returns-in_err-met-2
returns-in_err-met-2 c =
    let p = err_from_is_err_and c.from_residual-in_err-met-2.result c.from_residual-in_err-met-2.ensures.1 in
    let s = met_second c.loop-n.invariant _ c.loop-n-test.true c.in_err-met-2.ensures in
    rw (p.1, p.2, s.0) s.1

pub loop-n-preserved : goal.loop-n-preserved
loop-n-preserved c =
    elim c.if-holds.branch [
      | then-holds+in_ok-met-2 w ↦ rw w.met-is (met_next c.loop-n.invariant w.in_ok-met-2.ensures)
      | else-holds w ↦ rw w.met-is (met_same c.loop-n.invariant (sym c.holds.ensures ∙ w.if-holds.false))
    ]
