use Rattle.std.proofs.lemmas.Result.{err_from_is_err_and}
use Rattle.chains.proofs.Walking.{lies_starts}
use Rattle.chains.proofs.Places.{no_link, nears_starts, nears_on, nears_refused}
use Rattle.chains.proofs.walk_to.Goals as goal

pub returns-then-first-eq0 : goal.returns-then-first-eq0
returns-then-first-eq0 c = no_link _ _ _ _ _ _ c.if-first-eq0.true

pub loop-step-init : goal.loop-step-init
loop-step-init c =
    let s = rw (← c.into_iter-step-iterator.ensures.into_iter_gives) at c.starting-step-items.ensures in
    (lies_starts s c.requires, tt, nears_starts _ _ _ _ _ _ c.if-place-eq0.false s)

pub returns-in_err-n : goal.returns-in_err-n
returns-in_err-n c missing =
    let p = err_from_is_err_and c.from_residual.result c.from_residual.ensures.1 in
    let r = rw c.in_err-n.was at c.in-Some.ensures.steps in
    rw (p.1, p.2) (nears_refused _ _ _ _ _ _ c.loop-step.invariant.2 r missing)

pub loop-step-preserved : goal.loop-step-preserved
loop-step-preserved c =
    let t = rw c.in_ok-n.was at c.in-Some.ensures.steps in
    (c.in-Some.ensures.goes.keeps, tt, nears_on _ _ _ _ _ _ c.loop-step.invariant.2 t c.if-passed-place.false)
