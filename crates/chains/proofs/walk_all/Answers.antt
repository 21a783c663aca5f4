use Rattle.std.proofs.Common.{◌+◌, ◌*◌, refl, sym, ◌∙◌, ap, arith}
use Rattle.std.proofs.lemmas.Result.{err_from_is_err_and}
use Rattle.rules.specs.Archive.{chain}
use Rattle.rules.proofs.Bytes.{link_of}
use Rattle.chains.proofs.Ends.{onward, end_reached, end_refused}
use Rattle.chains.proofs.Walking.{lies_starts, walk_starts, walk_meets, walk_turns, walk_ends, walk_refused}
use Rattle.chains.proofs.walk_all.Goals as goal

pub loop-step-init : goal.loop-step-init
loop-step-init c =
    let e = c.into_iter-step-iterator.ensures.into_iter_gives in
    let s = rw (← e) at c.starting-step-items.ensures in
    (lies_starts s c.requires.fits, tt, walk_starts onward _ _ _ _ _ _ s c.requires.below, omega arith)

pub returns-in_err-place : goal.returns-in_err-place
returns-in_err-place c =
    let a = c.args in
    let p = err_from_is_err_and c.from_residual.result c.from_residual.ensures.1 in
    let r = rw c.in_err-place.was at c.in-Some.ensures.steps in
    let first = c.link_of-first.ensures.0 ∙ link_of a.archive.now a.holder a.offset c.requires.within in
    rw (p.1, p.2)
    (end_refused (32 * a.holder + a.offset) (ap (chain a.archive.now a.used a.kind a.holder) (sym first)) (walk_refused onward _ _ _ _ _ _ c.loop-step.invariant.2 r))

pub overflow_mul-place-in-loop-step : goal.overflow_mul-place-in-loop-step
overflow_mul-place-in-loop-step c =
    let t = rw c.in_ok-place.was at c.in-Some.ensures.steps in
    let m = walk_meets onward _ _ _ _ _ _ c.loop-step.invariant.2 t in
    record { fits = omega arith }

pub overflow_add-place-in-loop-step : goal.overflow_add-place-in-loop-step
overflow_add-place-in-loop-step c =
    let t = rw c.in_ok-place.was at c.in-Some.ensures.steps in
    let m = walk_meets onward _ _ _ _ _ _ c.loop-step.invariant.2 t in
    record { fits = omega arith }

pub overflow_add-links : goal.overflow_add-links
overflow_add-links c =
    let t = rw c.in_ok-place.was at c.in-Some.ensures.steps in
    let m = walk_meets onward _ _ _ _ _ _ c.loop-step.invariant.2 t in
    record { fits = omega arith }

pub loop-step-preserved : goal.loop-step-preserved
loop-step-preserved c =
    let t = rw c.in_ok-place.was at c.in-Some.ensures.steps in
    let m = walk_meets onward _ _ _ _ _ _ c.loop-step.invariant.2 t in
    (c.in-Some.ensures.goes.keeps, tt, walk_turns onward _ _ _ _ _ _ c.loop-step.invariant.2 t refl, omega (arith, t.last_is))

pub returns : goal.returns
returns c =
    let a = c.args in
    let first = c.link_of-first.ensures.0 ∙ link_of a.archive.now a.holder a.offset c.requires.within in
    end_reached (32 * a.holder + a.offset) (ap (chain a.archive.now a.used a.kind a.holder) (sym first))
    (walk_ends onward _ _ _ _ _ _ c.loop-step.invariant.2 c.in-None.ensures.steps)
