use Rattle.std.proofs.Common.{List, ℕ, ◌∙◌, ap, arith}
use Rattle.std.proofs.lemmas.Result.{err_from_is_err_and}
use Rattle.chains.proofs.Walking.{walk_meets, walk_turns, walk_ends, walk_refused}
use Rattle.points.specs.Steps.{walk, with_record}
use Rattle.points.proofs.Walks.{kept_on, walk_answers, chain_denies}
use Rattle.points.proofs.read_points.Goals as goal

pub returns-in_err-n : goal.returns-in_err-n
returns-in_err-n c =
    let a = c.args in
    let p = err_from_is_err_and c.from_residual.result c.from_residual.ensures.1 in
    let r = rw c.in_err-n.was at c.in-Some.ensures.steps in
    rw (p.1, p.2)
    (chain_denies a.archive.now a.place c.link_of-first.result c.link_of-first.ensures.0 (walk_refused _ _ _ _ _ _ _ c.loop-step.invariant.2 r))

pub record_at-requires : goal.record_at-requires
record_at-requires c =
    let t = rw c.in_ok-n.was at c.in-Some.ensures.steps in
    let m = walk_meets _ _ _ _ _ _ _ c.loop-step.invariant.2 t in
    omega (arith, m.below, c.requires.lies.room)

pub loop-step-preserved : goal.loop-step-preserved
loop-step-preserved c =
    let t = rw c.in_ok-n.was at c.in-Some.ensures.steps in
    let m = walk_meets _ _ _ _ _ _ _ c.loop-step.invariant.2 t in
    let e = c.read_point-read.ensures ∙ ap (λ (r : List ℕ). with_record r (walk c.loop-step.read c.loop-step.powers)) c.record_at.ensures in (
      c.in-Some.ensures.goes.keeps,
      tt,
      walk_turns _ _ _ _ _ _ _ c.loop-step.invariant.2 t e,
      kept_on _ c.loop-step.invariant.3 (omega (arith, m.rises, t.last_is)) e c.read_point-read.auto.powers,
    )

pub returns : goal.returns
returns c =
    let a = c.args in
    walk_answers a.archive.now a.place c.link_of-first.result c.link_of-first.ensures.0 a.powers.now c.answer_of.result c.requires.spare.size c.requires.spare.low
    (walk_ends _ _ _ _ _ _ _ c.loop-step.invariant.2 c.in-None.ensures.steps) c.answer_of.ensures
