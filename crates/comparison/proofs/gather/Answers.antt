use Rattle.std.proofs.Common.{List, ℕ, ◌∙◌, ap, arith}
use Rattle.std.proofs.lemmas.Result.{err_from_is_err_and}
use Rattle.chains.proofs.Walking.{along_meets, along_turns, walk_turns, walk_ends, walk_refused}
use Rattle.place.specs.Places.{meant}
use Rattle.comparison.specs.Walks.{stepped, stepped_by}
use Rattle.comparison.proofs.Walks.{gathered_whole, gathered_broken}
use Rattle.comparison.proofs.gather.Goals as goal

pub returns-in_err-n-clause-gathers : goal.returns-in_err-n-clause-gathers
returns-in_err-n-clause-gathers c choice t =
    let a = c.args in
    let p = err_from_is_err_and c.from_residual.result c.from_residual.ensures.1 in
    let r = rw c.in_err-n.was at c.in-Some.ensures.steps in
    rw (p.1, p.2)
    (gathered_broken choice a.archive.now (meant a.archive.now a.place) c.link_of-first.ensures.0 (walk_refused (stepped_by choice) _ _ _ _ _ _ (c.loop-one.invariant.2.walking choice t) r))

pub record_at-requires : goal.record_at-requires
record_at-requires c =
    let t = rw c.in_ok-n.was at c.in-Some.ensures.steps in
    let m = along_meets c.loop-one.invariant.2.along t in
    omega (arith, m.below, c.requires.lies.room)

pub step-walk-requires : goal.step-walk-requires
step-walk-requires c =
    let g = c.loop-one.invariant.2 in
    record { ready = c.requires.ready; room = g.room; few = omega (arith, g.few, g.below, c.requires.lies.few) }

pub loop-one-preserved : goal.loop-one-preserved
loop-one-preserved c =
    let t = rw c.in_ok-n.was at c.in-Some.ensures.steps in
    let g = c.loop-one.invariant.2 in
    let m = along_meets g.along t in
    let f = c.step-walk.ensures in (
      c.in-Some.ensures.goes.keeps,
      tt,
      record {
        along = along_turns g.along t;
        below = omega (arith, t.last_is, m.below);
        walking = λ choice means.
            walk_turns (stepped_by choice) _ _ _ _ _ _ (g.walking choice means) t
            (f.is choice means ∙ ap (λ (r : List ℕ). stepped choice c.loop-one.walk r) c.record_at.ensures);
        few = omega (arith, f.count, g.few, m.rises, t.last_is);
        room = f.room;
      },
    )

pub returns-clause-gathers : goal.returns-clause-gathers
returns-clause-gathers c choice t =
    let a = c.args in
    c.passed.ensures.gathers
    ∙ gathered_whole choice a.archive.now (meant a.archive.now a.place) c.link_of-first.ensures.0
    (walk_ends (stepped_by choice) _ _ _ _ _ _ (c.loop-one.invariant.2.walking choice t) c.in-None.ensures.steps)
