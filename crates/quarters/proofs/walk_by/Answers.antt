use Rattle.std.proofs.Common.{Bool, List, ℕ, ◌&&◌, ◌∙◌, ap, arith}
use Rattle.std.proofs.lemmas.Result.{err_from_is_err_and}
use Rattle.rules.specs.Terms.{quarter_of}
use Rattle.chains.proofs.Walking.{along_meets}
use Rattle.exact.specs.Exacts.{quarter_answer}
use Rattle.terms.specs.Meanings.{meaning}
use Rattle.quarters.proofs.Walks.{going_on, walks_refused, walks_ended}
use Rattle.quarters.proofs.walk_by.Goals as goal

pub returns-in_err-n : goal.returns-in_err-n
returns-in_err-n g c basis m =
    let a = c.args in
    let p = err_from_is_err_and c.from_residual.result c.from_residual.ensures.1 in
    let r = rw c.in_err-n.was at c.in-Some.ensures.steps in
    rw (p.1, p.2) (walks_refused a.archive.now a.place c.link_of-first.ensures.0 _ c.loop-step.invariant.2 basis m r)

pub record_at-r-requires : goal.record_at-r-requires
record_at-r-requires g c =
    let t = rw c.in_ok-n.was at c.in-Some.ensures.steps in
    let m = along_meets c.loop-step.invariant.2.along t in
    omega (arith, m.below, c.requires.lies.room)

pub loop-step-preserved : goal.loop-step-preserved
loop-step-preserved g c =
    let t = rw c.in_ok-n.was at c.in-Some.ensures.steps in
    let i = c.loop-step.invariant in
    let terms = meaning c.args.place.terms in
    let e = c.exact-magnitude.ensures in (
      c.in-Some.ensures.goes.keeps,
      tt,
      going_on terms _ _ i.2 c.exact-magnitude.result t
          (λ ref m. rw (i.3) at (e.magnitude ref (i.5 ref m)) ∙ ap (λ (r : List ℕ). quarter_answer terms ref (quarter_of terms c.loop-step.count r)) c.record_at-r.ensures)
          (ap (λ (z : Bool). z && c.loop-step.fine) c.enter-fine.ensures.0) c.enter-fine.ensures.1 c.enter-fine.auto.sheet,
      e.same_terms ∙ i.3,
      e.goes_on,
      λ ref m. e.same_means ref (i.5 ref m),
    )

pub returns : goal.returns
returns g c basis m =
    let a = c.args in
    walks_ended a.archive.now a.place c.link_of-first.ensures.0 _ c.loop-step.invariant.2 basis m c.in-None.ensures.steps c.answer_at_end.result
    c.answer_at_end.ensures (c.requires.bounded basis.reference m)
