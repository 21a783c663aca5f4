use Rattle.std.proofs.Common.{ℕ, List, sym, ◌∙◌, ap, arith}
use borrow.Author.Tests.{eq-eqb, ne_eqb}
use Rattle.rules.specs.Archive.{kind_of}
use Rattle.rules.proofs.Chains.{follow_low, follow_high, follow_other, follow_met}
use Rattle.chains.proofs.Laws.{linked_refused, linked_given}
use Rattle.chains.proofs.follow.Goals as goal
use Rattle.chains.proofs.follow.Goals.{then-link-holder-via-then-link-holder, then-link-holder-via-else-link-holder+then-used-link}

pub returns-then-link-holder : goal.returns-then-link-holder
returns-then-link-holder c =
    let a = c.args in
    linked_refused a.archive.now a.used a.kind a.holder a.link _ c.if-link-eq0.false (elim c.then-link-holder.branch [
      | then-link-holder-via-then-link-holder w ↦ follow_low a.archive.now a.used a.kind a.holder a.link (omega arith)
      | then-link-holder-via-else-link-holder+then-used-link w ↦ follow_high a.archive.now a.used a.kind a.holder a.link (omega arith) (omega arith)
    ])

pub returns-then-kind_of-kind : goal.returns-then-kind_of-kind
returns-then-kind_of-kind c =
    let a = c.args in
    let kind = c.kind_of.ensures ∙ ap (λ (r : List ℕ). kind_of r) c.record_at.ensures in
    linked_refused a.archive.now a.used a.kind a.holder a.link _ c.if-link-eq0.false
    (follow_other a.archive.now a.used a.kind a.holder a.link c.if-link-holder.false c.if-used-link.false (ne_eqb _ _ (λ e. c.if-kind_of-kind.true (kind ∙ e))))

pub returns : goal.returns
returns c =
    let a = c.args in
    let kind = c.kind_of.ensures ∙ ap (λ (r : List ℕ). kind_of r) c.record_at.ensures in
    linked_given a.archive.now a.used a.kind a.holder a.link _ c.if-link-eq0.false
    (follow_met a.archive.now a.used a.kind a.holder a.link c.if-link-holder.false c.if-used-link.false (eq-eqb _ _ (sym kind ∙ c.if-kind_of-kind.false)))
