use mathlib.Core.Path.{sym, ap, ◌∙◌}
use native.Mathlib.Omega.{arith}
use borrow.Author.Tests.{ltb-false}
use Rattle.rules.specs.Archive.{is_text}
use Rattle.archive.proofs.Laws.{head_size, head_text, head_none, head_over, head_used}
use Rattle.archive.proofs.read_head.Goals as goal
use Rattle.archive.proofs.read_head.Goals.{then-used-lt1-via-then-used-lt1, then-used-lt1-via-else-used-lt1+then-archive-used}

pub returns-then-not-is_whole : goal.returns-then-not-is_whole
returns-then-not-is_whole c = head_size _ (sym c.is_whole.ensures ∙ c.if-not-is_whole.true)

pub returns-then-not-is_text : goal.returns-then-not-is_text
returns-then-not-is_text c =
    let a = c.args.archive.now in
    let size = sym c.is_whole.ensures ∙ c.if-not-is_whole.false in
    head_text a size (ap is_text (sym c.record_at.ensures) ∙ sym c.is_text.ensures ∙ c.if-not-is_text.true)

pub returns-then-used-lt1 : goal.returns-then-used-lt1
returns-then-used-lt1 c =
    let a = c.args.archive.now in
    let size = sym c.is_whole.ensures ∙ c.if-not-is_whole.false in
    let text = ap is_text (sym c.record_at.ensures) ∙ sym c.is_text.ensures ∙ c.if-not-is_text.false in
    elim c.then-used-lt1.branch [
      | then-used-lt1-via-then-used-lt1 w ↦ head_none a size text c.link_of-used.result c.link_of-used.ensures.0 (omega arith)
      | then-used-lt1-via-else-used-lt1+then-archive-used w ↦
          head_over a size text c.link_of-used.result c.link_of-used.ensures.0 (omega arith) (omega arith)
    ]

pub returns : goal.returns
returns c =
    let a = c.args.archive.now in
    let size = sym c.is_whole.ensures ∙ c.if-not-is_whole.false in
    let text = ap is_text (sym c.record_at.ensures) ∙ sym c.is_text.ensures ∙ c.if-not-is_text.false in
    head_used a size text c.link_of-used.result c.link_of-used.ensures.0 (omega arith) (omega (arith, ltb-false))
