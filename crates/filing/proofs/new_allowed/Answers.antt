use Rattle.std.proofs.Common.{sym, ◌∙◌, ap, arith}
use Rattle.rules.specs.Filing.{new_allowed}
use Rattle.rules.proofs.Places.{links_within}
use Rattle.record.proofs.Linked.{here, past}
use Rattle.filing.proofs.Links.{new_none, new_linked, new_on}
use Rattle.filing.proofs.new_allowed.Goals as goal

pub link_at-requires : goal.link_at-requires
link_at-requires c =
    let h = here _ c.links_of-at-items.ensures _ c.loop-at-test.true in
    let w = links_within c.in-Ok.record.now _ h.has in
    omega arith

pub returns-then-link_at-ne0 : goal.returns-then-link_at-ne0
returns-then-link_at-ne0 c =
    ap new_allowed (sym c.in-Ok.ensures.1.same)
    ∙ new_linked c.loop-at.invariant (here _ c.links_of-at-items.ensures _ c.loop-at-test.true) (λ e. c.if-link_at-ne0.true (c.link_at.ensures.0 ∙ e))

pub loop-at-preserved : goal.loop-at-preserved
loop-at-preserved c =
    new_on c.loop-at.invariant (here _ c.links_of-at-items.ensures _ c.loop-at-test.true) (sym c.link_at.ensures.0 ∙ c.if-link_at-ne0.false)

pub returns : goal.returns
returns c = (
  ap new_allowed (sym c.in-Ok.ensures.1.same) ∙ new_none c.loop-at.invariant (past _ c.links_of-at-items.ensures _ c.loop-at-test.false),
  c.in-Ok.ensures.1.same,
)
