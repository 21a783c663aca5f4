use Rattle.std.proofs.Common.{sym, ◌∙◌, arith}
use Rattle.rules.proofs.Places.{at_within}
use Rattle.record.proofs.Linked.{here, past}
use Rattle.takeback.proofs.Namings.{read_none, read_all, read_second, read_first, read_other}
use Rattle.takeback.proofs.naming_in.Goals as goal
use Rattle.takeback.proofs.naming_in.Goals.{then-link_of-named+else-is_some, else-link_of-named}

pub loop-at-init : goal.loop-at-init
loop-at-init c = read_none _ _ _ _

pub link_of-requires : goal.link_of-requires
link_of-requires c =
    let h = here _ c.links_at-at-items.ensures _ c.loop-at-test.true in
    let w = at_within c.args.archive.now c.args.n _ h.has in
    (c.requires, w.1)

pub returns-then-is_some : goal.returns-then-is_some
returns-then-is_some c =
    let h = here _ c.links_at-at-items.ensures _ c.loop-at-test.true in
    read_second c.loop-at.invariant h c.link_of.ensures.0 c.if-link_of-named.true (sym c.is_some.ensures ∙ c.if-is_some.true)

pub overflow_add-place : goal.overflow_add-place
overflow_add-place c =
    let h = here _ c.links_at-at-items.ensures _ c.loop-at-test.true in
    let w = at_within c.args.archive.now c.args.n _ h.has in
    let p = c.requires in
    omega arith

pub loop-at-preserved : goal.loop-at-preserved
loop-at-preserved c =
    let h = here _ c.links_at-at-items.ensures _ c.loop-at-test.true in
    elim c.if-link_of-named.branch [
      | then-link_of-named+else-is_some w ↦ rw w.place-is (read_first c.loop-at.invariant h c.link_of.ensures.0 w.if-link_of-named.true (sym w.is_some.ensures ∙ w.if-is_some.false))
      | else-link_of-named w ↦ rw w.place-is (read_other c.loop-at.invariant h c.link_of.ensures.0 w.if-link_of-named.false)
    ]

pub returns : goal.returns
returns c = read_all c.loop-at.invariant (past _ c.links_at-at-items.ensures _ c.loop-at-test.false)
