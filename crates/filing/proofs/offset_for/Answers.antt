use Rattle.std.proofs.Common.{sym}
use Rattle.rules.proofs.Owners.{offset_unused}
use Rattle.record.proofs.Linked.{here}
use Rattle.filing.proofs.Links.{offset_all, offset_is, offset_other}
use Rattle.filing.proofs.offset_for.Goals as goal

pub returns-then-used-owner : goal.returns-then-used-owner
returns-then-used-owner c = let a = c.args in sym (offset_unused a.archive.now a.used a.owner a.kind c.if-used-owner.true)

pub loop-at-init : goal.loop-at-init
loop-at-init c = let a = c.args in offset_all a.archive.now a.used a.owner a.kind c.if-used-owner.false

pub returns-then-to-kind : goal.returns-then-to-kind
returns-then-to-kind c = sym (offset_is c.loop-at.invariant (here _ c.owned_at-at-items.ensures _ c.loop-at-test.true) c.if-to-kind.true)

pub loop-at-preserved : goal.loop-at-preserved
loop-at-preserved c = offset_other c.loop-at.invariant (here _ c.owned_at-at-items.ensures _ c.loop-at-test.true) c.if-to-kind.false
