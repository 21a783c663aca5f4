use Rattle.std.proofs.Common.{sym}
use borrow.Author.Tests.{eqb-true, eqb-false}
use Rattle.host.proofs.Shown.{shown_none, shown_some}
use Rattle.host.proofs.sandegmur_show.Goals as goal

pub returns-then-is_empty : goal.returns-then-is_empty
returns-then-is_empty c =
    shown_none c.args.archive.now c.args.number _ c.show-part.ensures.content (eqb-true _ _ (sym c.if-is_empty.ensures))

pub overflow_mul-result : goal.overflow_mul-result
overflow_mul-result c =
    record { fits = (shown_some c.args.archive.now c.args.number _ c.show-part.ensures.content (eqb-false _ _ (sym c.if-is_empty.ensures))).0 }

pub returns : goal.returns
returns c =
    (shown_some c.args.archive.now c.args.number _ c.show-part.ensures.content (eqb-false _ _ (sym c.if-is_empty.ensures))).1
