use Rattle.std.proofs.Common.{refl, arith}
use Rattle.std.proofs.lemmas.Result.{err_from_is_err_and}
use Rattle.settle.proofs.Laws.{settles_refused, settles_short, settles_given}
use Rattle.settle.proofs.settle_by.Goals as goal

pub returns-in_err-measure : goal.returns-in_err-measure
returns-in_err-measure g c =
    let a = c.args in
    let p = err_from_is_err_and c.from_residual.result c.from_residual.ensures.1 in
    rw (p.1, p.2) (settles_refused a.archive.now a.p a.k a.list.now _ c.in_err-measure.ensures)

pub returns-then-list-count : goal.returns-then-list-count
returns-then-list-count g c =
    let a = c.args in
    settles_short a.archive.now a.p a.k a.list.now _ _ c.in_ok-measure.ensures c.if-list-count.true

pub returns : goal.returns
returns g c =
    let a = c.args in
    let d = c.for_count-divisor.ensures in
    settles_given a.archive.now a.p a.k a.list.now c.prepare.new.sheet c.in_ok-measure.measure c.in_ok-measure.ensures (omega (arith, c.requires.enough, c.prepare.auto.sheet))
    c.if-list-count.false _ _ c.book_all-total.result _ (rw d at c.book_all-total.ensures.0) refl (rw d at c.book_all-total.ensures.1) refl
