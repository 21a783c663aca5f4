use Rattle.std.proofs.Common.{arith}
use Rattle.std.proofs.lemmas.Result.{err_from_is_err_and}
use Rattle.host.proofs.Settling.{unready, list_short, result_wrong, all_written}
use Rattle.host.proofs.settle_on.Goals as goal

pub returns-in_err-measure : goal.returns-in_err-measure
returns-in_err-measure c =
    let a = c.args in
    let p = err_from_is_err_and c.from_residual.result c.from_residual.ensures.1 in
    rw (p.1, p.2) (unready a.archive.now a.p a.k a.list.now a.res.now _ c.in_err-measure.ensures)

pub returns-then-list-count : goal.returns-then-list-count
returns-then-list-count c =
    let a = c.args in
    list_short a.archive.now a.p a.k a.list.now a.res.now _ _ c.in_ok-measure.ensures (omega (arith, c.if-list-count.true))

pub returns-then-res-ne24 : goal.returns-then-res-ne24
returns-then-res-ne24 c =
    let a = c.args in
    result_wrong a.archive.now a.p a.k a.list.now a.res.now _ _ c.in_ok-measure.ensures c.if-list-count.false c.if-res-ne24.true

pub returns : goal.returns
returns c =
    let a = c.args in
    let d = c.for_count-divisor.ensures in
    all_written a.archive.now a.p a.k a.list.now a.res.now c.prepare.new.sheet c.in_ok-measure.measure c.in_ok-measure.ensures (omega (arith, c.requires, c.prepare.auto.sheet))
    c.if-list-count.false c.if-res-ne24.false
    _ _ c.book_bytes-total.result _ (rw d at c.book_bytes-total.ensures.0) (rw d at c.book_bytes-total.ensures.1) c.bits_of.ensures c.put_result.ensures
