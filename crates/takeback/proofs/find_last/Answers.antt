use Rattle.std.proofs.Common.{◌≡◌, ◌+◌, ◌-◌, ◌<◌, sym, arith}
use Rattle.std.proofs.lemmas.Result.{err_from_is_err_and}
use Rattle.rules.proofs.TakeBackSteps.{only_in_used, take_back_no_head, take_back_head_alone, take_back_not_once, take_back_once}
use Rattle.archive.proofs.Laws.{opened}
use Rattle.takeback.proofs.find_last.Goals as goal

pub returns-in_err-used : goal.returns-in_err-used
returns-in_err-used c =
    let p = err_from_is_err_and c.from_residual.result c.from_residual.ensures.1 in
    rw (p.1, p.2) (take_back_no_head _ _ (sym c.in_err-used.ensures))

pub returns-then-used-eq1 : goal.returns-then-used-eq1
returns-then-used-eq1 c = take_back_head_alone _ _ (sym c.in_ok-used.ensures) (omega arith)

pub overflow_sub-number : goal.overflow_sub-number
overflow_sub-number c = (opened _ _ c.in_ok-used.ensures).some

pub only_link_to-requires : goal.only_link_to-requires
only_link_to-requires c =
    let o = opened _ _ c.in_ok-used.ensures in
    (o.some, o.within)

pub returns-in_err-place : goal.returns-in_err-place
returns-in_err-place c =
    let p = err_from_is_err_and c.from_residual-in_err-place.result c.from_residual-in_err-place.ensures.1 in
    let o = opened _ _ c.in_ok-used.ensures in
    let more : 1 < c.in_ok-used.used = omega (arith, o.some, c.if-used-eq1.false) in
    rw (p.1, p.2) (take_back_not_once _ _ o.is more _ (sym c.in_err-place.ensures))

pub returns : goal.returns
returns c =
    let o = opened _ _ c.in_ok-used.ensures in
    let e : c.in_ok-used.used - 1 + 1 ≡ c.in_ok-used.used = omega (arith, o.some) in
    let p = only_in_used c.args.archive.now c.in_ok-used.used _ _ (sym c.in_ok-place.ensures) in
    let more : 1 < c.in_ok-used.used = omega (arith, o.some, c.if-used-eq1.false) in
    rw e (
      take_back_once _ _ o.is more _ (sym c.in_ok-place.ensures),
      record { some = more; few = omega (arith, o.few); fits = o.within; link = omega (arith, p, o.within) },
    )
