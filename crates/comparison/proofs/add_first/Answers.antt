use native.Mathlib.Omega.{arith}
use Rattle.comparison.proofs.Taken.{grown_none, grown_only, measured, one_full, one_out, one_used}
use Rattle.comparison.proofs.add_first.Goals as goal

pub returns-then-sums-ne0 : goal.returns-then-sums-ne0
returns-then-sums-ne0 c =
    let a = c.args in
    (one_full a.sums a.r.now (λ z. omega arith), grown_none c.requires)

pub returns-in_err-measured : goal.returns-in_err-measured
returns-in_err-measured c =
    let a = c.args in
    rw c.from_residual.ensures (one_out a.sums a.r.now c.in_err-measured.ensures (omega arith), tt)

pub returns : goal.returns
returns c =
    let a = c.args in
    let m = measured c.in_ok-measured.ensures c.raised.result c.raised.ensures.0 in
    (one_used a.sums a.r.now m (omega arith), grown_only a.sums c.raised.ensures.1)
