use native.Mathlib.Omega.{arith}
use Rattle.correction.proofs.Passes.{many_refused, sum_begins, sum_ends, sum_stops, sum_fits, sum_goes}
use Rattle.correction.proofs.correction_over.Goals as goal

pub returns-then-amounts-gt2976 : goal.returns-then-amounts-gt2976
returns-then-amounts-gt2976 c =
    let a = c.args in many_refused a.amounts.now a.balanced.now a.prices.now c.requires.0 c.requires.1 (omega arith)

pub loop-i-init : goal.loop-i-init
loop-i-init c =
    let a = c.args in sum_begins a.amounts.now a.balanced.now a.prices.now c.requires.0 c.requires.1 (omega arith)

pub returns-then-not-is_allowed : goal.returns-then-not-is_allowed
returns-then-not-is_allowed c =
    let a = c.args in
    sum_stops a.amounts.now a.balanced.now a.prices.now c.requires.0 c.requires.1 c.loop-i.exact.0 c.loop-i.i c.loop-i.invariant (omega arith) (omega arith) (omega arith) (omega arith) _ c.is_allowed.ensures c.if-not-is_allowed.true _ c.refusal_from.ensures

pub plus-exact-requires : goal.plus-exact-requires
plus-exact-requires c =
    let a = c.args in
    sum_fits a.amounts.now a.balanced.now a.prices.now c.requires.0 c.requires.1 c.loop-i.exact.0 c.loop-i.i c.loop-i.invariant (omega arith) (omega arith) (omega arith) (omega arith) _ c.is_allowed.ensures (c.if-not-is_allowed.false) (omega arith) _ c.cost_of.ensures

pub loop-i-preserved : goal.loop-i-preserved
loop-i-preserved c =
    let a = c.args in
    sum_goes a.amounts.now a.balanced.now a.prices.now c.requires.0 c.requires.1 c.loop-i.exact.0 c.loop-i.i c.loop-i.invariant (omega arith) (omega arith) (omega arith) (omega arith) _ c.is_allowed.ensures (c.if-not-is_allowed.false) (omega arith) _ c.cost_of.ensures _ c.plus-exact.ensures

pub returns : goal.returns
returns c =
    let a = c.args in
    sum_ends a.amounts.now a.balanced.now a.prices.now c.requires.0 c.requires.1 c.loop-i.exact.0 c.loop-i.i c.loop-i.invariant (omega arith) _ c.money_of.ensures
