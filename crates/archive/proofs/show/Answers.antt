use mathlib.Core.Path.{refl, sym}
use native.Mathlib.Omega.{arith}
use Rattle.archive.proofs.Laws.{opened, shows_part, shows_past, shows_refused}
use Rattle.archive.proofs.show.Goals as goal

pub returns-in_default : goal.returns-in_default
returns-in_default c =
    let a = c.args in
    shows_refused a.archive a.number _ refl refl refl _ (sym c.in_default.ensures)

pub returns-then-used-number : goal.returns-then-used-number
returns-then-used-number c =
    let a = c.args in
    let o = opened a.archive.now _ c.in-Ok.ensures in
    shows_past a.archive a.number _ refl refl refl _ o.is (omega arith)

pub overflow_mul-result : goal.overflow_mul-result
overflow_mul-result c =
    let a = c.args in
    let o = opened a.archive.now _ c.in-Ok.ensures in
    omega arith

pub overflow_mul-result-2 : goal.overflow_mul-result-2
overflow_mul-result-2 c =
    let a = c.args in
    let o = opened a.archive.now _ c.in-Ok.ensures in
    omega arith

pub overflow_add-result : goal.overflow_add-result
overflow_add-result c =
    let a = c.args in
    let o = opened a.archive.now _ c.in-Ok.ensures in
    omega arith

pub slice_bounds-result-end-2 : goal.slice_bounds-result-end-2
slice_bounds-result-end-2 c =
    let a = c.args in
    let o = opened a.archive.now _ c.in-Ok.ensures in
    omega arith

pub returns : goal.returns
returns c =
    let a = c.args in
    let o = opened a.archive.now _ c.in-Ok.ensures in
    shows_part a.archive a.number _ refl _ o.is (omega arith) refl refl
