use native.Mathlib.Omega.{arith}
use mir.Facts.{to_z-of_z}
use mir.Syntax.{w64}
use Rattle.text.proofs.Texts.{appends_on, appends_most}
use Rattle.text.proofs.Text.measure.Goals as goal

pub returns : goal.returns
returns c =
    let amount = rw (to_z-of_z {w = w64} c.ranges.total) at c.amount.ensures in
    appends_most 108 (omega arith)
    (appends_on c.byte.ensures
    (appends_on c.number.ensures
    (appends_on c.number-2.ensures
    (appends_on c.number-3.ensures
    (appends_on amount
    (appends_on c.number-4.ensures
    c.byte-2.ensures (omega arith)) (omega arith)) (omega arith)) (omega arith)) (omega arith)) (omega arith))
