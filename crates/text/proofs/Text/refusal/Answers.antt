use native.Mathlib.Omega.{arith}
use Rattle.text.proofs.Texts.{appends_on, appends_most}
use Rattle.text.proofs.Text.refusal.Goals as goal

pub returns : goal.returns
returns c =
    appends_most 108 (omega arith)
    (appends_on c.byte.ensures
    (appends_on c.number.ensures
    (appends_on c.number-2.ensures
    (appends_on c.number-3.ensures
    c.byte-2.ensures (omega arith)) (omega arith)) (omega arith)) (omega arith))
