use mathlib.Core.Path.{sym, ◌∙◌}
use Prim.Native.Nat.{◌≤◌}
use native.Mathlib.Omega.{arith}
use Rattle.curve.proofs.Readings.{reading_on}
use Rattle.curve.proofs.read_curve.Goals as goal

pub returns : goal.returns
returns c =
    let a = c.args in
    let from : a.curve.first ≤ a.speed.0 = grind (arith, sym c.lt.ensures ∙ c.if-lt.false) in
    let until : a.speed.0 ≤ a.curve.last = grind (arith, sym c.lt-2.ensures ∙ c.if-lt-2.false) in
    reading_on a.curve a.powers.now a.speed.0 from until c.requires.low c.watt_of.result c.watt_of.ensures
