use native.Mathlib.Omega.{arith}
use Rattle.rules.proofs.Output.{decimal_length}
use Rattle.text.proofs.Texts.{digits_one, digits_longer}
use Rattle.text.proofs.width.Goals as goal

pub overflow_add-digits : goal.overflow_add-digits
overflow_add-digits c = omega (arith, decimal_length c.args.n)

pub loop-rest-preserved : goal.loop-rest-preserved
loop-rest-preserved c =
    let a = c.args in (omega (arith, c.loop-rest.invariant.0, digits_longer c.loop-rest.rest c.loop-rest-test.true (omega (arith, c.ranges.n))), omega arith)

pub returns : goal.returns
returns c =
    let e = digits_one c.loop-rest.rest (omega arith) in (omega (arith, c.loop-rest.invariant.0), omega (arith, c.loop-rest.invariant.0, decimal_length c.args.n))
