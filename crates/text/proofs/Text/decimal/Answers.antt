use native.Mathlib.Omega.{arith}
use Rattle.rules.proofs.Output.{decimal_length}
use Rattle.text.proofs.Texts.{appends_most}
use Rattle.text.proofs.Text.decimal.Goals as goal

pub digits-requires : goal.digits-requires
digits-requires c = omega (arith, decimal_length c.args.n)

pub returns : goal.returns
returns c = appends_most 20 (omega (arith, decimal_length c.args.n)) c.digits.ensures
