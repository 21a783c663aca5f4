use native.Mathlib.Omega.{arith}
use Rattle.correction.proofs.Splits.{split_held}
use Rattle.correction.proofs.money_of.Goals as goal

pub returns : goal.returns
returns c = split_held c.args.exact.0 _ _ (omega arith) c.div_euclid.ensures c.rem_euclid.ensures.value (omega arith) (omega arith)
