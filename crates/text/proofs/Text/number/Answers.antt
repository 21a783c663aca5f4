use native.Mathlib.Omega.{arith}
use Rattle.text.proofs.Texts.{appends_on}
use Rattle.text.proofs.Text.number.Goals as goal

pub returns : goal.returns
returns c = appends_on c.space.ensures c.decimal.ensures (omega arith)
