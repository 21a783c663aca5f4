use mathlib.Core.Path.{refl}
use native.Mathlib.Omega.{arith}
use Rattle.std.proofs.Common.{rules}
use Rattle.report.proofs.Laws.{writes_head}
use Rattle.report.proofs.refused_head.Goals as goal

pub returns : goal.returns
returns c = record { is = refl; line = writes_head (search rules); within = omega arith }
