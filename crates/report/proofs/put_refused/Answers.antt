use native.Mathlib.Omega.{arith}
use Rattle.std.proofs.Common.{rules}
use Rattle.std.proofs.lemmas.Grind.{common_steps}
use Rattle.report.proofs.Laws.{writes_none, writes_line}
use Rattle.report.proofs.put_refused.Goals as goal

pub returns-in-4 : goal.returns-in-4
returns-in-4 c = (writes_none _ _ _ (grind (arith, common_steps)), omega arith)

pub returns-in_default : goal.returns-in_default
returns-in_default c =
    let a = c.args in
    (writes_line a.number a.p a.k (λ e. omega arith) (λ e. omega arith) (search rules), omega arith)
