use Rattle.carry.proofs.Carrying.{divides}
use Rattle.carry.proofs.by_estimate.Goals as goal
use native.Mathlib.Omega.{arith}

pub returns-then-rest-d : goal.returns-then-rest-d
returns-then-rest-d c =
    let a = c.args in
    let e = divides a.n a.d c.estimate-whole.result _ c.if-rest-d.true (omega arith) in
    rw (e.0, e.1)
