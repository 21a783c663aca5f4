use Rattle.basis.proofs.Answers.{first_few, first_on}
use Rattle.basis.proofs.on_first.Goals as goal

pub returns-then-first-eq0 : goal.returns-then-first-eq0
returns-then-first-eq0 c = let a = c.args in record { on = λ powers choice m. rw m (first_few a.links a.first c.if-first-eq0.true) }

pub returns : goal.returns
returns c =
    let a = c.args in
    record { on = λ powers choice m. rw m (first_on a.links a.first c.if-first-eq0.false powers c.lowered-p0.result c.lowered-p0.ensures) }
