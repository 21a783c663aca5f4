use Rattle.basis.proofs.Answers.{all_few, all_zero, all_on}
use Rattle.basis.proofs.on_all.Goals as goal

pub returns-then-all-eq0 : goal.returns-then-all-eq0
returns-then-all-eq0 c = let a = c.args in record { on = λ powers choice m. rw m (all_few a.links a.all c.if-all-eq0.true) }

pub returns-then-all-eq0-2 : goal.returns-then-all-eq0-2
returns-then-all-eq0-2 c =
    let a = c.args in
    record { on = λ powers choice m. rw m (all_zero a.links a.all c.if-all-eq0.false c.if-all-eq0-2.true) }

pub returns : goal.returns
returns c =
    let a = c.args in
    record { on = λ powers choice m. rw m (all_on a.links a.all c.if-all-eq0.false c.if-all-eq0-2.false powers c.lowered-a.result c.lowered-a.ensures) }
