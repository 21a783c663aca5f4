use Rattle.std.proofs.Common.{refl}
use Rattle.basis.proofs.Answers.{four_few, four_zero, four_on}
use Rattle.basis.proofs.on_four.Goals as goal

pub returns-then-four-ne4 : goal.returns-then-four-ne4
returns-then-four-ne4 c =
    let a = c.args in
    record { on = λ powers choice m. rw m.is (four_few a.links a.four _ m.points c.if-four-ne4.true) }

pub returns-then-four-eq0 : goal.returns-then-four-eq0
returns-then-four-eq0 c =
    let a = c.args in
    record { on = λ powers choice m. rw m.is (four_zero a.links a.four _ m.points c.if-four-ne4.false c.if-four-eq0.true) }

pub returns : goal.returns
returns c =
    let a = c.args in
    record {
      on = λ powers choice m. rw m.is
          (four_on a.links a.four _ m.points c.if-four-ne4.false c.if-four-eq0.false powers c.lowered-a.result c.lowered-b.result a.pn a.curve m.tabulates
          c.lowered-a.ensures c.lowered-b.ensures c.requires.natural refl);
    }
