use Rattle.carry.proofs.Carrying.{booked_same, booked_more}
use Rattle.carry.proofs.Carry.book_parts.Goals as goal

pub returns-then-left-d : goal.returns-then-left-d
returns-then-left-d c = let a = c.args in booked_same a.self.now a.magnitude a.parts c.requires.parts_value c.if-left-d.true

pub returns-else-left-d : goal.returns-else-left-d
returns-else-left-d c = let a = c.args in booked_more a.self.now a.magnitude a.parts c.requires.parts_value c.requires.small.0 c.if-left-d.false
