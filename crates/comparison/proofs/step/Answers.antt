use Rattle.std.proofs.Common.{refl, arith}
use Rattle.comparison.proofs.Steps.{room_added, room_kept, step_skipped, step_bad, step_unmarked, step_over, step_added}
use Rattle.comparison.proofs.step.Goals as goal

pub returns-in_default : goal.returns-in_default
returns-in_default c =
    let a = c.args in
    record { is = λ choice t. step_skipped choice a.walk a.r.now c.in_default.is; room = room_kept a.walk.count a.walk.sums c.requires.room; count = refl }

pub returns-then-mark-gt1 : goal.returns-then-mark-gt1
returns-then-mark-gt1 c =
    let a = c.args in
    record { is = λ choice t. step_bad choice a.walk a.r.now c.in-Some.is (omega arith); room = tt; count = refl }

pub returns-then-mark-ne1 : goal.returns-then-mark-ne1
returns-then-mark-ne1 c =
    let a = c.args in
    record {
      is = λ choice t. step_unmarked choice a.walk a.r.now c.in-Some.is (omega arith) (λ one. omega arith);
      room = room_kept a.walk.count a.walk.sums c.requires.room;
      count = refl;
    }

pub returns-then-walk-ge96 : goal.returns-then-walk-ge96
returns-then-walk-ge96 c =
    let a = c.args in
    record {
      is = λ choice t. step_over choice a.walk a.r.now c.in-Some.is (omega arith) (omega arith);
      room = room_kept a.walk.count a.walk.sums c.requires.room;
      count = refl;
    }

pub returns : goal.returns
returns c =
    let a = c.args in
    let room = rw c.in-Some.is at c.requires.room in
    record {
      is = λ choice t. step_added choice a.walk a.r.now c.in-Some.is (omega arith) (omega arith) c.add_marked.result (c.add_marked.ensures.0 choice t);
      room = room_added a.walk.count _ c.add_marked.result room c.add_marked.ensures.1;
      count = refl;
    }
