use mathlib.Core.Path.{sym, ◌∙◌}
use native.Mathlib.Omega.{arith}
use lib.ListN.{length-set}
use Rattle.curve.specs.Lines.{point}
use Rattle.curve.proofs.Line.{line_power, line_next, power_room, power_low}
use Rattle.curve.proofs.Fills.{filled_turn, filled_done}
use Rattle.curve.proofs.fill.Goals as goal

pub overflow_sub-powers : goal.overflow_sub-powers
overflow_sub-powers c =
    power_room c.requires.1 c.loop-speed.speed c.loop-speed.auto.speed c.loop-speed-test.true c.loop-speed.invariant.line

pub overflow_cast-powers : goal.overflow_cast-powers
overflow_cast-powers c =
    let low = power_low c.requires.1 c.loop-speed.speed c.loop-speed.auto.speed c.loop-speed-test.true c.loop-speed.invariant.line in
    omega arith

pub loop-speed-preserved : goal.loop-speed-preserved
loop-speed-preserved c =
    let h = c.loop-speed-test.true in
    record {
      same =
          c.loop-speed.invariant.same
          ∙ filled_turn (point c.args.s0 c.args.p0) (point c.args.s1 c.args.p1) c.args.s1 c.loop-speed.speed _ c.loop-speed.powers h (line_power c.requires.1 c.loop-speed.speed c.loop-speed.auto.speed h c.loop-speed.invariant.line);
      line = line_next c.requires.1 c.loop-speed.speed c.loop-speed.auto.speed h c.loop-speed.invariant.line;
      size = simp length-set c.loop-speed.invariant.size;
    }

pub returns : goal.returns
returns c =
    sym (c.loop-speed.invariant.same ∙ filled_done (point c.args.s0 c.args.p0) (point c.args.s1 c.args.p1) c.args.s1 c.loop-speed.speed c.loop-speed.powers c.loop-speed-test.false)
