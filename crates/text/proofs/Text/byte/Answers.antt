use mathlib.Core.Path.{refl}
use native.Mathlib.Omega.{arith}
use lib.ListN.{length-set}
use Rattle.text.proofs.Texts.{writes_byte}
use Rattle.text.proofs.Text.byte.Goals as goal

pub returns : goal.returns
returns c = record {
  same = refl;
  writes = writes_byte c.args.self.now.out.now c.args.self.now.end c.args.byte (omega arith);
  within = omega arith;
  room = simp length-set;
}
