use mathlib.Core.Path.{refl, ap}
use Prim.Native.Nat.{◌+◌}
use native.Mathlib.Omega.{arith}
use lib.ListN.{length}
use Rattle.rules.specs.Output.{decimal}
use Rattle.text.proofs.Texts.{as_std, digits_put}
use Rattle.text.proofs.Text.digits.Goals as goal

pub write_digits-requires : goal.write_digits-requires
write_digits-requires c =
    let long = ap length (as_std c.args.n (omega arith)) in
    (omega (arith, long, c.width.ensures.0), omega (arith, c.width.ensures.0))

pub returns : goal.returns
returns c =
    let t = c.args.self.now in
    let n = c.args.n in
    let e = as_std n (omega arith) in
    let put = c.write_digits.ensures in
    record {
      same = refl;
      writes = digits_put t.out.now c.write_digits.new.buf (decimal n) t.end c.write_digits.result (t.end + c.width.result)
          (rw e put.start) (omega (arith, c.width.ensures.0)) (rw e put.written) put.before;
      within = omega (arith, c.width.ensures.0);
      room = c.write_digits.auto.buf;
    }
