use native.Mathlib.Omega.{arith}
use Rattle.output.proofs.Laws.{part_fits}
use Rattle.output.proofs.hand.Goals as goal

pub overflow_add-handed : goal.overflow_add-handed
overflow_add-handed g c = omega (arith, part_fits c.args.input.now c.args.output.handed c.args.part.now c.requires)
