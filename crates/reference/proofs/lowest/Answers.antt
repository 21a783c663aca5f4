use Rattle.std.proofs.Common.{[], ◌∷◌}
use Rattle.rules.specs.Terms.{reading_at}
use Rattle.record.proofs.Readings.{smallest_power}
use Rattle.reference.proofs.lowest.Goals as goal

pub bounded_at-requires-in-ReferenceByBoth-clause-a_bound : goal.bounded_at-requires-in-ReferenceByBoth-clause-a_bound
bounded_at-requires-in-ReferenceByBoth-clause-a_bound c = smallest_power (reading_at c.args.r.now 24 ∷ []) c.args.p0.0 c.requires c.in_ok-lower-in-ReferenceByBoth.ensures
