use Rattle.std.proofs.Common.{refl}
use Rattle.rules.specs.Terms.{quarter_of}
use Rattle.terms.specs.Meanings.{meaning}
use Rattle.quarters.proofs.BoundedQuarters.exact.Goals as goal

pub returns-clause-magnitude : goal.returns-clause-magnitude
unfolding quarter_of
returns-clause-magnitude c ref m =
    rw m (c.exact_bounded.ensures (quarter_of (meaning c.args.self.now.terms) c.args._index c.args.r.now)
    (record { measured = refl; limit = refl; nonavailability = refl; market_adjustment = refl }))
