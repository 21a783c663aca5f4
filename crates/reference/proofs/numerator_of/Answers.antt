use Rattle.std.proofs.Common.{refl}
use Rattle.rules.specs.Terms.{quarter_of}
use Rattle.terms.specs.Meanings.{meaning}
use Rattle.reference.proofs.Manners.{own_undated}
use Rattle.reference.proofs.numerator_of.Goals as goal

pub returns-in-OnCurve : goal.returns-in-OnCurve
unfolding quarter_of
returns-in-OnCurve c = rw c.in-OnCurve.is (λ ref m. c.on_curve.ensures ref _ m refl)

pub returns-in-OnIrradiance : goal.returns-in-OnIrradiance
unfolding quarter_of
returns-in-OnIrradiance c = rw c.in-OnIrradiance.is (λ ref m. rw m (c.on_irradiance.ensures _ refl))

pub month_of-requires : goal.month_of-requires
month_of-requires c = own_undated (meaning c.args.terms) c.in-ByFactor.is c.requires.value

pub quarter_of_day_of-requires : goal.quarter_of_day_of-requires
quarter_of_day_of-requires c = own_undated (meaning c.args.terms) c.in-ByFactor.is c.requires.value

pub returns-in-ByFactor : goal.returns-in-ByFactor
unfolding quarter_of
returns-in-ByFactor c = rw c.in-ByFactor.is (λ ref m. rw m.is (c.by_factor.ensures _ c.month_of.ensures c.quarter_of_day_of.ensures))

pub returns-in-AsPlanned : goal.returns-in-AsPlanned
unfolding quarter_of
returns-in-AsPlanned c = rw c.in-AsPlanned.is (λ ref m. rw m (c.as_planned.ensures _ refl))
