use mathlib.Core.Path.{◌∙◌}
use native.Mathlib.Omega.{arith}
use Rattle.rules.specs.Terms.{quarter_of}
use Rattle.terms.specs.Meanings.{meaning}
use Rattle.reference.proofs.Manners.{clock_month, clock_quarter, clock_month_near, clock_near}
use Rattle.units.proofs.Laws.{back}
use Rattle.reference.proofs.numerator_by_date.Goals as goal

pub overflow_sub-clock : goal.overflow_sub-clock
overflow_sub-clock c = omega (arith, clock_near c.requires.shows)

pub overflow_sub-clock-2 : goal.overflow_sub-clock-2
overflow_sub-clock-2 c = omega (arith, clock_near c.requires.shows)

pub times_factor-requires-clause-le_month : goal.times_factor-requires-clause-le_month
times_factor-requires-clause-le_month c =
    let month = clock_month_near c.requires.shows in
    (month.0, month.1, omega (arith, clock_near c.requires.shows))

pub returns : goal.returns
unfolding quarter_of
returns c =
    let a = c.args in
    let terms = meaning a.terms in
    let shows = c.requires.shows in
    let h = c.times_factor.ensures (quarter_of terms a.index a.r.now) (clock_month terms a.index a.r.now shows) (clock_quarter terms a.index a.r.now shows) in
    (h.0, back c.times_factor.result c.times_factor.type_inv ∙ h.1)
