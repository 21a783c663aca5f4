use Rattle.std.proofs.Common.{refl, ap, ◌∙◌, arith}
use lib.IntN.{ℤ}
use Rattle.rules.specs.Terms.{quarter_of}
use Rattle.rules.specs.October.{reference_bounds, limitation_bounds}
use Rattle.rules.specs.Reference.{magnitude}
use Rattle.units.proofs.Laws.{back}
use Rattle.record.proofs.Readings.{smallest_power}
use Rattle.terms.specs.Meanings.{meaning}
use Rattle.exact.proofs.Exacts.{limited_low, bounded_is}
use Rattle.exact.proofs.exact_bounded.Goals as goal

pub bounded-requires : goal.bounded-requires
bounded-requires c = limited_low (meaning c.args.terms) _ _ c.in_ok-l.ensures

pub magnitude-requires : goal.magnitude-requires
unfolding quarter_of
magnitude-requires c =
    let a = c.args in
    let q = quarter_of (meaning a.terms) 0 a.r.now in
    let t = smallest_power (reference_bounds a.bounding q) a.p0.0 c.requires.p0_bound (c.in_ok-t.ensures q refl refl) in
    record {
      divisor = omega arith;
      reference = rw (back c.in_ok-t.t.0 (omega (arith, t))) (omega (arith, t));
      limit = smallest_power (limitation_bounds a.bounding q) c.in_ok-l.l.0 (limited_low (meaning a.terms) _ _ c.in_ok-l.ensures) (c.in_ok-limit.ensures q refl);
    }

pub returns : goal.returns
returns c =
    let a = c.args in
    λ q h.
    let lowest = c.in_ok-t.ensures q h.nonavailability h.market_adjustment in
    let t = smallest_power (reference_bounds a.bounding q) a.p0.0 c.requires.p0_bound lowest in
    bounded_is (meaning a.terms) a.p0.0 q c.requires.bounding_value (rw (h.measured, h.limit) c.in_ok-l.ensures) lowest (c.in_ok-limit.ensures q h.nonavailability)
    (c.magnitude.ensures ∙ ap (λ (z : ℤ). magnitude a.terms.direction 1 z c.in_ok-limit.limit.0) (back c.in_ok-t.t.0 (omega (arith, t))))
