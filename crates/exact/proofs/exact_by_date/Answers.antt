use Rattle.std.proofs.Common.{[], refl, ap, ◌∙◌}
use lib.IntN.{ℤ}
use Rattle.rules.specs.Numbers.{or_zero}
use Rattle.rules.specs.Terms.{quarter_of}
use Rattle.rules.specs.Reference as book
use Rattle.rules.specs.Reference.{magnitude}
use Rattle.units.proofs.Laws.{back}
use Rattle.terms.specs.Meanings.{meaning}
use Rattle.exact.proofs.Exacts.{limited_low, referred_small, exact_is}
use Rattle.exact.proofs.exact_by_date.Goals as goal

pub magnitude-requires : goal.magnitude-requires
unfolding quarter_of
magnitude-requires c =
    let a = c.args in
    let t = c.numerator_by_date-t in
    record {
      divisor = c.requires.divided.divides.small;
      reference = rw (back t.result t.type_inv)
          (referred_small (book.by_factor (or_zero a.pn.0)) (quarter_of (meaning a.terms) a.index a.r.now) c.requires.divided.held.bounded.low t.ensures);
      limit = limited_low (meaning a.terms) _ _ c.in_ok-l.ensures;
    }

pub returns : goal.returns
unfolding quarter_of
returns c =
    let a = c.args in
    let t = c.numerator_by_date-t in
    let ref = book.by_factor (or_zero a.pn.0) in
    exact_is (meaning a.terms) ref (quarter_of (meaning a.terms) a.index a.r.now) c.in_ok-l.ensures t.ensures c.requires.value
    (c.requires.divided.divides.is [] ref (record { is = refl; natural = c.requires.divided.held.bounded.is }))
    (c.magnitude.ensures ∙ ap (λ (z : ℤ). magnitude a.terms.direction a.d z c.in_ok-l.l.0) (back t.result t.type_inv))
