use Rattle.std.proofs.Common.{ap, ◌∙◌, arith}
use lib.IntN.{ℤ}
use Rattle.rules.specs.Terms.{quarter_of}
use Rattle.rules.specs.Reference.{magnitude}
use Rattle.units.proofs.Laws.{back}
use Rattle.terms.specs.Meanings.{meaning}
use Rattle.reference.proofs.References.{means_bounded}
use Rattle.exact.proofs.Exacts.{limited_low, referred_small, exact_is}
use Rattle.exact.proofs.exact_of.Goals as goal

pub magnitude-requires : goal.magnitude-requires
unfolding quarter_of
magnitude-requires c =
    let a = c.args in
    let h = c.requires.divided.held in
    let small = referred_small h.ref (quarter_of (meaning a.terms) a.index a.r.now) (means_bounded a.reference a.powers.now h.ref h.means h.bounded) (c.in_ok-t.ensures h.ref h.means) in
    record {
      divisor = c.requires.divided.divides.small;
      reference = rw (back c.in_ok-t.t (omega (arith, small))) small;
      limit = limited_low (meaning a.terms) _ _ c.in_ok-l.ensures;
    }

pub returns : goal.returns
unfolding quarter_of
returns c =
    let a = c.args in
    let terms = meaning a.terms in
    let q = quarter_of terms a.index a.r.now in
    λ ref m.
    let referred = c.in_ok-t.ensures ref m in
    let small = referred_small ref q (means_bounded a.reference a.powers.now ref m c.requires.divided.held.bounded) referred in
    exact_is terms ref q c.in_ok-l.ensures referred c.requires.value_2 (c.requires.divided.divides.is a.powers.now ref m)
    (c.magnitude.ensures ∙ ap (λ (z : ℤ). magnitude a.terms.direction a.d z c.in_ok-l.l.0) (back c.in_ok-t.t (omega (arith, small))))
