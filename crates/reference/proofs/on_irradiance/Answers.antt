use Rattle.std.proofs.Common.{sym, refl, ap, ◌∙◌, arith}
use Rattle.std.proofs.lemmas.Bool.{not_from_true}
use lib.IntN.{ℤ, pos, ◌*ℤ◌}
use mir.Syntax.{w64}
use mir.Facts.{to_z_pos}
use Rattle.rules.specs.Numbers.{or_zero}
use Rattle.rules.specs.Archive.{twos, field_at}
use Rattle.rules.specs.Terms.{is_irradiance}
use Rattle.rules.specs.Reference.{numerator}
use Rattle.rules.proofs.Ranges.{within_natural}
use Rattle.units.proofs.Laws.{back}
use Rattle.record.proofs.Powers.{in_range}
use Rattle.reference.proofs.Products.{times_is}
use Rattle.reference.proofs.on_irradiance.Goals as goal

pub returns : goal.returns
unfolding field_at numerator
returns c =
    let a = c.args in
    let h = c.requires.bounded.a_low in
    let g = c.irradiance_of-g in
    λ q e.
    let w = ap twos c.link_at-word.ensures.0 ∙ sym e in
    let allowed = in_range is_irradiance c.is_irradiance.ensures w (not_from_true _ c.if-not-is_irradiance.false) in (
      allowed,
      times_is a.a.0 (pos g.result.0) _ _ _ 96000000001 2000 (back a.a.0 (omega (arith, h))) (to_z_pos w64 (omega (arith, g.ensures.1))) refl (omega (arith, h)) g.ensures.1 (omega arith)
          ∙ ap (λ (z : ℤ). a.a.0 *ℤ z) (ap pos (g.ensures.0 ∙ ap or_zero w) ∙ sym (within_natural 0 2000 q.weather allowed).0),
    )
