use Rattle.std.proofs.Common.{◌≤◌, arith, refl, ap, ◌∙◌}
use borrow.Author.Tests.{le-leb}
use lib.IntN.{ℤ, pos, ◌*ℤ◌}
use mir.Syntax.{w64}
use mir.Facts.{to_z_pos}
use Rattle.rules.specs.Reference.{numerator}
use Rattle.rules.proofs.Bounds.{factor_small}
use Rattle.units.proofs.Laws.{back}
use Rattle.reference.proofs.Products.{times_is}
use Rattle.reference.proofs.References.{up_to_small}
use Rattle.reference.proofs.times_factor.Goals as goal

pub returns : goal.returns
unfolding numerator
returns c =
    let a = c.args in
    let near = c.requires.le_month in
    let f : c.plant_factor.result ≤ 10000 = omega (arith, c.plant_factor.ensures, factor_small a.month a.quarter) in
    let h = up_to_small c.requires.bounded in
    λ q m n.
    rw (← m, ← n, ← c.plant_factor.ensures, le-leb 1 a.month near.0, le-leb a.month 12 near.1, le-leb a.quarter 95 near.2) (
      refl,
      times_is a.pn.0 (pos c.plant_factor.result) _ _ _ 1000000001 10000 (back a.pn.0 (omega (arith, h))) (to_z_pos w64 (omega (arith, f))) refl (omega (arith, h)) f (omega arith)
          ∙ ap (λ (z : ℤ). z *ℤ pos c.plant_factor.result) c.requires.bounded.is,
    )
