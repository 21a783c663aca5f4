use mathlib.Core.Path.{◌≡◌, sym, ap, ap₂, ◌∙◌}
use native.Mathlib.Omega.{arith}
use Rattle.std.specs.Int.{int_min}
use Rattle.std.proofs.lemmas.Bool.{not_from_true}
use Rattle.std.proofs.lemmas.Int.{ints, clamps}
use Prim.Native.Nat.{ℕ}
use lib.IntN.{ℤ, pos, ◌*ℤ◌}
use Rattle.rules.specs.Numbers.{or_zero, smaller}
use Rattle.rules.specs.Archive.{twos, field_at}
use Rattle.rules.specs.Terms.{is_speed}
use Rattle.rules.specs.Reference.{curve_power, numerator}
use Rattle.rules.proofs.Ints.{smaller_case}
use Rattle.units.proofs.Laws.{back}
use Rattle.record.proofs.Powers.{in_range}
use Rattle.reference.proofs.Products.{times_is}
use Rattle.reference.proofs.References.{up_to_small}
use Rattle.reference.proofs.on_curve.Goals as goal

-- the library's smaller number is the book's
min_is : (x y : ℤ) → int_min x y ≡ smaller x y
min_is x y = smaller_case (λ (z : ℤ). int_min x y ≡ z) x y (λ h. omega (arith, ints, clamps, h)) (λ h. omega (arith, ints, clamps, h))

pub returns : goal.returns
unfolding field_at numerator
returns c =
    let a = c.args in
    let k = c.requires.held.bounded in
    let p = c.power_at-power in
    let h = up_to_small k.a_low in
    let n = up_to_small k.pn_low in
    λ ref q m e.
    let w = ap twos c.link_at-word.ensures.0 ∙ sym e in
    rw m.is (
      in_range is_speed c.is_speed.ensures w (not_from_true _ c.if-not-is_speed.false),
      back c.min.result c.min.type_inv ∙ c.min.ensures.value ∙ min_is _ _
          ∙ ap₂ smaller
          (times_is a.a.0 p.result.0 _ _ _ 4000000001 1000000000 (back a.a.0 (omega (arith, h))) (back p.result.0 (omega arith)) p.ensures.natural (omega (arith, h)) p.ensures.low (omega arith)
          ∙ ap (λ (z : ℤ). a.a.0 *ℤ z) (p.ensures.is m.points m.tabulates ∙ ap (λ (x : ℕ). pos (curve_power m.points x)) (c.speed_of.ensures.0 ∙ ap or_zero w)))
          (times_is a.pn.0 a.b.0 _ _ _ 1000000001 4000000000 (back a.pn.0 (omega (arith, n))) (back a.b.0 (omega (arith, up_to_small k.b_low))) k.b_low.is (omega (arith, n)) k.b_low.low (omega arith)
          ∙ ap₂ ◌*ℤ◌ k.pn_low.is k.b_low.is),
    )
