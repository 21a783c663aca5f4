use mathlib.Core.Path.{◌≡◌, sym, ◌∙◌, ap}
use mathlib.Core.List.{List, ◌∷◌}
use Prim.Native.Nat.{ℕ, ◌≤◌}
use native.Mathlib.Omega.{arith}
use mir.Syntax.{w64}
use mir.Facts.{to_z-of_z}
use lib.ListN.{length}
use Rattle.rules.specs.Output.{decimal, signed_decimal}
use Rattle.text.proofs.Texts.{appends_on, appends_most, digits_few, signed_below, signed_above}
use Rattle.text.proofs.Text.amount.Goals as goal
use Rattle.text.proofs.Text.amount.Goals.{After-unsigned_abs, then-z-lt0, else-z-lt0}

-- the magnitude's digits leave room for the space and the sign
few : (c : After-unsigned_abs) → length (decimal c.unsigned_abs.result) ≤ 19
few c = digits_few c.unsigned_abs.result (omega (arith, c.unsigned_abs.ensures.bound))

pub digits-requires : goal.digits-requires
digits-requires c = elim c.if-z-lt0.branch [
  | then-z-lt0 w ↦ rw w.self-is (omega (arith, few c, w.byte.ensures.within, w.byte.ensures.room, c.space.ensures.within, c.space.ensures.room))
  | else-z-lt0 w ↦ rw w.self-is (omega (arith, few c, c.space.ensures.within, c.space.ensures.room))
]

pub returns : goal.returns
returns c =
    let d = goal.at.returns c in
    let short = few d.After-unsigned_abs in
    let is = ap signed_decimal (sym (to_z-of_z {w = w64} c.ranges.z)) in
    elim c.if-z-lt0.branch [
      | then-z-lt0 w ↦
          let e : signed_decimal c.args.z ≡ 45 ∷ decimal c.unsigned_abs.result =
          is ∙ signed_below _ w.if-z-lt0.true ∙ ap (λ (n : ℕ). 45 ∷ decimal n) (sym c.unsigned_abs.ensures.value) in
          let digits = rw w.self-is at c.digits.ensures in
          rw e (appends_most 21 (omega (arith, short)) (appends_on c.space.ensures (appends_on w.byte.ensures digits (omega (arith, c.space.ensures.room))) (omega arith)))
      | else-z-lt0 w ↦
          let e : signed_decimal c.args.z ≡ decimal c.unsigned_abs.result =
          is ∙ signed_above _ w.if-z-lt0.false ∙ ap decimal (sym c.unsigned_abs.ensures.value) in
          let digits = rw w.self-is at c.digits.ensures in
          rw e (appends_most 21 (omega (arith, short)) (appends_on c.space.ensures digits (omega arith)))
    ]
