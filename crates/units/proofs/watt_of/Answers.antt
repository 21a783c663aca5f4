use mathlib.Core.Path.{ap, ◌∙◌}
use lib.IntN.{ℤ}
use mir.Syntax.{w32, w64}
use mir.Val.{to_z, of_z}
use mir.Facts.{to_z-of_z}
use native.Mathlib.Omega.{arith}
use Rattle.units.proofs.Laws.{back}
use Rattle.units.proofs.Words.{word_signed}
use Rattle.units.proofs.watt_of.Goals as goal

pub returns : goal.returns
returns c =
    let s = c.cast_signed in
    ap (λ (z : ℤ). to_z w64 (of_z w64 z)) (to_z-of_z {w = w32} {z = s.result} (record { sfits = s.type_inv }))
    ∙ back s.result (omega arith)
    ∙ s.ensures
    ∙ word_signed c.args.word (omega arith)
