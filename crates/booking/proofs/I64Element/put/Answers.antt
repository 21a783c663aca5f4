use mathlib.Core.Path.{◌≡◌, ◌∙◌}
use mathlib.Core.List.{[], ◌∷◌, append_assoc}
use Prim.Native.Nat.{◌+◌, ◌*◌}
use lib.ListN.{take, drop}
use native.Mathlib.Omega.{arith}
use Rattle.std.proofs.Common.{rules}
use Rattle.std.proofs.lemmas.List.Edits.{sets-eq}
use mir.Syntax.{w64}
use mir.Val.{to_z, of_z}
use Rattle.rules.specs.Booking.{signed}
use Rattle.booking.proofs.I64Element.put.Goals as goal

pub returns : goal.returns
returns c =
    let a = c.args in
    let at : 1 * a.i ≡ a.i = omega arith in
    let z : to_z w64 (of_z w64 c.booked.result.0) ≡ signed a.direction a.amount = search rules in
    rw (at, z) (sets-eq (signed a.direction a.amount ∷ []) a.list.now a.i (omega arith) ∙ append_assoc (take a.i a.list.now) (signed a.direction a.amount ∷ []) (drop (a.i + 1) a.list.now))
