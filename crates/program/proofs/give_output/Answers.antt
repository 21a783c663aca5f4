use mathlib.Core.Path.{refl, sym}
use mathlib.Core.List.{[]}
use Rattle.std.proofs.Common.{rules}
use Rattle.output.proofs.Laws.{left_next}
use Rattle.program.proofs.Handing.{begun}
use Rattle.program.proofs.give_output.Goals as goal

pub hand-requires : goal.hand-requires
hand-requires g c =
    left_next _ _ (c.begin-cursor.ensures.text []) (record { before = []; is = refl; counted = sym c.start.ensures })

pub print-requires : goal.print-requires
print-requires g c = begun c.begin-cursor.ensures (search rules) (search rules) c.start.ensures c.in_ok-begun.begun c.in_ok-begun.ensures
