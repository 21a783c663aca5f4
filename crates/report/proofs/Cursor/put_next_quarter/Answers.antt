use native.Mathlib.Omega.{arith}
use Rattle.std.proofs.Common.{rules}
use lib.IntN.{pos}
use lib.ListN.{get_or}
use mir.Syntax.{w64}
use mir.Val.{to_z, of_z}
use mir.Facts.{to_z-of_z}
use Rattle.report.proofs.Laws.{quarter_advances}
use Rattle.report.proofs.Cursor.put_next_quarter.Goals as goal

pub returns : goal.returns
returns c =
    let a = c.args in λ archive f.
    quarter_advances archive a.self a.list.now f (omega arith) _ (to_z w64 (of_z w64 (get_or a.list.now a.self.place (pos 0)))) (omega arith)
    (search rules) (omega arith) (to_z-of_z {w = w64} (search rules))
