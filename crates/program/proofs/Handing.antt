-- What is handed over while the report goes on, and once it is finished.
use mathlib.Core.Path.{◌≡◌, refl, sym, ap}
use mathlib.Core.Bool.{true}
use mathlib.Core.List.{List, []}
use Prim.Native.Nat.{ℕ, ◌+◌}
use native.Mathlib.Omega.{arith}
use lib.IntN.{ℤ}
use lib.ListN.{length, take}
use Rattle.rules.specs.Output.{text_of_all, output}
use Rattle.report.specs.declared.Cursor.{Cursor}
use Rattle.report.specs.Cursors.{rest, finished, Begins}
use Rattle.report.proofs.Laws.{finished_none}
use Rattle.output.specs.declared.Output.{Output}
use Rattle.output.proofs.Laws.{left_after, left_none}
use Rattle.program.specs.declared.Report.{Report}
use Rattle.program.specs.Due.{FillsLines, RestDue}

-- one part more
pub handed_on : {archive : List ℕ} {r r' : Report} {count : ℕ} → RestDue archive r count → FillsLines archive r r' → (next : Output)
    → next.handed ≡ count + length (take r'.cursor.end r'.out) → RestDue archive r' next.handed
handed_on {r' = r'} d f next h = record {
  fits = record { fits = f.fills.continues.fits; places = omega (arith, f.places, d.fits.places) };
  left = left_after (take r'.cursor.end r'.out) _ f.fills.continues.text d.left next.handed h;
}

-- the first part, written elsewhere
pub begun : {input line out : List ℕ} {c : Cursor} {count : ℕ} {list : List ℤ} → Begins input line c → length list ≡ 2976 → length out ≡ 65536 → count ≡ 0
    → (next : Output) → next.handed ≡ count + length (take c.end line) → RestDue input (record { cursor = c; list = list; out = out }) next.handed
begun {line = line} {c = c} {list = list} b l k z next h = record {
  fits = record { fits = b.fits list l; places = k };
  left = left_after (take c.end line) _ (b.text list) (record { before = []; is = refl; counted = sym z }) next.handed h;
}

pub all_handed : (archive : List ℕ) (r : Report) (count : ℕ) → RestDue archive r count → finished r.cursor ≡ true
    → count ≡ length (text_of_all (output archive))
unfolding text_of_all
all_handed archive r count d e =
    left_none (text_of_all (rest archive r.cursor r.list)) (ap text_of_all (finished_none archive r.cursor r.list d.fits.fits e)) d.left
