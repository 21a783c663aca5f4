-- What is to be written next, with room for its line.
use Rattle.std.specs.Prelude.{ℕ, ◌+◌, ◌≤◌, ◌≡◌, false, List, length}
use Rattle.program.specs.declared.Report.{Report}
use Rattle.rules.specs.Output.{text_of_all}
use Rattle.report.specs.Cursors.{rest, finished, Fits, Advances, Fills}
use Rattle.output.specs.Handing.{Left}

-- the report of an archive, with the places of its lines
pub record FitsIn (archive : List ℕ) (r : Report) : Type 0 where
  pub fits : Fits archive r.cursor r.list
  pub places : length r.out ≡ 65536

-- a line of the report, which isn't finished
pub record LineDue (archive : List ℕ) (r : Report) : Type 0 where
  pub fits : FitsIn archive r
  pub unfinished : finished r.cursor ≡ false
  pub room : r.cursor.end + 108 ≤ length r.out

-- the measure at the cursor's places, after the last quarter of the one before
pub record MeasureDue (archive : List ℕ) (r : Report) : Type 0 where
  pub fits : FitsIn archive r
  pub written : r.cursor.count ≤ r.cursor.place
  pub unfinished : r.cursor.done ≡ false
  pub room : r.cursor.end + 108 ≤ length r.out

-- one line more
pub record PutsLine (archive : List ℕ) (r r' : Report) : Type 0 where
  pub advances : Advances archive r.cursor r.list r.out r'.cursor r'.list r'.out
  pub places : length r'.out ≡ length r.out

-- as many lines as have room
pub record FillsLines (archive : List ℕ) (r r' : Report) : Type 0 where
  pub fills : Fills archive r.cursor r.list r'.cursor r'.list r'.out
  pub places : length r'.out ≡ length r.out

-- all lines from the cursor on, behind so many bytes handed over
pub record RestDue (archive : List ℕ) (r : Report) (count : ℕ) : Type 0 where
  pub fits : FitsIn archive r
  pub left : Left archive count (text_of_all (rest archive r.cursor r.list))

-- 1 where a read or a write failed, else 0
abbrev pub ExitStatus : ℕ → Type 0
ExitStatus n = n ≤ 1
