-- An append for now: what is kept of the archive, and that the archive comes back from it.
use Rattle.std.specs.Prelude.{ℕ, ◌+◌, ◌*◌, ◌≤◌, ◌<◌, ◌≡◌, List, length, Result, Ok, Err}
use Rattle.rules.specs.Outcome.{refused, given}
use Rattle.rules.specs.Filing.{append}
use Rattle.rules.specs.Preview.{undone}
use Rattle.rules.specs.Results.{number}
use Rattle.rules.specs.declared.refusal.Refusal.{Refusal}
use Rattle.preview.specs.declared.Appended.{Appended}

-- a record of this number, the link to it and U can be written
pub record CanUndo (archive : List ℕ) (used place : ℕ) (old : List ℕ) : Type 0 where
  pub size : length old ≡ 32
  pub free : 32 * used + 32 ≤ length archive
  pub link : place + 4 ≤ length archive
  pub few : used < 65535

-- append is refused, and nothing changes; or the record is appended, and what was kept of the archive gives it back
abbrev pub AppendsForNow : List ℕ → ℕ → List ℕ → List ℕ → Result Appended Refusal → Type 0
AppendsForNow archive owner new later (Err e) = (append archive owner new ≡ refused (number e)) × (later ≡ archive)
AppendsForNow archive owner new later (Ok a) =
    (append archive owner new ≡ given later)
    × CanUndo later a.destination.number a.destination.place a.before
    × (undone later a.destination.number a.destination.place a.before ≡ archive)
