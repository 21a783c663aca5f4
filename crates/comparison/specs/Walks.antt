-- The walk along a measure's before-quarters, step by step: what it has gathered.
use Rattle.std.specs.Prelude.{ℕ, ◌+◌, ◌≤◌, ◌<◌, ◌≡◌, cond, List, leb, ltb, Option, Some, None, Result, IfSome, IfOk}
use Rattle.rules.specs.Outcome.{Outcome, refused, given, ◌>>=◌, ◌>>◌, require}
use Rattle.rules.specs.Refusals.{bad_count, out_of_range}
use Rattle.rules.specs.Results.{some_or}
use Rattle.rules.specs.declared.refusal.Refusal.{Refusal}
use Rattle.rules.specs.Archive.{Entry, chain, before_kind, first_before}
use Rattle.rules.specs.Terms.{is_marked, mark_allowed, before_of}
use Rattle.rules.specs.Settle.{Place}
use Rattle.rules.proofs.Folds.{gathered_from}
use Rattle.comparison.specs.declared.Purpose.{Purpose}
use Rattle.comparison.specs.declared.Sums.{Sums}
use Rattle.comparison.specs.declared.Walk.{Walk}
use Rattle.comparison.specs.declared.Gathered.{Gathered}
use Rattle.comparison.specs.Sums.{Choice, Means, Ready, taken, Room}

abbrev pub no_sums : Sums
no_sums = record { used = 0; a = 0; b = 0 }

abbrev pub start : Walk
start = record { count = 0; sums = Some no_sums }

-- ---- a step

-- one more, from which nothing is taken
abbrev pub counted : Walk → Walk
counted w = record { count = w.count + 1; sums = w.sums }

-- one more, with a field out of range
abbrev pub not_fine : Walk → Walk
not_fine w = record { count = w.count + 1; sums = None }

abbrev pub with_taken : Walk → Outcome Sums → Walk
with_taken w (refused n) = not_fine w
with_taken w (given s) = record { count = w.count + 1; sums = Some s }

-- one more, by its bytes. Nothing is taken once a field is out of range, nor above 96: 9 or 8 is the answer then
abbrev pub stepped_on : Choice → Walk → List ℕ → Option Sums → Walk
stepped_on choice w r None = counted w
stepped_on choice w r (Some s) =
    cond (mark_allowed r)
    (cond (is_marked r) (cond (ltb w.count 96) (with_taken w (taken choice s (before_of r))) (counted w)) (counted w))
    (not_fine w)

unfoldable pub stepped : Choice → Walk → List ℕ → Walk
stepped choice w r = stepped_on choice w r w.sums

abbrev pub stepped_by : Choice → Walk → Entry → Walk
stepped_by choice w e = stepped choice w e.bytes

-- no more are used than are met
pub record RoomOf (count : ℕ) (s : Sums) : Type 0 where
  pub room : Room s
  pub used : s.used ≤ count

abbrev pub RoomIn : Walk → Type 0
RoomIn w = IfSome w.sums (RoomOf w.count)

-- what a step needs
pub record StepReady (purpose : Purpose) (powers : List ℕ) (w : Walk) : Type 0 where
  pub ready : Ready purpose powers
  pub room : RoomIn w
  pub few : w.count < 65536

-- what the code's step answers
pub record Stepped (purpose : Purpose) (powers : List ℕ) (w : Walk) (r : List ℕ) (next : Walk) : Type 0 where
  pub is : (choice : Choice) → Means purpose powers choice → next ≡ stepped choice w r
  pub room : RoomIn next
  pub count : next.count ≡ w.count + 1

-- ---- the whole walk

-- after it: 8, then 9
unfoldable pub passed : Walk → Outcome Gathered
passed w = do
  require (leb w.count 96) bad_count
  sums ← some_or out_of_range w.sums
  given (record { count = w.count; sums = sums })

-- the chain walked whole (2, 3), then 8, then 9
abbrev pub gathered_of : Choice → List ℕ → Place → Outcome Gathered
gathered_of choice archive place =
    gathered_from (stepped_by choice) start
    (chain archive place.used before_kind place.measure.number (first_before place.measure.bytes))
    >>= passed

-- where 8 isn't the answer
abbrev pub RoomGathered : Result Gathered Refusal → Type 0
RoomGathered r = IfOk r (λ g. RoomOf g.count g.sums × (g.count ≤ 96))
