-- A walk over a measure's quarters: what it answers, and what it leaves in the sheet of exact magnitudes.
use Rattle.std.specs.Prelude.{◌≡◌, Bool, true, false, cond, ◌&&◌, List, ℕ, ◌/◌, ◌^◌, ◌≤◌, ◌<◌, leb, length, take, set, Option, Some, None, Result}
use Rattle.rules.specs.Outcome.{Outcome, refused, given, ◌>>=◌}
use Rattle.rules.specs.Results.{outcome}
use Rattle.rules.specs.declared.refusal.Refusal.{Refusal}
use Rattle.rules.specs.Numbers.{sum}
use Rattle.rules.specs.Refusals.{bad_count, out_of_range, not_in_calendar}
use Rattle.rules.specs.Terms.{Terms, Quarter}
use Rattle.rules.specs.Settle as settle
use Rattle.rules.specs.Settle.{Basis, quarters_of, exacts_of, measure_denominator}
use Rattle.place.specs.declared.Place.{Place}
use Rattle.place.specs.Places.{meant}
use Rattle.reference.specs.declared.Reference.{Reference}
use Rattle.reference.specs.References.{Means}

-- ---- one quarter

abbrev pub is_in_range : Option ℕ → Bool
is_in_range (Some m) = true
is_in_range None = false

-- a magnitude at its place of the sheet, if the sheet has that place
abbrev pub entered : List ℕ → ℕ → Option ℕ → List ℕ
entered sheet count (Some m) = set sheet count m
entered sheet count None = sheet

-- ---- all quarters

-- the count of quarters
abbrev pub counted : Outcome (List Quarter) → Outcome ℕ
counted o = o >>= λ quarters. given (length quarters)

-- what the chain's end says of so many quarters, by whether every needed field of them is in range
unfoldable pub answer_at_end : Terms → ℕ → Bool → Outcome ℕ
answer_at_end terms count fine =
    cond (leb 1 count && leb count 2976)
    (cond fine (cond (settle.dates_allowed terms count) (given count) (refused not_in_calendar)) (refused out_of_range))
    (refused bad_count)

pub record WalkedBy (archive : List ℕ) (place : settle.Place) (basis : Basis) (sheet : List ℕ) (answer : Result ℕ Refusal) : Type 0 where
  pub answers : outcome answer ≡ counted (quarters_of archive place basis)
  -- the sheet's first places hold the numerators of the exact magnitudes, if it has a place for each
  pub writes : (quarters : List Quarter) → quarters_of archive place basis ≡ given quarters → length quarters ≤ length sheet
      → take (length quarters) sheet ≡ exacts_of place basis quarters
  -- their sum, rounded down to whole Wh, fits a signed number of 64 bits
  pub fits : (quarters : List Quarter) → quarters_of archive place basis ≡ given quarters
      → sum (exacts_of place basis quarters) / measure_denominator basis < 2 ^ 63

-- on every basis that the reference stands for
pub record Walks (archive : List ℕ) (place : Place) (reference : Reference) (powers sheet : List ℕ) (answer : Result ℕ Refusal) : Type 0 where
  pub by : (basis : Basis) → Means reference powers basis.reference → WalkedBy archive (meant archive place) basis sheet answer
