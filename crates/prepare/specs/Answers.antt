-- What the answer of the tests stands for.
use Rattle.std.specs.Prelude.{ℕ, ◌≤◌, ◌<◌, ◌/◌, ◌^◌, ◌≡◌, List, length, take, Result, Ok, Err}
use Rattle.rules.specs.Outcome.{Outcome, refused, given, ◌>>=◌}
use Rattle.rules.specs.Results.{number}
use Rattle.rules.specs.declared.refusal.Refusal.{Refusal}
use Rattle.rules.specs.Numbers.{sum}
use Rattle.rules.specs.Booking.{amounts_of}
use Rattle.rules.specs.Settle.{Place, basis_of, quarters_of, settlement_of, Settlement, count_of}
use Rattle.prepare.specs.declared.Measure.{Measure}

-- the settlement that a measure and its sheet stand for, with bounds within which it can be booked
pub record Stands (o : Outcome Settlement) (sheet : List ℕ) (m : Measure) : Type 0 where
  pub settlement : Settlement
  pub is : o ≡ given settlement
  pub counted : count_of settlement ≡ m.count
  pub links_are : settlement.links ≡ m.links
  pub few : m.count ≤ 2976
  pub positive : 0 < m.denominator
  pub low : m.denominator ≤ 2 ^ 63
  -- if the sheet has a place for each quarter
  pub amounts_are : m.count ≤ length sheet → settlement.amounts ≡ amounts_of m.direction m.denominator (take m.count sheet)
  pub fits : m.count ≤ length sheet → sum (take m.count sheet) / m.denominator < 2 ^ 63

-- the answer for a settlement that is given or refused
abbrev pub Prepares : Outcome Settlement → List ℕ → Result Measure Refusal → Type 0
Prepares o sheet (Ok m) = Stands o sheet m
Prepares o sheet (Err e) = o ≡ refused (number e)

-- what is settled once a measure's place is known
abbrev pub settled_at : List ℕ → Place → Outcome Settlement
settled_at archive place = basis_of archive place >>= λ basis. quarters_of archive place basis >>= λ quarters. given (settlement_of place basis quarters)
