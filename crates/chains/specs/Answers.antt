-- What each answer of the code stands for: document 01's records for their numbers.
use Rattle.std.specs.Prelude.{ℕ, zero, suc, List, length, Option, Some, None, Result, Ok, Err}
use Rattle.rules.specs.Outcome.{Outcome, refused, given, ◌>>=◌}
use Rattle.rules.specs.Results.{outcome_by, number}
use Rattle.rules.specs.Archive.{Entry, entry_at, follow}
use Rattle.rules.specs.Filing.{last_place}
use Rattle.rules.specs.declared.refusal.Refusal.{Refusal}
use Rattle.chains.specs.declared.ChainEnd.{ChainEnd}

-- the record with a number, if there is one
abbrev pub entry_of : List ℕ → Option ℕ → Option Entry
entry_of archive None = None
entry_of archive (Some n) = Some (entry_at archive n)

abbrev pub followed : List ℕ → Result (Option ℕ) Refusal → Outcome (Option Entry)
followed archive r = outcome_by (entry_of archive) r

-- zero ends the chain; any other link leads to a record, or is refused with 2 or 3
abbrev pub linked : List ℕ → ℕ → ℕ → ℕ → ℕ → Outcome (Option Entry)
linked archive used kind holder zero = given None
linked archive used kind holder (suc l) = follow archive used kind holder (suc l) >>= λ e. given (Some e)

-- the record at a place of a chain; or 2, 3 or the number for a place that the chain doesn't have
abbrev pub reached : List ℕ → ℕ → Result (Option ℕ) Refusal → Outcome Entry
reached archive missing (Ok (Some n)) = given (entry_at archive n)
reached archive missing (Ok None) = refused missing
reached archive missing (Err e) = refused (number e)

-- the place of a chain's last link, from the place of its first one, and the links followed, one to each record
abbrev pub end_of : ℕ → List Entry → ChainEnd
end_of place es = record { place = last_place place es; links = length es }

abbrev pub ended : ℕ → Outcome (List Entry) → Outcome ChainEnd
ended place o = o >>= λ es. given (end_of place es)
