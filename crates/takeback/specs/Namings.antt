-- The links that name a record, and what the answers of the code stand for.
use Rattle.std.specs.Prelude.{ℕ, ◌+◌, ◌*◌, ◌≤◌, ◌<◌, ◌≡◌, Bool, ◌||◌, List, [], ◌∷◌, map, eqb, length, Option, Some, None, Result, Ok, Err}
use Rattle.rules.specs.Outcome.{refused, given}
use Rattle.rules.specs.Results.{number}
use Rattle.rules.specs.Numbers.{keep}
use Rattle.rules.specs.Archive.{link_at}
use Rattle.rules.specs.Links.{Link, links_at, stands_at}
use Rattle.rules.specs.TakeBack.{taken_back, take_back}
use Rattle.rules.specs.declared.refusal.Refusal.{Refusal}
use Rattle.rules.specs.declared.refusal.Refusal.TheVariants.{LastNotNamedOnce}
use Rattle.filing.specs.declared.Destination.{Destination}

-- bytes 4-7, 8-11 or 12-15 of a record are a number's
unfoldable pub holds_number : List ℕ → ℕ → Bool
holds_number r number = eqb (link_at r 4) number || (eqb (link_at r 8) number || eqb (link_at r 12) number)

-- of some links of record n the places of those that name a record
unfoldable pub namers_among : List ℕ → ℕ → ℕ → List Link → List ℕ
namers_among archive n named links = keep (λ place. eqb (link_at archive place) named) (map (stands_at n) links)

-- of all its links
unfoldable pub namers_in : List ℕ → ℕ → ℕ → List ℕ
namers_in archive n named = namers_among archive n named (links_at archive n)

-- the links met, none or one, by the place of the one
abbrev pub met_at : Option ℕ → List ℕ
met_at None = []
met_at (Some place) = place ∷ []

abbrev pub naming_of : List ℕ → Result (Option ℕ) Refusal
naming_of [] = Ok None
naming_of (place ∷ []) = Ok (Some place)
naming_of (place ∷ (another ∷ rest)) = Err LastNotNamedOnce

-- record U - 1 isn't the head and lies in the archive, and so does the link at a place
pub record HasLast (archive : List ℕ) (used place : ℕ) : Type 0 where
  pub some : 1 < used
  pub few : used ≤ 65535
  pub fits : 32 * used ≤ length archive
  pub link : place + 4 ≤ length archive

-- taking back is refused, or clears the last record and the link at a place
abbrev pub Leaves : List ℕ → Result Destination Refusal → Type 0
Leaves archive (Err e) = take_back archive ≡ refused (number e)
Leaves archive (Ok last) =
    (take_back archive ≡ given (taken_back archive (last.number + 1) last.place)) × HasLast archive (last.number + 1) last.place
