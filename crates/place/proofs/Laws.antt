-- Links rise on the way to a place of a chain; what a measure's place is once its records are found.
use Rattle.std.proofs.Common.{◌≡◌, ℕ, ◌+◌, ◌≤◌, ◌<◌, List, Option, None, Some, Ok, sym, refl}
use Rattle.std.specs.Option.{ok_or}
use Rattle.std.specs.Result.{IfOk}
use Rattle.rules.specs.Outcome.{Outcome, refused, given, ◌>>=◌}
use Rattle.rules.specs.Refusals.{no_plant, no_measure}
use Rattle.rules.specs.Terms.{Terms}
use Rattle.rules.specs.Archive.{Entry, record_at, entry_at, at_place, used_of, plant_kind, measure_kind, first_plant, first_measure}
use Rattle.rules.specs.Settle.{admitted, place_of}
use Rattle.rules.specs.declared.refusal.Refusal.{Refusal}
use Rattle.rules.proofs.Walks.{placed}
use Rattle.rules.proofs.Bounds.{admitted_low}
use Rattle.archive.proofs.Laws.{used_some, used_few, used_fits}
use Rattle.rules.specs.Numbers.{or_zero}
use Rattle.terms.specs.declared.Terms as code
use Rattle.terms.specs.Meanings.{meaning}
use Rattle.chains.specs.Answers.{reached}

module _ (archive : List ℕ) (used kind place holder first : ℕ) where
  pub rises : (o : Option ℕ) → ((missing : ℕ) → reached archive missing (Ok o) ≡ at_place archive used kind missing place holder first)
      → (e : Refusal) → IfOk (ok_or o e) (λ n. (holder + place ≤ n) × (n < used))
  rises None h e = tt
  rises (Some n) h e = let p = placed archive used kind 0 place holder first (entry_at archive n) (sym (h 0)) in (p.above, p.below)

-- the place of a measure, by what was found of its plant and of itself
module _ (archive : List ℕ) (p k : ℕ) where
  pub no_head : {n : ℕ} → refused n ≡ used_of archive → refused n ≡ place_of archive p k
  unfolding place_of ◌>>=◌
  no_head e = rw (← e) refl

  module _ (used : ℕ) (head : given used ≡ used_of archive) where
    abbrev plant_at : Outcome Entry
    plant_at = at_place archive used plant_kind no_plant p 0 (first_plant (record_at archive 0))

    pub plant_refused : {n : ℕ} → refused n ≡ plant_at → refused n ≡ place_of archive p k
    unfolding place_of ◌>>=◌
    plant_refused e = rw (← head, ← e) refl

    module _ (plant : ℕ) (to_plant : given (entry_at archive plant) ≡ plant_at) where
      abbrev measure_at : Outcome Entry
      measure_at = at_place archive used measure_kind no_measure k plant (first_measure (record_at archive plant))

      pub measure_refused : {n : ℕ} → refused n ≡ measure_at → refused n ≡ place_of archive p k
      unfolding place_of ◌>>=◌
      measure_refused e = rw (← head, ← to_plant, ← e) refl

      module _ (measure : ℕ) (to_measure : given (entry_at archive measure) ≡ measure_at) where
        pub terms_refused : {n : ℕ} → refused n ≡ admitted (record_at archive plant) (record_at archive measure) → refused n ≡ place_of archive p k
        unfolding place_of ◌>>=◌
        terms_refused e = rw (← head, ← to_plant, ← to_measure, ← e) refl

        pub found : {terms : Terms} → given terms ≡ admitted (record_at archive plant) (record_at archive measure)
            → given (record { used = used; plant = entry_at archive plant; measure = entry_at archive measure; terms = terms; links = p + k }) ≡ place_of archive p k
        unfolding place_of ◌>>=◌
        found e = rw (← head, ← to_plant, ← to_measure, ← e) refl

pub low : (plant measure : List ℕ) (terms : code.Terms) → given (meaning terms) ≡ admitted plant measure → or_zero terms.nominal.0 ≤ 1000000000
low plant measure terms e = (admitted_low plant measure).of _ (sym e)

pub ruleset places = (used_some, used_few, used_fits, no_head, plant_refused, measure_refused, terms_refused, found, low)
