-- Places on chains: links rise strictly from their holder and stay below U, so a record at a place has a number of at least that place.
use mathlib.Core.Path.{◌≡◌}
use mathlib.Core.Bool.{Bool, true, false, cond, ◌&&◌}
use mathlib.Core.List.{List}
use Prim.Native.Nat.{ℕ, zero, suc, ◌+◌, ◌≤◌, ◌<◌}
use native.Mathlib.Omega.{arith}
use lib.Dec.{T, eqb, ltb, ltb→lt}
use Rattle.rules.specs.Outcome.{Outcome, refused, given, ◌>>=◌, ◌>>◌, require}
use Rattle.rules.specs.Refusals.{bad_link, wrong_kind, no_plant, no_measure}
use Rattle.rules.specs.Archive.{record_at, used_of, Entry, entry_at, follow, next_of, at_place, plant_kind, measure_kind, first_plant, first_measure}
use Rattle.rules.specs.Settle.{Place, place_of, Settlement, settled}
use Rattle.rules.proofs.Inversion.{both_left, both_right}

-- ---- what holds of each answer holds of the whole

require_answers : {A : Type 0} (P : Outcome A → Type 0) (t : Bool) (n : ℕ) (rest : Outcome A) → P (refused n) → (T t → P rest) → P (require t n >> rest)
unfolding ◌>>◌ require
require_answers P true n rest refusal passed = passed tt
require_answers P false n rest refusal passed = refusal

cond_answers : {A : Type 0} (P : A → Type 0) (t : Bool) (a b : A) → P a → P b → P (cond t a b)
cond_answers P true a b x y = x
cond_answers P false a b x y = y

module _ (archive : List ℕ) (used kind : ℕ) where
  -- the answers to a link: 2, 3, or a record above its holder and below U
  pub follow_answers : (P : Outcome Entry → Type 0) (holder link : ℕ) → P (refused bad_link) → P (refused wrong_kind)
      → ((e : Entry) → holder < e.number → e.number < used → P (given e)) → P (follow archive used kind holder link)
  unfolding follow
  follow_answers P holder link two three met =
      require_answers P (ltb holder link && ltb link used) bad_link _ two (λ t.
      require_answers P _ wrong_kind _ three (λ u.
      met (entry_at archive link)
      (ltb→lt holder link (both_left (ltb holder link) (ltb link used) t))
      (ltb→lt link used (both_right (ltb holder link) (ltb link used) t))))

  -- the answers at a place of a chain: none, 2, 3, or a record that many numbers above the holder and below U
  pub at_place_answers : (P : Outcome Entry → Type 0) (missing place holder link : ℕ) → P (refused missing) → P (refused bad_link) → P (refused wrong_kind)
      → ((e : Entry) → holder + place ≤ e.number → e.number < used → P (given e)) → P (at_place archive used kind missing place holder link)
  unfolding ◌>>=◌
  at_place_answers P missing zero holder link none two three met = none
  at_place_answers P missing (suc zero) holder link none two three met =
      cond_answers P (eqb link 0) _ _ none
      (follow_answers P holder link two three (λ e rises below. met e (omega arith) below))
  at_place_answers P missing (suc (suc place)) holder link none two three met =
      cond_answers P (eqb link 0) _ _ none
      (follow_answers (λ o. P (o >>= λ e. at_place archive used kind missing (suc place) e.number (next_of e.bytes))) holder link two three (λ e rises below.
      at_place_answers P missing (suc place) e.number (next_of e.bytes) none two three (λ e' above below'. met e' (omega arith) below')))

-- P holds of each answer at a plant place p and a measure place k
pub record Answers {A : Type 0} (P : Outcome A → Type 0) (used p k : ℕ) : Type 0 where
  pub two : P (refused bad_link)
  pub three : P (refused wrong_kind)
  pub four : P (refused no_plant)
  -- the plant is there
  pub five : p < used → P (refused no_measure)
  -- both are there: whatever comes later
  pub later : p + k < used → (o : Outcome A) → P o

module _ (archive : List ℕ) (used p k : ℕ) (head : used_of archive ≡ given used) where
  chains_answers : {A : Type 0} (P : Outcome A → Type 0) (f : ℕ → Entry → Entry → Outcome A) → Answers P used p k
      → P (used_of archive >>= λ u. at_place archive u plant_kind no_plant p 0 (first_plant (record_at archive 0))
      >>= λ plant. at_place archive u measure_kind no_measure k plant.number (first_measure plant.bytes) >>= λ measure. f u plant measure)
  unfolding ◌>>=◌
  chains_answers P f holds =
      rw head
      (at_place_answers archive used plant_kind
      (λ o. P (o >>= λ plant. at_place archive used measure_kind no_measure k plant.number (first_measure plant.bytes) >>= λ measure. f used plant measure))
      no_plant p 0 (first_plant (record_at archive 0)) holds.four holds.two holds.three (λ plant above below.
      at_place_answers archive used measure_kind (λ o. P (o >>= λ measure. f used plant measure))
      no_measure k plant.number (first_measure plant.bytes) (holds.five (omega arith)) holds.two holds.three (λ measure above' below'.
      holds.later (omega arith) (f used plant measure))))

  pub place_answers : (P : Outcome Place → Type 0) → Answers P used p k → P (place_of archive p k)
  unfolding place_of
  place_answers P holds = chains_answers P _ holds

  bind_answers : {A : Type 0} (P : Outcome A → Type 0) (f : Place → Outcome A) → Answers P used p k → P (place_of archive p k >>= f)
  unfolding ◌>>=◌
  bind_answers P f holds =
      place_answers (λ o. P (o >>= f))
      (record { two = holds.two; three = holds.three; four = holds.four; five = holds.five; later = λ h o. holds.later h (o >>= f) })

  pub settled_answers : (P : Outcome Settlement → Type 0) → Answers P used p k → P (settled archive p k)
  unfolding settled
  settled_answers P holds = bind_answers P _ holds
