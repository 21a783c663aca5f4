-- The walk along the chain of before-quarters: what holds at each link, and the answer from what it has gathered.
use Rattle.std.proofs.Common.{◌≡◌, ℕ, ◌≤◌, ◌<◌, List, refl}
use Rattle.rules.specs.Outcome.{refused, given, ◌>>=◌}
use Rattle.rules.specs.Archive.{before_kind, first_before, chain}
use Rattle.rules.specs.Settle as settle
use Rattle.rules.proofs.Folds.{gathered_from}
use Rattle.chains.specs.declared.Chain.{Chain}
use Rattle.chains.proofs.Walking.{Along, Walking}
use Rattle.comparison.specs.declared.Purpose.{Purpose}
use Rattle.comparison.specs.declared.Walk.{Walk}
use Rattle.comparison.specs.Sums.{Choice, Means}
use Rattle.comparison.specs.Walks.{start, stepped_by, RoomIn, passed, gathered_of}

-- from the link `first` of `holder` on, the walk stands where the iterator does
pub record Going (purpose : Purpose) (powers archive : List ℕ) (used holder first : ℕ) (at : Chain) (w : Walk) : Type 0 where
  pub along : Along archive used before_kind at
  pub below : at.last < used
  pub walking : (choice : Choice) → Means purpose powers choice → Walking (stepped_by choice) archive used before_kind holder first start at w
  -- links rise
  pub few : w.count ≤ at.last
  pub room : RoomIn w

module _ (choice : Choice) (archive : List ℕ) (place : settle.Place) {first : ℕ} (starts : first ≡ first_before place.measure.bytes) where
  pub gathered_whole : {w : Walk} → gathered_from (stepped_by choice) start (chain archive place.used before_kind place.measure.number first) ≡ given w
      → passed w ≡ gathered_of choice archive place
  unfolding ◌>>=◌
  gathered_whole g = rw (← starts, g) refl

  pub gathered_broken : {n : ℕ} → chain archive place.used before_kind place.measure.number first ≡ refused n → refused n ≡ gathered_of choice archive place
  unfolding ◌>>=◌
  gathered_broken g = rw (← starts, g) refl
