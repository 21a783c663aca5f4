-- What a settlement was made from.
use mathlib.Core.Path.{◌≡◌, refl, ◌∙◌, ap}
use mathlib.Core.List.{List, [], ◌∷◌}
use Prim.Native.Nat.{ℕ, suc, ◌+◌, ◌≤◌}
use native.Mathlib.Omega.{arith}
use lib.Dec.{leb, leb→le}
use lib.ListN.{length, length-map}
use Rattle.rules.specs.Outcome.{given}
use Rattle.rules.specs.Archive.{Entry}
use Rattle.rules.specs.Terms.{Quarter, Direction}
use Rattle.rules.specs.Booking.{booked_from, amounts_of}
use Rattle.rules.specs.Settle.{Place, place_of, Basis, basis_of, quarter_chain, quarters_read, quarters_of, exacts_of, measure_denominator, Settlement, settlement_of, settled, settle}
use Rattle.rules.proofs.Inversion.{Holds, holds_bind, holds_require, holds_given, both_left, both_right}
use Rattle.rules.proofs.Lists.{map_from_length}

pub record MadeFrom (archive : List ℕ) (p k : ℕ) (s : Settlement) : Type 0 where
  pub place : Place
  pub place_is : place_of archive p k ≡ given place
  pub basis : Basis
  pub basis_is : basis_of archive place ≡ given basis
  pub quarters : List Quarter
  pub quarters_are : quarters_of archive place basis ≡ given quarters
  pub is : s ≡ settlement_of place basis quarters

settled_from : (archive : List ℕ) (p k : ℕ) → Holds (MadeFrom archive p k) (settled archive p k)
unfolding settled
settled_from archive p k =
    holds_bind _ _ (λ place e. holds_bind _ _ (λ basis e'. holds_bind _ _ (λ quarters e''.
    holds_given _ (record { place = place; place_is = e; basis = basis; basis_is = e'; quarters = quarters; quarters_are = e''; is = refl }))))

pub made_from : (archive : List ℕ) (p k places : ℕ) → Holds (MadeFrom archive p k) (settle archive p k places)
unfolding settle
made_from archive p k places =
    holds_bind _ _ (λ s e. holds_require _ 13 _ (λ t. holds_given _ ((settled_from archive p k).of s e)))

-- the quarters were read from the chain
pub record ReadFrom (archive : List ℕ) (place : Place) (quarters : List Quarter) : Type 0 where
  pub entries : List Entry
  pub are : quarter_chain archive place ≡ given entries
  pub read : quarters ≡ quarters_read place entries

pub read_from_lem : (archive : List ℕ) (place : Place) (basis : Basis) → Holds (ReadFrom archive place) (quarters_of archive place basis)
unfolding quarters_of
read_from_lem archive place basis =
    holds_bind _ _ (λ es e. holds_require _ 8 _ (λ t. holds_require _ 9 _ (λ t. holds_require _ 18 _ (λ t. holds_given _ (record { entries = es; are = e; read = refl })))))

-- a measure has 1 to 2,976 quarters
pub record Counted (n : ℕ) : Type 0 where
  pub some : 1 ≤ n
  pub few : n ≤ 2976

pub quarters_counted : (archive : List ℕ) (place : Place) (basis : Basis) → Holds (λ (quarters : List Quarter). Counted (length quarters)) (quarters_of archive place basis)
unfolding quarters_of
quarters_counted archive place basis =
    holds_bind _ _ (λ es e. holds_require _ 8 _ (λ t. holds_require _ 9 _ (λ u. holds_require _ 18 _ (λ u. holds_given _ (record {
      some = omega (arith, read_length es, leb→le 1 (length es) (both_left (leb 1 (length es)) (leb (length es) 2976) t));
      few = omega (arith, read_length es, leb→le (length es) 2976 (both_right (leb 1 (length es)) (leb (length es) 2976) t));
    })))))
  where
    read_length : (es : List Entry) → length (quarters_read place es) ≡ length es
    read_length es = map_from_length _ 0 es

-- an amount for each quarter
booked_length : (d before : ℕ) (ms : List ℕ) → length (booked_from d before ms) ≡ length ms
booked_length d before [] = refl
booked_length d before (m ∷ ms) = ap suc (booked_length d (before + m) ms)

pub amounts_length : (s : Direction) (d : ℕ) (exact : List ℕ) → length (amounts_of s d exact) ≡ length exact
unfolding amounts_of
amounts_length s d exact = simp (length-map, booked_length)

pub count_is : (place : Place) (basis : Basis) (quarters : List Quarter) → length (settlement_of place basis quarters).amounts ≡ length quarters
count_is place basis quarters =
    amounts_length place.terms.direction (measure_denominator basis) (exacts_of place basis quarters) ∙ simp length-map
