-- Two archives that are equal but for bytes 8-15 of records of kind 5: all that is read before the quarters is the same in both.
use mathlib.Core.Path.{◌≡◌, refl, sym, ◌∙◌, ap, ap₂, fun_ext}
use mathlib.Core.Bool.{Bool, true, false, cond, not, ◌&&◌}
use mathlib.Core.List.{List, [], ◌∷◌}
use Prim.Native.Nat.{ℕ, zero, suc, ◌+◌, ◌*◌, ◌/◌, ◌%◌, ◌<◌}
use native.Mathlib.Omega.{arith}
use borrow.Author.Tests.{eqb-true, eqb-false}
use lib.Dec.{T, eqb, leb, ltb, lit<}
use lib.ListN.{length, drop, length-take, length-drop}
use lib.Seq.{ext_get_or}
use Rattle.rules.specs.Outcome.{Outcome, refused, given, ◌>>=◌, ◌>>◌, require}
use Rattle.rules.specs.Archive.{byte_at, link_at, record_at, kind_of, next_of, used_of, Entry, follow, at_place, chain_from, chain}
use Rattle.rules.specs.Terms.{Technology, wind, solar, other, Variant, spitz, pauschal}
use Rattle.rules.specs.Numbers.{member}
use Rattle.rules.specs.Settle.{Place, place_of, points_of, befores_of, basis_by, basis_of}
use Rattle.rules.specs.Fractions.{Raised, quarter_numbers}
use Rattle.rules.proofs.Bytes.{byte_of}

-- not one of bytes 8-15
abbrev pub elsewhere : ℕ → Bool
elsewhere at = not (leb 8 at && leb at 15)

pub record Agree (a b : List ℕ) : Type 0 where
  pub long : length a ≡ length b
  pub outside : (n at : ℕ) → at < 32 → T (elsewhere at) → byte_at (record_at a n) at ≡ byte_at (record_at b n) at
  pub others : (n : ℕ) → eqb (kind_of (record_at a n)) 5 ≡ false → record_at a n ≡ record_at b n

-- ---- bytes of a record

record_length : (a b : List ℕ) (n : ℕ) → length a ≡ length b → length (record_at a n) ≡ length (record_at b n)
unfolding record_at
record_length a b n e = simp (length-take, length-drop, e)

record_short : (a : List ℕ) (n i : ℕ) → i < length (record_at a n) → i < 32
unfolding record_at
record_short a n i h = omega (arith, length-take 32 (drop (32 * n) a))

not_and : (t u : Bool) → T (not u) → (t && u) ≡ false
not_and true true h = absurd h
not_and true false h = refl
not_and false u h = refl

-- ---- raised readings leave all else

module _ (a b : List ℕ) (p k : ℕ) (raised : Raised a b p k)
    (kinds : (n : ℕ) → member n (quarter_numbers a p k) ≡ true → kind_of (record_at a n) ≡ 5) where
  by_byte : (n at : ℕ) → at < 32 → (member n (quarter_numbers a p k) && (leb 8 at && leb at 15)) ≡ false → byte_at (record_at a n) at ≡ byte_at (record_at b n) at
  by_byte n at h e =
      byte_of a n at h
      ∙ raised.equal_elsewhere (32 * n + at) (ap₂ (λ (q r : ℕ). member q (quarter_numbers a p k) && (leb 8 r && leb r 15)) quotient remainder ∙ e)
      ∙ sym (byte_of b n at h)
    where
      quotient : (32 * n + at) / 32 ≡ n
      quotient = omega arith

      remainder : (32 * n + at) % 32 ≡ at
      remainder = omega arith

  not_member : (n : ℕ) → eqb (kind_of (record_at a n)) 5 ≡ false → member n (quarter_numbers a p k) ≡ false
  not_member n e = go (member n (quarter_numbers a p k)) refl
    where
      go : (t : Bool) → member n (quarter_numbers a p k) ≡ t → t ≡ false
      go true m = absurd (eqb-false (kind_of (record_at a n)) 5 e (kinds n m))
      go false m = refl

  pub agree : Agree a b
  agree = record {
    long = raised.equally_long;
    outside = λ n at h t. by_byte n at h (not_and (member n (quarter_numbers a p k)) (leb 8 at && leb at 15) t);
    others = λ n e. ext_get_or 0 (record_at a n) (record_at b n) (record_length a b n raised.equally_long)
        (λ i h. by_byte n i (record_short a n i h) (ap (λ t. t && (leb 8 i && leb i 15)) (not_member n e)));
  }

-- ---- the same is read

module _ (a b : List ℕ) (g : Agree a b) where
  pub kind_same : (n : ℕ) → kind_of (record_at a n) ≡ kind_of (record_at b n)
  kind_same n = g.outside n 0 (lit< tt) tt

  pub next_same : (n : ℕ) → next_of (record_at a n) ≡ next_of (record_at b n)
  unfolding link_at
  next_same n =
      rw (g.outside n 4 (lit< tt) tt, g.outside n 5 (lit< tt) tt, g.outside n 6 (lit< tt) tt, g.outside n 7 (lit< tt) tt)

  module _ (used kind : ℕ) (not_five : eqb kind 5 ≡ false) where
    follow_same : (holder link : ℕ) → follow a used kind holder link ≡ follow b used kind holder link
    unfolding follow ◌>>◌ require
    follow_same holder link = ap (λ o. require (ltb holder link && ltb link used) 2 >> o) (go (eqb (kind_of (record_at a link)) kind) refl)
      where
        met : List ℕ → Outcome Entry
        met r = given (record { number = link; bytes = r })

        go : (t : Bool) → eqb (kind_of (record_at a link)) kind ≡ t
            → (require (eqb (kind_of (record_at a link)) kind) 3 >> met (record_at a link)) ≡ (require (eqb (kind_of (record_at b link)) kind) 3 >> met (record_at b link))
        go true e =
            ap (λ r. require (eqb (kind_of r) kind) 3 >> met r)
            (g.others link (ap (λ (x : ℕ). eqb x 5) (eqb-true (kind_of (record_at a link)) kind e) ∙ not_five))
        go false e = rw (← kind_same link, e)

    at_place_same : (missing place holder link : ℕ) → at_place a used kind missing place holder link ≡ at_place b used kind missing place holder link
    at_place_same missing zero holder link = refl
    at_place_same missing (suc zero) holder link = ap (λ o. cond (eqb link 0) (refused missing) o) (follow_same holder link)
    at_place_same missing (suc (suc place)) holder link =
        ap (λ o. cond (eqb link 0) (refused missing) o)
        (ap₂ ◌>>=◌ (follow_same holder link) (fun_ext (λ e. at_place_same missing (suc place) e.number (next_of e.bytes))))

    chain_from_same : (steps holder link : ℕ) → chain_from a used kind steps holder link ≡ chain_from b used kind steps holder link
    chain_from_same zero holder link = refl
    chain_from_same (suc steps) holder link =
        ap (λ o. cond (eqb link 0) (given []) o)
        (ap₂ ◌>>=◌ (follow_same holder link)
        (fun_ext (λ e. ap (λ o. o >>= λ es. given (e ∷ es)) (chain_from_same steps e.number (next_of e.bytes)))))

    chain_same : (holder link : ℕ) → chain a used kind holder link ≡ chain b used kind holder link
    unfolding chain
    chain_same holder link = chain_from_same used holder link

  points_same : (place : Place) → points_of a place ≡ points_of b place
  unfolding points_of
  points_same place = rw (chain_same place.used 2 refl)

  befores_same : (place : Place) → befores_of a place ≡ befores_of b place
  unfolding befores_of
  befores_same place = rw (chain_same place.used 4 refl)

  by_same : (t : Technology) (v : Variant) (place : Place) → basis_by t v a place ≡ basis_by t v b place
  unfolding basis_by
  by_same wind spitz place = simp (points_same, befores_same)
  by_same wind pauschal place = simp befores_same
  by_same solar spitz place = simp befores_same
  by_same solar pauschal place = refl
  by_same other spitz place = refl
  by_same other pauschal place = simp befores_same

  pub basis_same : (place : Place) → basis_of a place ≡ basis_of b place
  basis_same place = by_same _ _ place

  plant_same : (used p holder link : ℕ) → at_place a used 1 4 p holder link ≡ at_place b used 1 4 p holder link
  plant_same used = at_place_same used 1 refl 4

  measure_same : (used k holder link : ℕ) → at_place a used 3 5 k holder link ≡ at_place b used 3 5 k holder link
  measure_same used = at_place_same used 3 refl 5

  module _ (head-same : record_at a 0 ≡ record_at b 0) where
    used_same : used_of a ≡ used_of b
    unfolding used_of
    used_same = rw (head-same, g.long)

    pub place_same : (p k : ℕ) → place_of a p k ≡ place_of b p k
    unfolding place_of
    place_same p k = simp (used_same, head-same, plant_same, measure_same)
