-- Laws of the rules of October 2026: the smallest of a number and readings is one of them and none is below it; it rises with the number, and
-- is no further from 0 than they are. Where T isn't P0, nothing is bounded.
use mathlib.Core.Path.{◌≡◌, refl, sym, ◌∙◌, ap, subst}
use mathlib.Core.Bool.{Bool, true, false, cond}
use mathlib.Core.List.Memᴰ
use mathlib.Core.List.{List, [], ◌∷◌, map, Memᴰ}
use mathlib.Core.Logic.{◌⊎◌, inl, inr}
use Prim.Native.Nat.{ℕ, ◌+◌, ◌*◌, ◌≤◌, ◌<◌}
use native.Mathlib.Nat.{mul-le-mul_right}
use native.Mathlib.Omega.{arith}
use lib.IntN.{ℤ, pos, ◌*ℤ◌}
use lib.Signed.{le_z, ◌≤ℤ◌, mag}
use Rattle.rules.specs.Numbers.{all, smaller}
use Rattle.rules.specs.Outcome.{given}
use Rattle.rules.specs.Terms.{Technology, wind, solar, other, Variant, spitz, pauschal, Direction, Terms, Reading, none, of, Before, Quarter}
use Rattle.rules.specs.October.{unbounded, is_since_october, bounding_by, bounding_of, over, bounded_by, smallest, reading_allowed}
use Rattle.rules.specs.Reference.{limitation, Reference, last_measured, numerator, limit_of, reference_of}
use Rattle.rules.specs.Settle.{Place, Basis, first_marked, pauschal_basis, basis_by, basis_of, bounds_readable}
use Rattle.rules.proofs.Inversion.{Holds, holds_refused, holds_bind, holds_require, holds_given, All, none as no_more, more}
use Rattle.rules.proofs.Ints.{parts_le, ≤ℤ_trans, or_zero_times, under_times, mag_parts, smaller_case, smaller_mono}
use Rattle.rules.proofs.Ranges.{within_signed}
use Rattle.rules.proofs.Sound.{both}

-- ---- it is the smallest

same_le : (a : ℤ) → a ≤ℤ a
same_le a = parts_le a a (omega arith)

bounded_below : (r : Reading) (n : ℤ) → bounded_by r n ≤ℤ n
bounded_below none n = same_le n
bounded_below (of power) n = smaller_case (λ z. z ≤ℤ n) n power (λ h. same_le n) (λ h. h)

pub smallest_below : (rs : List Reading) (n : ℤ) → smallest n rs ≤ℤ n
smallest_below [] n = same_le n
smallest_below (r ∷ rs) n = ≤ℤ_trans (smallest_below rs (bounded_by r n)) (bounded_below r n)

pub smallest_below_reading : (rs : List Reading) (n power : ℤ) → Memᴰ (of power) rs → smallest n rs ≤ℤ power
smallest_below_reading [] n power m = absurd (Memᴰ.not-nil m)
smallest_below_reading (r ∷ rs) n power m = go (Memᴰ.cases_cons m) (smallest_below_reading rs (bounded_by r n) power)
  where
    go : (of power ≡ r) ⊎ Memᴰ (of power) rs → (Memᴰ (of power) rs → smallest (bounded_by r n) rs ≤ℤ power) → smallest (bounded_by r n) rs ≤ℤ power
    go (inl e) rest = ≤ℤ_trans (smallest_below rs (bounded_by r n)) (subst (λ x. bounded_by x n ≤ℤ power) e (smaller_case (λ z. z ≤ℤ power) n power (λ h. h) (λ h. same_le power)))
    go (inr k) rest = rest k

pub smallest_among : (rs : List Reading) (n : ℤ) → (smallest n rs ≡ n) ⊎ Memᴰ (of (smallest n rs)) rs
smallest_among [] n = inl refl
smallest_among (r ∷ rs) n = go (smallest_among rs (bounded_by r n)) r refl
  where
    go : (smallest (bounded_by r n) rs ≡ bounded_by r n) ⊎ Memᴰ (of (smallest (bounded_by r n) rs)) rs → (x : Reading) → r ≡ x
        → (smallest (bounded_by r n) rs ≡ n) ⊎ Memᴰ (of (smallest (bounded_by r n) rs)) (r ∷ rs)
    go (inr m) x e = inr (Memᴰ.tail m)
    go (inl i) none e = inl (i ∙ ap (λ x. bounded_by x n) e)
    go (inl i) (of power) e = either (smaller_case (λ z. (z ≡ n) ⊎ (z ≡ power)) n power (λ h. inl refl) (λ h. inr refl))
      where
        is : smallest (bounded_by r n) rs ≡ smaller n power
        is = i ∙ ap (λ x. bounded_by x n) e

        either : (smaller n power ≡ n) ⊎ (smaller n power ≡ power) → (smallest (bounded_by r n) rs ≡ n) ⊎ Memᴰ (of (smallest (bounded_by r n) rs)) (r ∷ rs)
        either (inl k) = inl (is ∙ k)
        either (inr k) = inr (Memᴰ.head (ap of (is ∙ k) ∙ sym e))

-- ---- it rises

bounded_mono : (r : Reading) {a b : ℤ} → a ≤ℤ b → bounded_by r a ≤ℤ bounded_by r b
bounded_mono none h = h
bounded_mono (of power) h = smaller_mono h (same_le power)

pub smallest_mono : (rs : List Reading) {a b : ℤ} → a ≤ℤ b → smallest a rs ≤ℤ smallest b rs
smallest_mono [] h = h
smallest_mono (r ∷ rs) h = smallest_mono rs (bounded_mono r h)

-- ---- it is no further from 0

-- a reading no further away from 0
abbrev pub Low : ℕ → Reading → Type 0
Low top none = Unit {0}
Low top (of power) = mag power ≤ top

bounded_small : (r : Reading) (n : ℤ) (top : ℕ) → mag n ≤ top → Low top r → mag (bounded_by r n) ≤ top
unfolding smaller
bounded_small none n top h k = h
bounded_small (of power) n top h k = go (le_z n power)
  where
    go : (t : Bool) → mag (cond t n power) ≤ top
    go true = h
    go false = k

pub smallest_low : (rs : List Reading) (n : ℤ) (top : ℕ) → mag n ≤ top → All (Low top) rs → mag (smallest n rs) ≤ top
smallest_low [] n top h no_more = h
smallest_low (r ∷ rs) n top h (more k ks) = smallest_low rs (bounded_by r n) top (bounded_small r n top h k) ks

-- 1 GW times d
over_low : (d top : ℕ) → 1000000000 * d ≤ top → (rs : List Reading) → all reading_allowed rs ≡ true → All (Low top) (map (over d) rs)
over_low d top room [] e = no_more
over_low d top room (r ∷ rs) e = let b = both (reading_allowed r) (all reading_allowed rs) e in more (go r b.0) (over_low d top room rs b.1)
  where
    go : (r : Reading) → reading_allowed r ≡ true → Low top (over d r)
    go none h = tt
    go (of power) h =
        let w = within_signed 999999999 1000000000 power h in
        let m : mag (power *ℤ pos d) < 1000000000 * d + 1 =
        mag_parts (power *ℤ pos d)
        (omega (arith, or_zero_times power d, mul-le-mul_right d w.0))
        (omega (arith, under_times power d, mul-le-mul_right d w.1)) in
        omega (arith, m)

pub smallest_over : (d top : ℕ) (n : ℤ) (rs : List Reading) → 1000000000 * d ≤ top → mag n ≤ top → all reading_allowed rs ≡ true
    → mag (smallest n (map (over d) rs)) ≤ top
smallest_over d top n rs room h e = smallest_low (map (over d) rs) n top h (over_low d top room rs e)

-- ---- where nothing is bounded

module _ (terms : Terms) (q : Quarter) (free : bounding_of terms ≡ unbounded) where
  pub unbounded_limit : limit_of terms q ≡ limitation terms.direction terms.execution q.measured q.limit
  unfolding limit_of
  unbounded_limit = rw free

  pub unbounded_reference : (r : Reference) → reference_of terms r q ≡ numerator r q
  unfolding reference_of
  unbounded_reference r = rw free

  pub unbounded_readable : bounds_readable (bounding_of terms) q ≡ true
  unbounded_readable = rw free

-- ---- where T isn't P0, nothing is bounded

abbrev Last : Basis → Type 0
Last b = (p0 : ℤ) × (b.reference ≡ last_measured p0)

first_last : (bs : List Before) (links : ℕ) → Holds Last (first_marked bs links)
unfolding first_marked
first_last [] links = holds_refused 11
first_last (b ∷ bs) links = holds_require _ 9 _ (λ r. holds_given _ (b.measured, refl))

pauschal_last : (archive : List ℕ) (place : Place) → Holds Last (pauschal_basis archive place)
pauschal_last archive place = holds_bind _ _ (λ entries e. first_last _ _)

module _ (archive : List ℕ) (place : Place) (b : Basis) (not_last : (p0 : ℤ) → b.reference ≡ last_measured p0 → ⊥) where
  clash : {X : Type 0} → Last b → X
  clash h = absurd (not_last h.0 h.1)

  by_pairing : (t : Technology) (v : Variant) (s : Direction) → basis_by t v archive place ≡ given b → bounding_by t v s ≡ unbounded
  unfolding basis_by
  by_pairing wind spitz s e = refl
  by_pairing wind pauschal s e = clash ((pauschal_last archive place).of b e)
  by_pairing solar spitz s e = refl
  by_pairing solar pauschal s e = refl
  by_pairing other spitz s e = refl
  by_pairing other pauschal s e = clash ((pauschal_last archive place).of b e)

  pub unless_last : basis_of archive place ≡ given b → bounding_of place.terms ≡ unbounded
  unfolding bounding_of
  unless_last e = go (is_since_october place.terms)
    where
      go : (t : Bool) → cond t (bounding_by place.terms.technology place.terms.variant place.terms.direction) unbounded ≡ unbounded
      go true = by_pairing place.terms.technology place.terms.variant place.terms.direction e
      go false = refl
