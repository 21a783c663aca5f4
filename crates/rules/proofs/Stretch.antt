-- Booked amounts against exact fractions: over each stretch less than one apart, and in all the fraction's whole part.
use mathlib.Core.Path.{◌≡◌, refl, sym, ◌∙◌, ap}
use mathlib.Core.List.{List, [], ◌∷◌, map}
use Prim.Native.Nat.{ℕ, zero, suc, ◌+◌, ◌*◌, ◌-◌, ◌/◌, ◌%◌, ◌≤◌, ◌<◌}
use native.Mathlib.Nat.{div-add-mod, mod-lt, zero-div, add-zero, zero-add, le-div_iff_mul-le, le_trans, div-mul-le_self, mul-add-div, add_assoc, mod-add-mod}
use native.Mathlib.Omega.{arith}
use lib.IntN.{ℤ, pos, neg_ℤ, nat_abs, ◌+ℤ◌, ◌-ℤ◌, ◌*ℤ◌, neg_ℤ-+ℤ}
use lib.Signed.{quot_z}
use lib.ListN.{take, drop}
use Rattle.rules.specs.Numbers.{sum, sumℤ}
use Rattle.rules.specs.Terms.{Direction, positive, negative}
use Rattle.rules.specs.Booking.{signed, booked_from, amounts_of, carried_from}
use Rattle.rules.proofs.Ints.{or_zero_minus, under_minus, or_zero_times, under_times, nat_abs_parts, or_zero_neg, under_neg}

-- `n` of the elements from the one at `i` on
abbrev pub portion : {A : Type 0} → ℕ → ℕ → List A → List A
portion i n l = take n (drop i l)

-- ---- natural numbers

pub div_mono : {m n d : ℕ} → 0 < d → m ≤ n → m / d ≤ n / d
div_mono {m} {n} {d} p h = (le-div_iff_mul-le p).1 (le_trans (div-mul-le_self m d) h)

-- the amounts add up to the difference of the rounded sums
pub booked_sum : (d before : ℕ) (ms : List ℕ) → 0 < d → sum (booked_from d before ms) + before / d ≡ (before + sum ms) / d
booked_sum d before [] p = omega (arith, ap (λ (n : ℕ). n / d) (add-zero before))
booked_sum d before (m ∷ ms) p =
    let grows : before / d ≤ (before + m) / d = div_mono p (omega arith) in
    omega (arith, booked_sum d (before + m) ms p, ap (λ (n : ℕ). n / d) (add_assoc before m (sum ms)))

-- a stretch of the amounts is booked from the sum before it
pub booked_take : (n d before : ℕ) (ms : List ℕ) → take n (booked_from d before ms) ≡ booked_from d before (take n ms)
booked_take zero d before ms = refl
booked_take (suc n) d before [] = refl
booked_take (suc n) d before (m ∷ ms) = ap (λ (l : List ℕ). ((before + m) / d - before / d) ∷ l) (booked_take n d (before + m) ms)

pub booked_drop : (i d before : ℕ) (ms : List ℕ) → drop i (booked_from d before ms) ≡ booked_from d (before + sum (take i ms)) (drop i ms)
booked_drop zero d before ms = ap (λ (n : ℕ). booked_from d n ms) (sym (add-zero before))
booked_drop (suc i) d before [] = refl
booked_drop (suc i) d before (m ∷ ms) =
    booked_drop i d (before + m) ms ∙ ap (λ (n : ℕ). booked_from d n (drop i ms)) (add_assoc before m (sum (take i ms)))

pub record Near (d a m : ℕ) : Type 0 where
  pub not_above : d * a < m + d
  pub not_below : m < d * a + d

near_floors : (d x m a : ℕ) → 0 < d → a + x / d ≡ (x + m) / d → Near d a m
near_floors d x m a p e =
    let e₁ : d * (x / d) + x % d ≡ x = div-add-mod x d in
    let e₂ : d * ((x + m) / d) + (x + m) % d ≡ x + m = div-add-mod (x + m) d in
    let l₁ : x % d < d = mod-lt x p in
    let l₂ : (x + m) % d < d = mod-lt (x + m) p in
    let e₃ : d * (a + x / d) ≡ d * ((x + m) / d) = ap (λ (n : ℕ). d * n) e in
    record { not_above = omega arith; not_below = omega arith }

pub portion_near : (d : ℕ) (ms : List ℕ) (i n : ℕ) → 0 < d → Near d (sum (portion i n (booked_from d 0 ms))) (sum (portion i n ms))
portion_near d ms i n p =
    near_floors d (0 + sum (take i ms)) (sum (portion i n ms)) (sum (portion i n (booked_from d 0 ms))) p
    (ap (λ (l : List ℕ). sum (take n l) + (0 + sum (take i ms)) / d) (booked_drop i d 0 ms)
    ∙ ap (λ (l : List ℕ). sum l + (0 + sum (take i ms)) / d) (booked_take n d (0 + sum (take i ms)) (drop i ms))
    ∙ booked_sum d (0 + sum (take i ms)) (portion i n ms) p)

-- ---- signs

pub take_map : {A B : Type 0} (f : A → B) (n : ℕ) (l : List A) → take n (map f l) ≡ map f (take n l)
take_map f zero l = refl
take_map f (suc n) [] = refl
take_map {B} f (suc n) (x ∷ xs) = ap (λ (l : List B). f x ∷ l) (take_map f n xs)

pub drop_map : {A B : Type 0} (f : A → B) (n : ℕ) (l : List A) → drop n (map f l) ≡ map f (drop n l)
drop_map f zero l = refl
drop_map f (suc n) [] = refl
drop_map f (suc n) (x ∷ xs) = drop_map f n xs

pub sum_signed : (s : Direction) (ns : List ℕ) → sumℤ (map (signed s) ns) ≡ signed s (sum ns)
sum_signed negative [] = refl
sum_signed positive [] = refl
sum_signed negative (n ∷ ns) = ap (λ z. pos n +ℤ z) (sum_signed negative ns)
sum_signed positive (n ∷ ns) = ap (λ z. neg_ℤ (pos n) +ℤ z) (sum_signed positive ns) ∙ sym (neg_ℤ-+ℤ (pos n) (pos (sum ns)))

signed_near : (s : Direction) (d a m : ℕ) → Near d a m → nat_abs (signed s a *ℤ pos d -ℤ signed s m) < d
signed_near negative d a m h =
    omega (arith, h, nat_abs_parts (pos a *ℤ pos d -ℤ pos m), or_zero_minus (pos a *ℤ pos d) (pos m), under_minus (pos a *ℤ pos d) (pos m))
signed_near positive d a m h =
    omega (
      arith,
      h,
      nat_abs_parts (neg_ℤ (pos a) *ℤ pos d -ℤ neg_ℤ (pos m)),
      or_zero_minus (neg_ℤ (pos a) *ℤ pos d) (neg_ℤ (pos m)),
      under_minus (neg_ℤ (pos a) *ℤ pos d) (neg_ℤ (pos m)),
      or_zero_times (neg_ℤ (pos a)) d,
      under_times (neg_ℤ (pos a)) d,
      ap (λ (n : ℕ). n * d) (or_zero_neg (pos a)),
      ap (λ (n : ℕ). n * d) (under_neg (pos a)),
      or_zero_neg (pos m),
      under_neg (pos m),
    )

pub portion_signed : {A : Type 0} (f : A → ℤ) (l : List A) (i n : ℕ) → portion i n (map f l) ≡ map f (portion i n l)
portion_signed f l i n = ap (λ (x : List ℤ). take n x) (drop_map f i l) ∙ take_map f n (drop i l)

-- over every stretch the amounts are less than 1 Wh away from the exact fraction
pub amounts_near : (s : Direction) (d : ℕ) (exact : List ℕ) (i n : ℕ) → 0 < d
    → nat_abs (sumℤ (portion i n (amounts_of s d exact)) *ℤ pos d -ℤ sumℤ (portion i n (map (signed s) exact))) < d
unfolding amounts_of
amounts_near s d exact i n p =
    rw (
      portion_signed (signed s) (booked_from d 0 exact) i n,
      portion_signed (signed s) exact i n,
      sum_signed s (portion i n (booked_from d 0 exact)),
      sum_signed s (portion i n exact),
    )
    (signed_near s d (sum (portion i n (booked_from d 0 exact))) (sum (portion i n exact)) (portion_near d exact i n p))

quot_signed : (s : Direction) (m d : ℕ) → quot_z (signed s m) (pos d) ≡ signed s (m / d)
quot_signed negative m d = refl
quot_signed positive zero d = ap pos (zero-div d) ∙ ap (λ (n : ℕ). neg_ℤ (pos n)) (sym (zero-div d))
quot_signed positive (suc m) d = refl

-- the total is the exact total, rounded toward zero
pub amounts_total : (s : Direction) (d : ℕ) (exact : List ℕ) → 0 < d
    → sumℤ (amounts_of s d exact) ≡ quot_z (sumℤ (map (signed s) exact)) (pos d)
unfolding amounts_of
amounts_total s d exact p =
    sum_signed s (booked_from d 0 exact)
    ∙ ap (signed s) (omega (arith, booked_sum d 0 exact p, zero-div d, ap (λ (n : ℕ). n / d) (zero-add (sum exact))))
    ∙ sym (quot_signed s (sum exact) d) ∙ ap (λ z. quot_z z (pos d)) (sym (sum_signed s exact))

-- ---- the carry: the remainder alone is enough to go on

pub carried : (d before : ℕ) (ms : List ℕ) → 0 < d → booked_from d before ms ≡ carried_from d (before % d) ms
carried d before [] p = refl
carried d before (m ∷ ms) p =
    ap (λ (n : ℕ). n ∷ booked_from d (before + m) ms) step
    ∙ ap (λ (l : List ℕ). (before % d + m) / d ∷ l) (carried d (before + m) ms p ∙ ap (λ (n : ℕ). carried_from d n ms) (sym (mod-add-mod before d m)))
  where
    whole : (before + m) / d ≡ before / d + (before % d + m) / d
    whole = ap (λ (n : ℕ). n / d) (omega (arith, div-add-mod before d)) ∙ mul-add-div p (before / d) (before % d + m)

    step : (before + m) / d - before / d ≡ (before % d + m) / d
    step = omega (arith, whole)
