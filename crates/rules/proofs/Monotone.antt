-- Raised readings and running totals, on the quarters' readings alone.
use mathlib.Core.Path.{◌≡◌, refl, ◌∙◌, ap}
use mathlib.Core.List.{List, [], ◌∷◌, map}
use Prim.Native.Nat.{ℕ, zero, suc, ◌+◌, ◌*◌, ◌/◌, ◌≤◌, ◌<◌}
use native.Mathlib.Nat.{le_refl, zero-div, zero-add}
use native.Mathlib.Omega.{arith}
use lib.IntN.{ℤ, pos, ◌*ℤ◌}
use lib.Signed.{◌≤ℤ◌}
use lib.ListN.{take}
use Rattle.rules.specs.Numbers.{sum, sumℤ, or_zero}
use Rattle.rules.specs.Terms.{Direction, positive, negative, Execution, requested, tolerated, fixed, Terms, Quarter}
use Rattle.rules.specs.Reference.{limitation, curve_power, plant_factor, Reference, on_curve, last_measured, on_irradiance, by_factor, as_planned, denominator, numerator, magnitude, limit_of, reference_of, exact_of}
use Rattle.rules.specs.October.{Bounding, unbounded, reference_by_both, reference_by_nonavailability, limitation_by_nonavailability, bounding_of, reference_bounds, limitation_bounds}
use Rattle.rules.specs.Numbers.{smaller}
use Rattle.rules.specs.Booking.{signed, booked_from, amounts_of}
use Rattle.rules.proofs.Ints.{parts_le, neg_mono, times_mono, minus_mono, minus_anti, smaller_mono, larger_mono}
use Rattle.rules.proofs.October.{smallest_mono}
use Rattle.rules.proofs.Stretch.{booked_sum, booked_take, take_map, sum_signed, div_mono}

-- the second quarter has the first one's readings, but for a measured power and a limit that may be higher
pub record Higher (q q' : Quarter) : Type 0 where
  pub month : q.month ≡ q'.month
  pub quarter_of_day : q.quarter_of_day ≡ q'.quarter_of_day
  pub weather : q.weather ≡ q'.weather
  pub planned : q.planned ≡ q'.planned
  pub nonavailability : q.nonavailability ≡ q'.nonavailability
  pub market_adjustment : q.market_adjustment ≡ q'.market_adjustment
  pub measured : q.measured ≤ℤ q'.measured
  pub limit : q.limit ≤ℤ q'.limit

-- T is the same
numerator_same : (r : Reference) {q q' : Quarter} → Higher q q' → numerator r q ≡ numerator r q'
unfolding numerator
numerator_same (on_curve a b pn points) h = ap (λ w. smaller (a *ℤ pos (curve_power points (or_zero w))) (pos (pn * b))) h.weather
numerator_same (last_measured p0) h = refl
numerator_same (on_irradiance a b) h = ap (λ w. a *ℤ w) h.weather
numerator_same (by_factor pn) {q} {q'} h =
    ap (λ (m : ℕ). pos (pn * plant_factor m q.quarter_of_day)) h.month ∙ ap (λ (n : ℕ). pos (pn * plant_factor q'.month n)) h.quarter_of_day
numerator_same as_planned h = h.planned

-- L is no lower
limitation_mono : (s : Direction) (x : Execution) {m m' l l' : ℤ} → m ≤ℤ m' → l ≤ℤ l' → limitation s x m l ≤ℤ limitation s x m' l'
unfolding limitation
limitation_mono positive requested hm hl = smaller_mono hm hl
limitation_mono negative requested hm hl = larger_mono hm hl
limitation_mono s tolerated hm hl = hm
limitation_mono s fixed hm hl = hm

-- a higher amount in the direction's own sense: more curtailed is less where redispatch is positive
abbrev NoMore : Direction → ℕ → ℕ → Type 0
NoMore negative m m' = m' ≤ m
NoMore positive m m' = m ≤ m'

magnitude_falls : (s : Direction) (d : ℕ) (t : ℤ) {l l' : ℤ} → l ≤ℤ l' → NoMore s (magnitude s d t l) (magnitude s d t l')
unfolding magnitude
magnitude_falls negative d t h = minus_anti t (times_mono d h)
magnitude_falls positive d t h = minus_mono t (times_mono d h)

-- ---- with the bounds of October 2026

reference_bounds_same : (b : Bounding) {q q' : Quarter} → Higher q q' → reference_bounds b q ≡ reference_bounds b q'
reference_bounds_same unbounded h = refl
reference_bounds_same reference_by_both h = rw (h.nonavailability, h.market_adjustment)
reference_bounds_same reference_by_nonavailability h = rw h.nonavailability
reference_bounds_same limitation_by_nonavailability h = refl

limitation_bounds_same : (b : Bounding) {q q' : Quarter} → Higher q q' → limitation_bounds b q ≡ limitation_bounds b q'
limitation_bounds_same unbounded h = refl
limitation_bounds_same reference_by_both h = refl
limitation_bounds_same reference_by_nonavailability h = refl
limitation_bounds_same limitation_by_nonavailability h = rw h.nonavailability

-- T reads neither measured power nor limit
pub reference_same : (terms : Terms) (r : Reference) {q q' : Quarter} → Higher q q' → reference_of terms r q ≡ reference_of terms r q'
unfolding reference_of
reference_same terms r h = rw (numerator_same r h, reference_bounds_same (bounding_of terms) h)

-- L rises with them
pub limit_rises : (terms : Terms) {q q' : Quarter} → Higher q q' → limit_of terms q ≤ℤ limit_of terms q'
unfolding limit_of
limit_rises terms {q} {q'} h =
    rw (limitation_bounds_same (bounding_of terms) h)
    (smallest_mono (limitation_bounds (bounding_of terms) q') (limitation_mono terms.direction terms.execution h.measured h.limit))

exact_falls : (terms : Terms) (r : Reference) {q q' : Quarter} → Higher q q' → NoMore terms.direction (exact_of terms r q) (exact_of terms r q')
unfolding exact_of
exact_falls terms r {q} {q'} h =
    rw (reference_same terms r h) (magnitude_falls terms.direction (denominator r) (reference_of terms r q') (limit_rises terms h))

-- the same along two lists
pub data Along {A B : Type 0} (R : A → B → Type 0) : List A → List B → Type 0 where
  done : Along R [] []
  then : {a : A} {b : B} {as' : List A} {bs : List B} → R a b → Along R as' bs → Along R (a ∷ as') (b ∷ bs)

none_more : (s : Direction) → NoMore s 0 0
none_more negative = le_refl 0
none_more positive = le_refl 0

one_more : (s : Direction) (m m' n n' : ℕ) → NoMore s m m' → NoMore s n n' → NoMore s (m + n) (m' + n')
one_more negative m m' n n' h k = omega (arith, h, k)
one_more positive m m' n n' h k = omega (arith, h, k)

sum_falls : (terms : Terms) (r : Reference) (n : ℕ) {qs qs' : List Quarter} → Along Higher qs qs'
    → NoMore terms.direction (sum (take n (map (exact_of terms r) qs))) (sum (take n (map (exact_of terms r) qs')))
sum_falls terms r zero along = none_more terms.direction
sum_falls terms r (suc n) done = none_more terms.direction
sum_falls terms r (suc n) (then h along) = one_more terms.direction _ _ _ _ (exact_falls terms r h) (sum_falls terms r n along)

-- the running total after n quarters is the exact sum, rounded down, with its sign
pub running : (s : Direction) (d : ℕ) (exact : List ℕ) (n : ℕ) → 0 < d → sumℤ (take n (amounts_of s d exact)) ≡ signed s (sum (take n exact) / d)
unfolding amounts_of
running s d exact n p =
    ap sumℤ (take_map (signed s) n (booked_from d 0 exact) ∙ ap (map (signed s)) (booked_take n d 0 exact))
    ∙ sum_signed s (booked_from d 0 (take n exact))
    ∙ ap (signed s) (omega (arith, booked_sum d 0 (take n exact) p, zero-div d, ap (λ (m : ℕ). m / d) (zero-add (sum (take n exact)))))

signed_falls : (s : Direction) (d m m' : ℕ) → 0 < d → NoMore s m m' → signed s (m' / d) ≤ℤ signed s (m / d)
signed_falls negative d m m' p h = parts_le _ _ (omega (arith, div_mono {d = d} p h))
signed_falls positive d m m' p h = neg_mono (parts_le (pos (m / d)) (pos (m' / d)) (omega (arith, div_mono {d = d} p h)))

pub running_falls : (terms : Terms) (r : Reference) (d : ℕ) {qs qs' : List Quarter} → 0 < d → Along Higher qs qs' → (n : ℕ)
    → sumℤ (take n (amounts_of terms.direction d (map (exact_of terms r) qs'))) ≤ℤ sumℤ (take n (amounts_of terms.direction d (map (exact_of terms r) qs)))
running_falls terms r d {qs} {qs'} p along n =
    rw (running terms.direction d (map (exact_of terms r) qs) n p, running terms.direction d (map (exact_of terms r) qs') n p)
    (signed_falls terms.direction d _ _ p (sum_falls terms r n along))
