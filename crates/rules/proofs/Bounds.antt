-- How large the numbers of a quarter can be: powers, factors, limits, the numbers of a reference, numerators, exact magnitudes.
use mathlib.Core.Path.{◌≡◌, refl, sym, ap, subst}
use mathlib.Core.Bool.{Bool, true, false, cond, ◌&&◌}
use mathlib.Core.List.{List, [], ◌∷◌, map}
use Prim.Native.Nat.{ℕ, suc, ◌+◌, ◌*◌, ◌≤◌, ◌<◌}
use native.Mathlib.Nat.{mul-le-mul, mul-le-mul_right}
use native.Mathlib.Omega.{arith}
use borrow.Author.Tests.{leb-true, eqb-true}
use lib.Dec.{T, leb, leb→le, ltb→lt}
use lib.IntN.{ℤ, pos, negsuc, ◌*ℤ◌}
use lib.Signed.{le_z, le_z_yes, mag}
use lib.ListN.{length, length-map}
use Rattle.rules.specs.Numbers.{all, keep, sum, or_zero, smaller, larger}
use Rattle.rules.specs.Archive.{Entry, byte_at, field_at}
use Rattle.rules.specs.Terms.{Technology, wind, solar, other, Variant, spitz, pauschal, Direction, positive, negative, Execution, requested, tolerated, fixed}
use Rattle.rules.specs.Terms.{is_power, is_speed, is_irradiance, is_marked, plant_allowed, Terms, Point, Before, Reading, none as absent, of, Quarter, before_of, point_of, point_allowed}
use Rattle.rules.specs.October.{Bounding, bounding_of, reference_bounds, limitation_bounds, over, smallest, reading_allowed}
use Rattle.rules.specs.Reference.{limitation, limit_of, reference_of, curve_power, FactorRow, factor_rows, is_summer, is_for, first_for, plant_factor}
use Rattle.rules.specs.Reference.{Reference, on_curve, last_measured, on_irradiance, by_factor, as_planned, denominator, numerator, magnitude, exact_of}
use Rattle.rules.specs.Settle.{admitted, Place, place_of, Basis, points_of, befores_of, marked, usable, up_to_used, total_measured, wind_basis, first_marked, pauschal_basis, solar_basis}
use Rattle.rules.specs.Settle.{basis_by, basis_of, limit_readable, reference_readable, bounds_readable, readable}
use Rattle.rules.proofs.Inversion.{Holds, holds_refused, holds_bind, holds_require, holds_given, All, none, more}
use Rattle.rules.proofs.Ints.{under, parts_eq, le_parts, or_zero_neg, under_neg, or_zero_add, under_add, or_zero_minus, or_zero_times, under_times, mag_parts, parts_mag, mag_times}
use Rattle.rules.proofs.Ranges.{within_natural, within_signed}
use Rattle.rules.proofs.Sound.{both}
use Rattle.rules.proofs.Lists.{all_passed, all_weaker, sum_low}
use Rattle.rules.proofs.Chains.{chain_few}
use Rattle.rules.proofs.October.{Low, smallest_low, smallest_over}
use Rattle.rules.proofs.Curve.{curve_low, on_curve_natural}

pub passes : {t : Bool} → T t → t ≡ true
passes {t = true} h = refl
passes {t = false} h = absurd h

-- ---- powers, limits, factors

-- no power in range is more than 1 GW away from 0
pub power_small : (z : ℤ) → is_power z ≡ true → mag z ≤ 1000000000
power_small z e =
    let w = within_signed 999999999 1000000000 z e in
    let m : mag z < 1000000001 = mag_parts z (omega (arith, w.0)) (omega (arith, w.1)) in
    omega arith

pick_small : (t : Bool) (a b : ℤ) (n : ℕ) → mag a ≤ n → mag b ≤ n → mag (cond t a b) ≤ n
pick_small true a b n h k = h
pick_small false a b n h k = k

-- nor is L
pub limit_small : (s : Direction) (x : Execution) (measured limit : ℤ) → limit_readable x measured limit ≡ true → mag (limitation s x measured limit) ≤ 1000000000
unfolding limitation smaller larger
limit_small s tolerated m l e = power_small m e
limit_small s fixed m l e = power_small m e
limit_small positive requested m l e = let b = both (is_power m) (is_power l) e in pick_small (le_z m l) m l _ (power_small m b.0) (power_small l b.1)
limit_small negative requested m l e = let b = both (is_power m) (is_power l) e in pick_small (le_z m l) l m _ (power_small l b.1) (power_small m b.0)

-- no factor is above 1
pub factor_small : (month q : ℕ) → plant_factor month q ≤ 10000
unfolding plant_factor factor_rows
factor_small month q = go (is_summer month) factor_rows refl
  where
    pick : (t : Bool) (n m : ℕ) → leb n 10000 ≡ true → m ≤ 10000 → cond t n m ≤ 10000
    pick true n m e h = leb-true n 10000 e
    pick false n m e h = h

    go : (summer : Bool) (rows : List FactorRow) → all (λ (r : FactorRow). leb r.factor 10000) rows ≡ true → first_for summer q rows ≤ 10000
    go summer [] e = omega arith
    go summer (r ∷ rs) e =
        let h = both (leb r.factor 10000) _ e in
        pick (is_for summer q r) r.factor (first_for summer q rs) h.0 (go summer rs h.1)

-- ---- the terms

-- Pn of a plant that refusal 6 lets pass
pub nominal_within : (plant : List ℕ) → plant_allowed plant ≡ true
    → (field_at plant 16 ≡ pos (or_zero (field_at plant 16))) × (100000 ≤ or_zero (field_at plant 16)) × (or_zero (field_at plant 16) ≤ 1000000000)
unfolding plant_allowed
nominal_within plant allowed =
    within_natural 100000 1000000000 (field_at plant 16)
    (both (leb 1 (byte_at plant 1) && leb (byte_at plant 1) 3 && (leb 1 (byte_at plant 2) && leb (byte_at plant 2) 2)) _ allowed).1

abbrev pub NominalLow : Terms → Type 0
NominalLow terms = terms.nominal_power ≤ 1000000000

pub admitted_low : (plant measure : List ℕ) → Holds NominalLow (admitted plant measure)
unfolding admitted
admitted_low plant measure = holds_require _ 6 _ (λ a. holds_require _ 7 _ (λ m. holds_given _ (nominal_within plant (passes a)).2))

pub place_low : (archive : List ℕ) (p k : ℕ) → Holds (λ place. NominalLow place.terms) (place_of archive p k)
unfolding place_of
place_low archive p k =
    holds_bind _ _ (λ used e. holds_bind _ _ (λ plant e. holds_bind _ _ (λ measure e. holds_bind _ _ (λ terms e.
    holds_given _ ((admitted_low plant.bytes measure.bytes).of terms e)))))

-- ---- the numbers of a reference

pub record CurveBounds (a : ℤ) (b pn : ℕ) : Type 0 where
  pub natural : a ≡ pos (or_zero a)
  pub a_low : or_zero a ≤ 4000000000
  pub some : 0 < b
  pub b_low : b ≤ 4000000000
  pub pn_low : pn ≤ 1000000000

pub record IrradianceBounds (a : ℤ) (b : ℕ) : Type 0 where
  pub a_low : mag a ≤ 96000000000
  pub some : 0 < b
  pub b_low : b ≤ 192000

abbrev pub Bounded : Reference → Type 0
Bounded (on_curve a b pn points) = CurveBounds a b pn
Bounded (last_measured p0) = mag p0 ≤ 1000000000
Bounded (on_irradiance a b) = IrradianceBounds a b
Bounded (by_factor pn) = pn ≤ 1000000000
Bounded as_planned = Unit {0}

pub record DenominatorBounds (d : ℕ) : Type 0 where
  pub some : 0 < d
  pub low : d ≤ 4000000000

pub denominator_bounded : (r : Reference) → Bounded r → DenominatorBounds (denominator r)
denominator_bounded (on_curve a b pn points) h = record { some = h.some; low = h.b_low }
denominator_bounded (last_measured p0) h = record { some = omega arith; low = omega arith }
denominator_bounded (on_irradiance a b) h = record { some = h.some; low = omega (arith, h.b_low) }
denominator_bounded (by_factor pn) h = record { some = omega arith; low = omega arith }
denominator_bounded as_planned h = record { some = omega arith; low = omega arith }

-- ---- numerators and exact magnitudes

-- a numerator over d that 64 bits hold, with T at most 198,000,000,000,000 W away from 0
pub record Small (d : ℕ) (t : ℤ) : Type 0 where
  pub fits : mag t ≤ 4000000000000000000
  pub near : mag t ≤ 198000000000000 * d

pub numerator_small : (r : Reference) (q : Quarter) → Bounded r → reference_readable r q ≡ true → Small (denominator r) (numerator r q)
unfolding numerator smaller
numerator_small (on_curve a b pn points) q h e =
    let cap : pn * b ≤ 1000000000 * b = mul-le-mul_right b h.pn_low in
    subst (λ (z : ℤ). Small b (numerator (on_curve z b pn points) q)) (sym h.natural)
    (subst (Small b) (sym (on_curve_natural (or_zero a) b pn points q)) (record { fits = omega (arith, cap, h.b_low); near = omega (arith, cap) }))
numerator_small (last_measured p0) q h e = record { fits = omega (arith, h); near = omega (arith, h) }
numerator_small (on_irradiance a b) q h e =
    let w = within_natural 0 2000 q.weather e in
    let m : mag (a *ℤ pos (or_zero q.weather)) < 96000000001 * 2000 + 1 = mag_times a (or_zero q.weather) 96000000001 2000 (omega (arith, h.a_low)) w.2 in
    subst (λ (z : ℤ). Small b (a *ℤ z)) (sym w.0) (record { fits = omega (arith, m); near = omega (arith, m, h.some) })
numerator_small (by_factor pn) q h e =
    let m : pn * plant_factor q.month q.quarter_of_day ≤ 1000000000 * 10000 = mul-le-mul h (factor_small q.month q.quarter_of_day) in
    record { fits = omega (arith, m); near = omega (arith, m) }
numerator_small as_planned q h e = let m = power_small q.planned e in record { fits = omega (arith, m); near = omega (arith, m) }

magnitude_bound : (s : Direction) (d : ℕ) (t l : ℤ) → mag t ≤ 198000000000000 * d → mag l ≤ 1000000000 → 0 < d → magnitude s d t l ≤ 200000000000000 * d
unfolding magnitude
magnitude_bound s d t l ht hl some = go s
  where
    tp : (or_zero t < 198000000000000 * d + 1) × (under t ≤ 198000000000000 * d + 1)
    tp = parts_mag t (omega (arith, ht))

    lp : (or_zero l < 1000000001) × (under l ≤ 1000000001)
    lp = parts_mag l (omega (arith, hl))

    above : or_zero l * d ≤ 1000000001 * d
    above = mul-le-mul_right d (omega (arith, lp.0))

    below : under l * d ≤ 1000000001 * d
    below = mul-le-mul_right d lp.1

    go : (s : Direction) → magnitude s d t l ≤ 200000000000000 * d
    go negative = omega (arith, or_zero_minus t (l *ℤ pos d), or_zero_times l d, under_times l d, tp.0, below, some)
    go positive = omega (arith, or_zero_minus (l *ℤ pos d) t, or_zero_times l d, under_times l d, tp.1, above, some)

-- ---- with the bounds of October 2026

readings_low : (rs : List Reading) → all reading_allowed rs ≡ true → All (Low 1000000000) rs
readings_low [] e = none
readings_low (r ∷ rs) e = let b = both (reading_allowed r) (all reading_allowed rs) e in more (go r b.0) (readings_low rs b.1)
  where
    go : (r : Reading) → reading_allowed r ≡ true → Low 1000000000 r
    go absent h = tt
    go (of power) h = power_small power h

pub smallest_small : (rs : List Reading) (n : ℤ) → mag n ≤ 1000000000 → all reading_allowed rs ≡ true → mag (smallest n rs) ≤ 1000000000
smallest_small rs n h e = smallest_low rs n 1000000000 h (readings_low rs e)

bounded_reference_small : (b : Bounding) (q : Quarter) (d : ℕ) (t : ℤ) → DenominatorBounds d → Small d t → all reading_allowed (reference_bounds b q) ≡ true
    → Small d (smallest t (map (over d) (reference_bounds b q)))
bounded_reference_small b q d t h small e = record {
  fits = smallest_over d _ t (reference_bounds b q) (omega (arith, h.low)) small.fits e;
  near = smallest_over d _ t (reference_bounds b q) (omega arith) small.near e;
}

-- every readable quarter: at most 200,000,000,000,000 W over 4 h
pub exact_small : (terms : Terms) (r : Reference) (q : Quarter) → Bounded r → readable terms r q ≡ true → exact_of terms r q ≤ 200000000000000 * denominator r
unfolding exact_of limit_of reference_of
exact_small terms r q h e =
    let tests = both (limit_readable terms.execution q.measured q.limit && reference_readable r q) (bounds_readable (bounding_of terms) q) e in
    let needed = both (limit_readable terms.execution q.measured q.limit) (reference_readable r q) tests.0 in
    let bounds = both (all reading_allowed (reference_bounds (bounding_of terms) q)) (all reading_allowed (limitation_bounds (bounding_of terms) q)) tests.1 in
    let d = denominator_bounded r h in
    magnitude_bound terms.direction (denominator r) _ _
    (bounded_reference_small (bounding_of terms) q (denominator r) (numerator r q) d (numerator_small r q h needed.1) bounds.0).near
    (smallest_small (limitation_bounds (bounding_of terms) q) _ (limit_small terms.direction terms.execution q.measured q.limit needed.0) bounds.1) d.some

-- ---- lists

module _ {A : Type 0} where
  kept : (p test : A → Bool) (xs : List A) → all p xs ≡ true → All (λ x. (test x ≡ true) × (p x ≡ true)) (keep test xs)
  kept p test [] e = none
  kept p test (x ∷ xs) e = let b = both (p x) (all p xs) e in go (test x) refl b.0 (kept p test xs b.1)
    where
      go : (t : Bool) → test x ≡ t → p x ≡ true → All (λ y. (test y ≡ true) × (p y ≡ true)) (keep test xs)
          → All (λ y. (test y ≡ true) × (p y ≡ true)) (cond t (x ∷ keep test xs) (keep test xs))
      go true f h r = more (f, h) r
      go false f h r = r

  all_mapped : {B : Type 0} {P : B → Type 0} (f : A → B) (xs : List A) → All (λ x. P (f x)) xs → All P (map f xs)
  all_mapped f [] none = none
  all_mapped f (x ∷ xs) (more h hs) = more h (all_mapped f xs hs)

keep_length : (test : Entry → Bool) (es : List Entry) → length (map (λ e. before_of e.bytes) (keep test es)) ≤ length es
keep_length test [] = omega arith
keep_length test (e ∷ es) = go (test e) (keep_length test es)
  where
    go : (t : Bool) → length (map (λ x. before_of x.bytes) (keep test es)) ≤ length es
        → length (map (λ x. before_of x.bytes) (cond t (e ∷ keep test es) (keep test es))) ≤ suc (length es)
    go true h = omega arith
    go false h = omega arith

-- ---- sums of powers

sum_parts : (xs : List Before) → All (λ x. is_power x.measured ≡ true) xs
    → (or_zero (total_measured xs) ≤ length xs * 1000000000) × (under (total_measured xs) ≤ length xs * 1000000000)
sum_parts [] none = omega arith
sum_parts (x ∷ xs) (more h hs) =
    let r = sum_parts xs hs in
    let p = within_signed 999999999 1000000000 x.measured h in
    (omega (arith, or_zero_add x.measured (total_measured xs)), omega (arith, under_add x.measured (total_measured xs)))

sum_natural : (xs : List Before) → All (λ x. under x.measured ≡ 0) xs → under (total_measured xs) ≡ 0
sum_natural [] none = refl
sum_natural (x ∷ xs) (more h hs) = omega (arith, h, sum_natural xs hs, under_add x.measured (total_measured xs))

natural : (z : ℤ) → under z ≡ 0 → z ≡ pos (or_zero z)
natural z e = parts_eq z (pos (or_zero z)) (omega arith)

pub ten_above : (z : ℤ) → or_zero (pos 10 *ℤ z) ≡ 10 * or_zero z
ten_above (pos n) = refl
ten_above (negsuc n) = or_zero_neg (pos (10 * suc n))

pub ten_under : (z : ℤ) → under (pos 10 *ℤ z) ≡ 10 * under z
ten_under (pos n) = refl
ten_under (negsuc n) = under_neg (pos (10 * suc n))

-- a power that meets the 10 % test isn't below zero
pub tenth_natural : (pn : ℕ) (z : ℤ) → le_z (pos pn) (pos 10 *ℤ z) ≡ true → z ≡ pos (or_zero z)
tenth_natural pn (pos n) e = refl
tenth_natural pn (negsuc n) e =
    absurd (omega (
      arith,
      le_parts {a = pos pn} {b = pos 10 *ℤ negsuc n} (le_z_yes (subst T (sym e) tt)),
      ten_above (negsuc n),
      ten_under (negsuc n),
    ))

-- ---- the basis of each pairing

-- what a basis keeps to: the numbers of its reference, and the links followed for it
pub record Basic (b : Basis) : Type 0 where
  pub bounded : Bounded b.reference
  pub links_few : b.links ≤ 131072

-- wind Spitz
module _ (pn : ℕ) (low : pn ≤ 1000000000) (points : List Point) (powers : All (λ x. x.power ≤ 1000000000) points) where
  four_bounded : (tested : List Before) (b : ℕ) → let four = keep (usable pn) tested in
      (all (λ x. is_power x.measured) tested ≡ true) → length four ≡ 4 → b ≡ sum (map (λ x. curve_power points (or_zero x.weather)) four) → 0 < b
      → CurveBounds (total_measured four) b pn
  four_bounded tested b range count e some =
      let four = keep (usable pn) tested in
      let ks = kept (λ x. is_power x.measured) (usable pn) tested range in
      let parts = sum_parts four (all_weaker four (λ x h. h.1) ks) in
      let u = sum_natural four (all_weaker four (λ x h. ap under (tenth_natural pn x.measured h.0)) ks) in
      let s = sum_low (λ x. curve_power points (or_zero x.weather)) 1000000000 four (all_weaker four (λ x h. curve_low 1000000000 points (or_zero x.weather) powers) ks) in
      record {
        natural = natural (total_measured four) u;
        a_low = omega (arith, parts.0, count);
        some = some;
        b_low = omega (arith, s, count, e);
        pn_low = low;
      }

  wind_basic : (entries : List Entry) → length points ≤ 65535 → length entries ≤ 96 → Holds Basic (wind_basis pn points entries)
  unfolding wind_basis
  wind_basic entries h k =
      let tested = up_to_used (usable pn) 4 (marked entries) in
      holds_require _ 9 _ (λ r. holds_require _ 11 _ (λ n. holds_require _ 12 _ (λ b.
      holds_given _ (record {
        bounded = four_bounded tested _ (both (all (λ x. is_power x.measured) tested) _ (passes r)).0 (eqb-true (length (keep (usable pn) tested)) 4 (passes n)) refl (ltb→lt 0 _ b);
        links_few = omega arith;
      }))))

-- the points of a curve are in range
point_low : (r : List ℕ) → point_allowed r ≡ true → (point_of r).power ≤ 1000000000
unfolding point_allowed point_of
point_low r h = (within_natural 0 1000000000 (field_at r 12) (both (is_speed (field_at r 8)) _ h).1).2

points_low : (archive : List ℕ) (place : Place) → Holds (All (λ x. x.power ≤ 1000000000)) (points_of archive place)
unfolding points_of
points_low archive place =
    holds_bind _ _ (λ entries e. holds_require _ 9 _ (λ r. holds_require _ 10 _ (λ u.
    holds_given _ (all_mapped (λ e. point_of e.bytes) entries
    (all_weaker entries (λ e h. point_low e.bytes h) (all_passed (λ e. point_allowed e.bytes) entries (passes r)))))))

pub points_few : (archive : List ℕ) (place : Place) → Holds (λ points. length points ≤ place.used) (points_of archive place)
unfolding points_of
points_few archive place =
    holds_bind _ _ (λ entries e. holds_require _ 9 _ (λ t. holds_require _ 10 _ (λ u.
    holds_given _ (omega (arith, length-map entries (λ e. point_of e.bytes), (chain_few archive place.used 2 _ _).of entries e)))))

pub befores_few : (archive : List ℕ) (place : Place) → Holds (λ entries. length entries ≤ 96) (befores_of archive place)
unfolding befores_of
befores_few archive place =
    holds_bind _ _ (λ entries e. holds_require _ 8 _ (λ r. holds_require _ 9 _ (λ u. holds_given _ (leb→le (length entries) 96 r))))

-- wind and other Pauschal
first_basic : (xs : List Before) (links : ℕ) → links ≤ 131072 → Holds Basic (first_marked xs links)
unfolding first_marked
first_basic [] links few = holds_refused 11
first_basic (x ∷ xs) links few = holds_require _ 9 _ (λ r. holds_given _ (record { bounded = power_small x.measured (passes r); links_few = few }))

module _ (archive : List ℕ) (place : Place) where
  pauschal_basic : Holds Basic (pauschal_basis archive place)
  pauschal_basic = holds_bind _ _ (λ entries e. first_basic (marked entries) (length entries) (omega (arith, (befores_few archive place).of entries e)))

-- solar Spitz
all_bounded : (xs : List Before) (b : ℕ) → all (λ x. is_power x.measured && is_irradiance x.weather) xs ≡ true → length xs ≤ 96
    → b ≡ sum (map (λ x. or_zero x.weather) xs) → 0 < b → IrradianceBounds (total_measured xs) b
all_bounded xs b range few e some =
    let ks = all_passed (λ x. is_power x.measured && is_irradiance x.weather) xs range in
    let parts = sum_parts xs (all_weaker xs (λ x h. (both (is_power x.measured) _ h).0) ks) in
    let s = sum_low (λ x. or_zero x.weather) 2000 xs (all_weaker xs (λ x h. (within_natural 0 2000 x.weather (both (is_power x.measured) _ h).1).2) ks) in
    let m : mag (total_measured xs) < 96000000001 = mag_parts (total_measured xs) (omega (arith, parts.0, few)) (omega (arith, parts.1, few)) in
    record { a_low = omega (arith, m); some = some; b_low = omega (arith, s, few, e) }

solar_basic : (xs : List Before) (links : ℕ) → length xs ≤ 96 → links ≤ 131072 → Holds Basic (solar_basis xs links)
unfolding solar_basis
solar_basic xs links few links_few =
    holds_require _ 9 _ (λ r. holds_require _ 11 _ (λ n. holds_require _ 12 _ (λ b.
    holds_given _ (record { bounded = all_bounded xs _ (passes r) few refl (ltb→lt 0 _ b); links_few = links_few }))))

-- ---- every pairing

module _ (archive : List ℕ) (place : Place) (low : NominalLow place.terms) (used : place.used ≤ 65535) where
  by_basic : (t : Technology) (v : Variant) → Holds Basic (basis_by t v archive place)
  unfolding basis_by
  by_basic wind spitz =
      holds_bind _ _ (λ points f. holds_bind _ _ (λ entries g.
      wind_basic place.terms.nominal_power low points ((points_low archive place).of points f) entries
      (omega (arith, (points_few archive place).of points f)) ((befores_few archive place).of entries g)))
  by_basic wind pauschal = pauschal_basic archive place
  by_basic solar spitz =
      holds_bind _ _ (λ entries f.
      let few : length entries ≤ 96 = (befores_few archive place).of entries f in
      solar_basic (marked entries) (length entries) (omega (arith, keep_length (λ e. is_marked e.bytes) entries)) (omega arith))
  by_basic solar pauschal = holds_given _ (record { bounded = low; links_few = omega arith })
  by_basic other spitz = holds_given _ (record { bounded = tt; links_few = omega arith })
  by_basic other pauschal = pauschal_basic archive place

  pub basis_basic : Holds Basic (basis_of archive place)
  basis_basic = by_basic place.terms.technology place.terms.variant
