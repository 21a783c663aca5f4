-- The power curve below its first point, at a point, between two points and above the last (01, 'Curve'), and the reference power on it.
use mathlib.Core.Path.{◌≡◌, refl, ◌∙◌, ap}
use mathlib.Core.Bool.{Bool, true, false, cond}
use mathlib.Core.List.{List, [], ◌∷◌, ◌++◌}
use Prim.Native.Nat.{ℕ, ◌+◌, ◌*◌, ◌-◌, ◌/◌, ◌≤◌, ◌<◌, min}
use native.Mathlib.Nat.{mul-div_cancel, le_refl, le_of_lt, mul-add, mul_comm, mul-le-mul_right, div-le_of_le-mul}
use native.Mathlib.Omega.{arith}
use borrow.Author.Tests.{lt-ltb, le-ltb, ltb-true, ltb-false}
use lib.Dec.{T, ltb, ltb→lt}
use lib.IntN.{pos}
use Rattle.rules.specs.Numbers.{or_zero}
use Rattle.rules.specs.Terms.{Point, Quarter}
use Rattle.rules.specs.Reference.{read_curve, below, on, above, line_at, power_of, curve_power, on_curve, numerator}
use Rattle.rules.specs.Settle.{rising}
use Rattle.rules.proofs.Ints.{natural_smaller}
use Rattle.rules.proofs.Inversion.{both_left, both_right, All, none, more}

pub below_first : (a : Point) (rest : List Point) (v : ℕ) → v < a.speed → read_curve (a ∷ rest) v ≡ below
unfolding read_curve
below_first a [] v h = rw (lt-ltb v a.speed h)
below_first a (b ∷ rest) v h = rw (lt-ltb v a.speed h)

pub above_last : (points : List Point) (v : ℕ) → All (λ x. x.speed < v) points → read_curve points v ≡ above
unfolding read_curve
above_last [] v none = refl
above_last (a ∷ []) v (more h none) = rw (le-ltb v a.speed (le_of_lt h), lt-ltb a.speed v h)
above_last (a ∷ b ∷ rest) v (more h (more k ks)) =
    rw (le-ltb v a.speed (le_of_lt h), le-ltb v b.speed (le_of_lt k)) (above_last (b ∷ rest) v (more k ks))

rises : (a b : Point) (rest : List Point) → T (rising (a ∷ b ∷ rest)) → a.speed < b.speed
rises a b rest t = ltb→lt a.speed b.speed (both_left (ltb a.speed b.speed) (rising (b ∷ rest)) t)

rises_on : (a b : Point) (rest : List Point) → T (rising (a ∷ b ∷ rest)) → T (rising (b ∷ rest))
rises_on a b rest t = both_right (ltb a.speed b.speed) (rising (b ∷ rest)) t

-- from the second point on, the first does not matter
skip : (a b : Point) (rest : List Point) (v : ℕ) → a.speed ≤ v → b.speed ≤ v → read_curve (a ∷ b ∷ rest) v ≡ read_curve (b ∷ rest) v
unfolding read_curve
skip a b rest v h k = rw (le-ltb v a.speed h, le-ltb v b.speed k)

-- points in front whose curve goes on to a point that is not above the speed
pub from_point : (front : List Point) (a : Point) (rest : List Point) (v : ℕ) → T (rising (front ++ a ∷ rest)) → a.speed ≤ v
    → read_curve (front ++ a ∷ rest) v ≡ read_curve (a ∷ rest) v
from_point [] a rest v t h = refl
from_point (x ∷ []) a rest v t h = skip x a rest v (omega (arith, rises x a rest t)) h
from_point (x ∷ y ∷ front) a rest v t h =
    skip x y (front ++ a ∷ rest) v (omega (arith, rises x y (front ++ a ∷ rest) t, low front y (rises_on x y (front ++ a ∷ rest) t)))
    (low front y (rises_on x y (front ++ a ∷ rest) t))
    ∙ from_point (y ∷ front) a rest v (rises_on x y (front ++ a ∷ rest) t) h
  where
    -- a point in front is no higher than the speed
    low : (front : List Point) (y : Point) → T (rising (y ∷ front ++ a ∷ rest)) → y.speed ≤ v
    low [] y u = omega (arith, rises y a rest u, h)
    low (z ∷ zs) y u = omega (arith, rises y z (zs ++ a ∷ rest) u, low zs z (rises_on y z (zs ++ a ∷ rest) u))

-- the straight line, rounded down
pub between : (front : List Point) (a b : Point) (rest : List Point) (v : ℕ) → T (rising (front ++ a ∷ b ∷ rest)) → a.speed ≤ v → v < b.speed
    → read_curve (front ++ a ∷ b ∷ rest) v ≡ on (line_at a b v)
unfolding read_curve
between front a b rest v t h k = from_point front a (b ∷ rest) v t h ∙ rw (le-ltb v a.speed h, lt-ltb v b.speed k)

-- at its left point the line has that point's power
line_left : (a b : Point) → a.speed < b.speed → line_at a b a.speed ≡ a.power
line_left a b h = ap (λ (n : ℕ). n / (b.speed - a.speed)) whole ∙ mul-div_cancel a.power (omega arith)
  where
    zero_diff : (n : ℕ) → n - n ≡ 0
    zero_diff n = omega arith

    whole : a.power * (b.speed - a.speed) + b.power * (a.speed - a.speed) ≡ a.power * (b.speed - a.speed)
    whole = rw (zero_diff a.speed) (omega arith)

first_point_lem : (a : Point) (rest : List Point) → T (rising (a ∷ rest)) → read_curve (a ∷ rest) a.speed ≡ on a.power
unfolding read_curve
first_point_lem a [] t = rw (le-ltb a.speed a.speed (le_refl a.speed))
first_point_lem a (b ∷ rest) t =
    rw (le-ltb a.speed a.speed (le_refl a.speed), lt-ltb a.speed b.speed (rises a b rest t))
    (ap on (line_left a b (rises a b rest t)))

pub at_point : (front : List Point) (a : Point) (rest : List Point) → T (rising (front ++ a ∷ rest)) → read_curve (front ++ a ∷ rest) a.speed ≡ on a.power
at_point front a rest t = from_point front a rest a.speed t (le_refl a.speed) ∙ first_point_lem a rest (later front t)
  where
    later : (front : List Point) → T (rising (front ++ a ∷ rest)) → T (rising (a ∷ rest))
    later [] u = u
    later (x ∷ []) u = rises_on x a rest u
    later (x ∷ y ∷ front) u = later (y ∷ front) (rises_on x y (front ++ a ∷ rest) u)

-- a factor of 0 or more: the reference power is the smaller of two natural numbers
pub on_curve_natural : (a b pn : ℕ) (points : List Point) (q : Quarter)
    → numerator (on_curve (pos a) b pn points) q ≡ pos (min (a * curve_power points (or_zero q.weather)) (pn * b))
unfolding numerator
on_curve_natural a b pn points q = natural_smaller (a * curve_power points (or_zero q.weather)) (pn * b)

-- ---- no power on a curve is above the highest of its points

pub line_low : (a b : Point) (v top : ℕ) → a.speed ≤ v → v < b.speed → a.power ≤ top → b.power ≤ top → line_at a b v ≤ top
line_low a b v top from until ha hb = div-le_of_le-mul (b.speed - a.speed) (omega (
  arith,
  mul-le-mul_right (b.speed - v) ha,
  mul-le-mul_right (v - a.speed) hb,
  mul-add top (b.speed - v) (v - a.speed),
  ap (λ (w : ℕ). top * w) whole,
  mul_comm top (b.speed - a.speed),
))
  where
    whole : b.speed - v + (v - a.speed) ≡ b.speed - a.speed
    whole = omega arith

reading_low : (top : ℕ) (points : List Point) (v : ℕ) → All (λ x. x.power ≤ top) points → power_of (read_curve points v) ≤ top
unfolding read_curve
reading_low top [] v none = omega arith
reading_low top (a ∷ []) v (more h none) = go (ltb v a.speed) (ltb a.speed v)
  where
    go : (t u : Bool) → power_of (cond t below (cond u above (on a.power))) ≤ top
    go true u = omega arith
    go false true = omega arith
    go false false = h
reading_low top (a ∷ b ∷ rest) v (more h (more k ks)) = go (ltb v a.speed) refl (ltb v b.speed) refl (reading_low top (b ∷ rest) v (more k ks))
  where
    go : (t : Bool) → ltb v a.speed ≡ t → (u : Bool) → ltb v b.speed ≡ u → power_of (read_curve (b ∷ rest) v) ≤ top
        → power_of (cond t below (cond u (on (line_at a b v)) (read_curve (b ∷ rest) v))) ≤ top
    go true e u f r = omega arith
    go false e true f r = line_low a b v top (ltb-false v a.speed e) (ltb-true v b.speed f) h k
    go false e false f r = r

pub curve_low : (top : ℕ) (points : List Point) (v : ℕ) → All (λ x. x.power ≤ top) points → curve_power points v ≤ top
unfolding curve_power
curve_low top points v h = reading_low top points v h
