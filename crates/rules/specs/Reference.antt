-- From readings to exact fractions (01): limitation value, power curve, plant factor, reference power, exact magnitude.
use Rattle.std.specs.Prelude.{ℕ, ◌+◌, ◌*◌, ◌-◌, ◌/◌, Bool, true, false, cond, ◌&&◌, ◌||◌, List, [], ◌∷◌, map, leb, ltb, ℤ, pos, ◌-ℤ◌, ◌*ℤ◌}
use Rattle.std.specs.Bool.{beq}
use Rattle.rules.specs.Numbers.{smaller, larger, or_zero}
use Rattle.rules.specs.Terms.{Direction, positive, negative, Execution, requested, tolerated, fixed, Terms, Point, Quarter}
use Rattle.rules.specs.October.{bounding_of, reference_bounds, limitation_bounds, over, smallest}
pub use Rattle.rules.specs.declared.FactorRow.{FactorRow}

-- ---- limitation value L (Wert der Leistungslimitierung, 001, 3.1)

-- from measured power and sent limit; it may be negative and isn't raised to zero
unfoldable pub limitation : Direction → Execution → ℤ → ℤ → ℤ
limitation positive requested measured limit = smaller measured limit
limitation negative requested measured limit = larger measured limit
limitation direction tolerated measured limit = measured
limitation direction fixed measured limit = measured

-- ---- power curve (001, 3.2.2.1)

-- a speed is below the first point, on the curve with a power, or above the last point
pub data CurveReading : Type 0 where
  below : CurveReading
  on : (power : ℕ) → CurveReading
  above : CurveReading

-- the straight line's value between two points, rounded down to whole W
abbrev pub line_at : Point → Point → ℕ → ℕ
line_at a b speed = (a.power * (b.speed - speed) + b.power * (speed - a.speed)) / (b.speed - a.speed)

-- the curve at a speed; at a point its power
unfoldable pub read_curve : List Point → ℕ → CurveReading
read_curve [] speed = above
read_curve (a ∷ []) speed = cond (ltb speed a.speed) below (cond (ltb a.speed speed) above (on a.power))
read_curve (a ∷ b ∷ rest) speed =
    cond (ltb speed a.speed) below (cond (ltb speed b.speed) (on (line_at a b speed)) (read_curve (b ∷ rest) speed))

-- below the first and above the last, 0
abbrev pub power_of : CurveReading → ℕ
power_of below = 0
power_of (on power) = power
power_of above = 0

unfoldable pub curve_power : List Point → ℕ → ℕ
curve_power points speed = power_of (read_curve points speed)

-- ---- plant factor (Anlagenfaktor, 001, 3.2.3.3), in ten-thousandths

abbrev row : Bool → ℕ → ℕ → ℕ → FactorRow
row summer from until factor = record { summer = summer; from = from; until = until; factor = factor }

-- the eight rows: summer or not, from this quarter of the day until that one (0:00 is 0, 6:00 is 24), factor
unfoldable pub factor_rows : List FactorRow
factor_rows =
    row true 76 24 0 ∷ row true 24 36 2456 ∷ row true 36 60 6189 ∷ row true 60 76 2456
    ∷ row false 67 36 0 ∷ row false 36 40 2796 ∷ row false 40 56 5030 ∷ row false 56 67 2796 ∷ []

abbrev pub is_summer : ℕ → Bool
is_summer month = leb 3 month && leb month 10

-- a row is for this season and quarter of the day; it goes over midnight where `until` is the smaller
unfoldable pub is_for : Bool → ℕ → FactorRow → Bool
is_for summer quarter r =
    beq r.summer summer
    && cond (ltb r.from r.until) (leb r.from quarter && ltb quarter r.until) (leb r.from quarter || ltb quarter r.until)

-- the lookup rule: the factor of the first row that is for it
abbrev pub first_for : Bool → ℕ → List FactorRow → ℕ
first_for summer quarter [] = 0
first_for summer quarter (r ∷ rs) = cond (is_for summer quarter r) r.factor (first_for summer quarter rs)

unfoldable pub plant_factor : ℕ → ℕ → ℕ
plant_factor month quarter = first_for (is_summer month) quarter factor_rows

-- ---- reference power T

-- how a measure's T is found, with what its plant and its before-quarters give
pub data Reference : Type 0 where
  -- wind Spitz (001, 3.2.2.1): A × t / B, capped at Pn
  on_curve : (a : ℤ) (b pn : ℕ) (points : List Point) → Reference
  -- wind and other Pauschal (001, 3.2.2.3 and 3.3.2): P0
  last_measured : (p0 : ℤ) → Reference
  -- solar Spitz (001, 3.2.3.1): A × g / B, no cap
  on_irradiance : (a : ℤ) (b : ℕ) → Reference
  -- solar Pauschal (001, 3.2.3.3): Pn × factor / 10,000
  by_factor : (pn : ℕ) → Reference
  -- other Spitz (001, 3.3.1): the planned power
  as_planned : Reference

-- D, the one denominator of every T of the measure
abbrev pub denominator : Reference → ℕ
denominator (on_curve a b pn points) = b
denominator (last_measured p0) = 1
denominator (on_irradiance a b) = b
denominator (by_factor pn) = 10000
denominator as_planned = 1

-- the numerator of a quarter's T over D
unfoldable pub numerator : Reference → Quarter → ℤ
numerator (on_curve a b pn points) q = smaller (a *ℤ pos (curve_power points (or_zero q.weather))) (pos (pn * b))
numerator (last_measured p0) q = p0
numerator (on_irradiance a b) q = a *ℤ q.weather
numerator (by_factor pn) q = pos (pn * plant_factor q.month q.quarter_of_day)
numerator as_planned q = q.planned

-- ---- exact magnitude

-- numerator of (T - L) / 4, or of (L - T) / 4 in the positive direction, over 4 × D, with T = t / D; 0 if that is below 0
unfoldable pub magnitude : Direction → ℕ → ℤ → ℤ → ℕ
magnitude negative d t l = or_zero (t -ℤ l *ℤ pos d)
magnitude positive d t l = or_zero (l *ℤ pos d -ℤ t)

-- a quarter's L, with what bounds it from October 2026 on (02, 3)
unfoldable pub limit_of : Terms → Quarter → ℤ
limit_of terms q =
    smallest (limitation terms.direction terms.execution q.measured q.limit) (limitation_bounds (bounding_of terms) q)

-- the numerator of a quarter's T over D, with what bounds it from October 2026 on: powers times D (02, 3)
unfoldable pub reference_of : Terms → Reference → Quarter → ℤ
reference_of terms reference q = smallest (numerator reference q) (map (over (denominator reference)) (reference_bounds (bounding_of terms) q))

unfoldable pub exact_of : Terms → Reference → Quarter → ℕ
exact_of terms reference q = magnitude terms.direction (denominator reference) (reference_of terms reference q) (limit_of terms q)
