-- What a marked before-quarter adds to the sums A and B.
use Rattle.std.specs.Prelude.{ℕ, ◌+◌, ◌*◌, ◌≤◌, ◌<◌, ◌≡◌, cond, ◌&&◌, List, eqb, ltb, ℤ, pos, ◌+ℤ◌, length, Option, Some, None}
use Rattle.rules.specs.Outcome.{Outcome, refused, given, ◌>>◌, require}
use Rattle.rules.specs.Refusals.{out_of_range}
use Rattle.rules.specs.Numbers.{or_zero}
use Rattle.rules.specs.Terms.{Point, Before, is_power, is_speed, is_irradiance}
use Rattle.rules.specs.Reference.{curve_power}
use Rattle.rules.specs.Settle.{ten_percent}
use Rattle.units.specs.declared.Watt.{Watt}
use Rattle.curve.specs.declared.Curve.{Curve}
use Rattle.curve.specs.Tables.{Low, Tabulates}
use Rattle.comparison.specs.declared.Purpose.{Purpose}
use Rattle.comparison.specs.declared.Purpose.TheVariants.{Four, First, All}
use Rattle.comparison.specs.declared.Sums.{Sums}

-- ---- purposes

-- which marked before-quarters are used: for wind Spitz, by Pn and the points of the plant's curve, the first four; for Pauschal the
-- first one; for solar Spitz every one
pub data Choice : Type 0 where
  first_four : ℕ → List Point → Choice
  first_one : Choice
  every_one : Choice

-- the first four, by the points of the curve whose powers are lent beside the purpose
pub record MeansFour (pn : Watt) (curve : Curve) (powers : List ℕ) (choice : Choice) : Type 0 where
  pub points : List Point
  pub is : choice ≡ first_four (or_zero pn.0) points
  pub tabulates : Tabulates curve powers points

-- the choice that a purpose stands for, with the powers of its curve beside it
abbrev pub Means : Purpose → List ℕ → Choice → Type 0
Means (Four pn curve) powers choice = MeansFour pn curve powers choice
Means First powers choice = choice ≡ first_one
Means All powers choice = choice ≡ every_one

-- Pn is in range, and there is a power in range for every speed
pub record Scaled (pn : Watt) (powers : List ℕ) : Type 0 where
  pub natural : pn.0 ≡ pos (or_zero pn.0)
  pub nominal : or_zero pn.0 ≤ 1000000000
  pub size : length powers ≡ 1001
  pub low : Low powers

-- what a purpose asks of the powers beside it
abbrev pub Ready : Purpose → List ℕ → Type 0
Ready (Four pn curve) powers = Scaled pn powers
Ready First powers = Unit {0}
Ready All powers = Unit {0}

-- ---- sums

-- one more used
abbrev pub plus : Sums → ℕ → ℕ → Sums
plus s a b = record { used = s.used + 1; a = s.a + a; b = s.b + b }

-- one used, for its power alone
abbrev pub only_one : ℕ → Sums
only_one a = record { used = 1; a = a; b = 0 }

-- what every power in A is raised by
abbrev pub power_bias : ℕ
power_bias = 1000000000

abbrev pub raised : ℤ → ℕ
raised z = or_zero (z +ℤ pos power_bias)

-- a marked before-quarter: what is taken from it, or 9
unfoldable pub taken : Choice → Sums → Before → Outcome Sums
taken (first_four pn points) s x =
    cond (ltb s.used 4)
    (require (is_power x.measured) out_of_range
    >> cond (ten_percent pn x)
    (require (is_speed x.weather) out_of_range >> given (plus s (raised x.measured) (curve_power points (or_zero x.weather))))
    (given s))
    (given s)
taken first_one s x = cond (eqb s.used 0) (require (is_power x.measured) out_of_range >> given (only_one (raised x.measured))) (given s)
taken every_one s x =
    require (is_power x.measured && is_irradiance x.weather) out_of_range >> given (plus s (raised x.measured) (or_zero x.weather))

abbrev pub added_answer : Outcome Sums → Option Sums
added_answer (refused n) = None
added_answer (given s) = Some s

-- ---- how large the sums can be

-- each sum is of as many before-quarters as are used, 96 at most
pub record Room (s : Sums) : Type 0 where
  pub few : s.used ≤ 96
  pub low_a : s.a ≤ 2000000000 * s.used
  pub low_b : s.b ≤ 1000000000 * s.used

-- there is room for one more: a raised power, and a curve's power or an irradiance
pub record RoomFor (s : Sums) (a b : ℕ) : Type 0 where
  pub room : Room s
  pub few : s.used < 96
  pub low_a : a ≤ 2000000000
  pub low_b : b ≤ 1000000000

-- what a marked before-quarter needs: for wind Spitz, for solar Spitz, and for any purpose
pub record FourReady (pn : Watt) (powers : List ℕ) (s : Sums) : Type 0 where
  pub scaled : Scaled pn powers
  pub room : Room s

pub record AllReady (s : Sums) : Type 0 where
  pub room : Room s
  pub few : s.used < 96

pub record MarkedReady (purpose : Purpose) (powers : List ℕ) (s : Sums) : Type 0 where
  pub ready : Ready purpose powers
  pub room : Room s
  pub few : s.used < 96

-- one more used at most
pub record Grown (s t : Sums) : Type 0 where
  pub room : Room t
  pub one : t.used ≤ s.used + 1

abbrev pub RoomAdded : Sums → Option Sums → Type 0
RoomAdded s (Some t) = Grown s t
RoomAdded s None = Unit {0}
