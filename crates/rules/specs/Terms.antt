-- The terms of Annex 1 (001, chapter 3) as 01, 'The archive', files them: plants, curve points, measures, before-quarters, quarters.
use Rattle.std.specs.Prelude.{ℕ, ◌+◌, Bool, cond, ◌&&◌, ◌||◌, List, eqb, leb, ℤ, pos, neg_ℤ}
use Rattle.rules.specs.Numbers.{within, or_zero}
use Rattle.rules.specs.Archive.{byte_at, link_at, field_at}
use Rattle.rules.specs.Calendar.{date_of, day_of, quarter_of_day}
pub use Rattle.rules.specs.declared.Technology.{Technology}
pub use Rattle.rules.specs.declared.Technology.TheVariants.{Wind as wind, Solar as solar, Other as other}
pub use Rattle.rules.specs.declared.Variant.{Variant}
pub use Rattle.rules.specs.declared.Variant.TheVariants.{Spitz as spitz, Pauschal as pauschal}
pub use Rattle.rules.specs.declared.Direction.{Direction}
pub use Rattle.rules.specs.declared.Direction.TheVariants.{Positive as positive, Negative as negative}
pub use Rattle.rules.specs.declared.Execution.{Execution}
pub use Rattle.rules.specs.declared.Execution.TheVariants.{Requested as requested, Tolerated as tolerated, Fixed as fixed}

-- ---- ranges (01, 'From readings to exact fractions'); power in W, speed in tenths of m/s, irradiance in W/m²

abbrev pub is_nominal_power : ℤ → Bool
is_nominal_power = within (pos 100000) (pos 1000000000)

-- measured power, limit and plan
abbrev pub is_power : ℤ → Bool
is_power = within (neg_ℤ (pos 1000000000)) (pos 1000000000)

abbrev pub is_curve_power : ℤ → Bool
is_curve_power = within (pos 0) (pos 1000000000)

abbrev pub is_speed : ℤ → Bool
is_speed = within (pos 0) (pos 1000)

abbrev pub is_irradiance : ℤ → Bool
is_irradiance = within (pos 0) (pos 2000)

-- ---- plant

-- byte 1: 1 wind, 2 solar, 3 other
abbrev pub technology_of : List ℕ → Technology
technology_of plant = cond (eqb (byte_at plant 1) 1) wind (cond (eqb (byte_at plant 1) 2) solar other)

-- byte 2: 1 Spitz, 2 Pauschal
abbrev pub variant_of : List ℕ → Variant
variant_of plant = cond (eqb (byte_at plant 2) 1) spitz pauschal

-- bytes 16-19: nominal power Pn
abbrev pub nominal_power : List ℕ → ℕ
nominal_power plant = or_zero (field_at plant 16)

-- what refusal 6 tests, in every technology and variant
unfoldable pub plant_allowed : List ℕ → Bool
plant_allowed plant =
    leb 1 (byte_at plant 1) && leb (byte_at plant 1) 3 && (leb 1 (byte_at plant 2) && leb (byte_at plant 2) 2)
    && is_nominal_power (field_at plant 16)

-- ---- measure

-- byte 1: 1 positive, 2 negative
abbrev pub direction_of : List ℕ → Direction
direction_of measure = cond (eqb (byte_at measure 1) 1) positive negative

-- byte 2: 1 requested, 2 tolerated, 3 requested with both sides fixed
abbrev pub execution_of : List ℕ → Execution
execution_of measure = cond (eqb (byte_at measure 2) 1) requested (cond (eqb (byte_at measure 2) 2) tolerated fixed)

-- bytes 16-19, unsigned as links are: the number of the first quarter; zero for a measure without a date (02, 1)
abbrev pub first_number : List ℕ → ℕ
first_number measure = link_at measure 16

-- what refusal 7 tests; positive redispatch exists for technology 3 only
unfoldable pub measure_allowed : List ℕ → List ℕ → Bool
measure_allowed plant measure =
    leb 1 (byte_at measure 1) && leb (byte_at measure 1) 2 && (leb 1 (byte_at measure 2) && leb (byte_at measure 2) 3)
    && (eqb (byte_at measure 1) 2 || eqb (byte_at plant 1) 3)

-- ---- the terms of a measure

-- what a plant and a measure of it say, read once when the measure's place is admitted; nothing else of their bytes decides a quarter
pub record Terms : Type 0 where
  pub technology : Technology
  pub variant : Variant
  -- Pn
  pub nominal_power : ℕ
  pub direction : Direction
  pub execution : Execution
  -- number of the first quarter, or 0
  pub first : ℕ

abbrev pub terms_of : List ℕ → List ℕ → Terms
terms_of plant measure = record {
  technology = technology_of plant;
  variant = variant_of plant;
  nominal_power = nominal_power plant;
  direction = direction_of measure;
  execution = execution_of measure;
  first = first_number measure;
}

-- ---- curve point

-- a point of the power curve (Leistungskennlinie, 001, 3.2.2.1): 8-11 speed, 12-15 power
pub record Point : Type 0 where
  pub speed : ℕ
  pub power : ℕ

unfoldable pub point_of : List ℕ → Point
point_of r = record { speed = or_zero (field_at r 8); power = or_zero (field_at r 12) }

unfoldable pub point_allowed : List ℕ → Bool
point_allowed r = is_speed (field_at r 8) && is_curve_power (field_at r 12)

-- ---- before-quarter

-- byte 1 is 1 if fully measured and unrestricted, else 0
abbrev pub is_marked : List ℕ → Bool
is_marked r = eqb (byte_at r 1) 1

abbrev pub mark_allowed : List ℕ → Bool
mark_allowed r = leb (byte_at r 1) 1

-- a quarter-hour before the measure: 8-11 measured power, 16-19 weather (a speed or an irradiance)
pub record Before : Type 0 where
  pub measured : ℤ
  pub weather : ℤ

unfoldable pub before_of : List ℕ → Before
before_of r = record { measured = field_at r 8; weather = field_at r 16 }

-- ---- quarter

-- the number of a dated measure's quarter, its index along the chain counted from 0: the next quarters count on by 1 (02, 1)
abbrev pub number_at : Terms → ℕ → ℕ
number_at terms index = terms.first + index

-- month 1-12 and quarter of the day 0-95, in UTC+1, of a measure's quarter: by the calendar; without a date the quarter's own bytes, 1 and 2,
-- are kept (02, 1)
unfoldable pub month_of : Terms → ℕ → List ℕ → ℕ
month_of terms index r = cond (eqb terms.first 0) (byte_at r 1) (date_of (day_of (number_at terms index))).month

unfoldable pub quarter_of_day_of : Terms → ℕ → List ℕ → ℕ
quarter_of_day_of terms index r = cond (eqb terms.first 0) (byte_at r 2) (quarter_of_day (number_at terms index))

-- a power that a quarter may be without (02, 3)
pub data Reading : Type 0 where
  none : Reading
  of : (power : ℤ) → Reading

-- 2,147,483,647 means none, and no other number does
unfoldable pub reading_at : List ℕ → ℕ → Reading
reading_at r at = cond (eqb (link_at r at) 2147483647) none (of (field_at r at))

-- a quarter-hour of the measure: 8-11 measured power, 12-15 sent limit, 16-19 weather, 20-23 planned power; 24-27 power while not available
-- (Nichtbeanspruchbarkeit), 28-31 power after market adjustment (marktbedingte Anpassung)
pub record Quarter : Type 0 where
  pub month : ℕ
  pub quarter_of_day : ℕ
  pub measured : ℤ
  pub limit : ℤ
  pub weather : ℤ
  pub planned : ℤ
  pub nonavailability : Reading
  pub market_adjustment : Reading

unfoldable pub quarter_of : Terms → ℕ → List ℕ → Quarter
quarter_of terms index r = record {
  month = month_of terms index r;
  quarter_of_day = quarter_of_day_of terms index r;
  measured = field_at r 8;
  limit = field_at r 12;
  weather = field_at r 16;
  planned = field_at r 20;
  nonavailability = reading_at r 24;
  market_adjustment = reading_at r 28;
}
