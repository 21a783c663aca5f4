-- Settle (01, 'Calls on the archive'), with its refusals in the order of 01, 'Refused sheets':
-- 1; plants to p (2, 3, 4); measures to k (2, 3, 5); 6; 7; curve (2, 3, then 9, 10); before-quarters (2, 3, then 8, 9, 11, 12);
-- quarters (2, 3, then 8, 9); 18; 13.
use Rattle.std.specs.Prelude.{ℕ, ◌+◌, ◌-◌, ◌*◌, Bool, true, cond, ◌&&◌, ◌||◌, List, [], ◌∷◌, ◌++◌, map, eqb, leb, ltb, ℤ, pos, ◌*ℤ◌, length, drop}
use Rattle.std.specs.Int.Signed.{le_z}
use Rattle.rules.specs.Outcome.{Outcome, refused, given, ◌>>=◌, ◌>>◌, require, after}
use Rattle.rules.specs.Refusals.{no_plant, no_measure, bad_plant, bad_measure, bad_count, out_of_range, bad_curve, too_few_usable, divisor_zero, not_in_calendar, no_room}
use Rattle.rules.specs.Numbers.{all, keep, sum, sumℤ, or_zero, map_from}
use Rattle.rules.specs.Archive.{record_at, used_of, Entry, at_place, chain}
use Rattle.rules.specs.Archive.{plant_kind, point_kind, measure_kind, before_kind, quarter_kind, first_plant, first_point, first_measure, first_before, first_quarter}
use Rattle.rules.specs.Calendar.{last_quarter}
use Rattle.rules.specs.Terms.{Technology, wind, solar, other, Variant, spitz, pauschal, Execution, requested, tolerated, fixed}
use Rattle.rules.specs.Terms.{Terms, terms_of, plant_allowed, measure_allowed, number_at}
use Rattle.rules.specs.Terms.{is_power, is_speed, is_irradiance, is_marked, mark_allowed, Point, Before, Quarter, point_of, point_allowed, before_of, quarter_of}
use Rattle.rules.specs.October.{Bounding, bounding_of, reference_bounds, limitation_bounds, reading_allowed}
use Rattle.rules.specs.Reference.{curve_power, Reference, on_curve, last_measured, on_irradiance, by_factor, as_planned, denominator, exact_of}
use Rattle.rules.specs.Booking.{amounts_of}

-- ---- the place: 1; plants to p (2, 3, 4); measures to k (2, 3, 5); 6; 7

-- 6, then 7: what plant and measure say
unfoldable pub admitted : List ℕ → List ℕ → Outcome Terms
admitted plant measure = do
  require (plant_allowed plant) bad_plant
  require (measure_allowed plant measure) bad_measure
  given (terms_of plant measure)

pub record Place : Type 0 where
  pub used : ℕ
  pub plant : Entry
  pub measure : Entry
  pub terms : Terms
  -- links followed so far
  pub links : ℕ

unfoldable pub place_of : List ℕ → ℕ → ℕ → Outcome Place
place_of archive p k = do
  used ← used_of archive
  plant ← at_place archive used plant_kind no_plant p 0 (first_plant (record_at archive 0))
  measure ← at_place archive used measure_kind no_measure k plant.number (first_measure plant.bytes)
  terms ← admitted plant.bytes measure.bytes
  given (record { used = used; plant = plant; measure = measure; terms = terms; links = p + k })

-- ---- curve points: 2, 3, then 9, 10

-- the speeds rise strictly
abbrev pub rising : List Point → Bool
rising [] = true
rising (a ∷ []) = true
rising (a ∷ b ∷ rest) = ltb a.speed b.speed && rising (b ∷ rest)

unfoldable pub points_of : List ℕ → Place → Outcome (List Point)
points_of archive place = do
  entries ← chain archive place.used point_kind place.plant.number (first_point place.plant.bytes)
  require (all (λ e. point_allowed e.bytes) entries) out_of_range
  require (leb 2 (length entries) && rising (map (λ e. point_of e.bytes) entries)) bad_curve
  given (map (λ e. point_of e.bytes) entries)

-- ---- before-quarters: 2, 3, then 8, 9, 11, 12

-- the chain of before-quarters, the latest first; byte 1 of every one is tested
unfoldable pub befores_of : List ℕ → Place → Outcome (List Entry)
befores_of archive place = do
  entries ← chain archive place.used before_kind place.measure.number (first_before place.measure.bytes)
  require (leb (length entries) 96) bad_count
  require (all (λ e. mark_allowed e.bytes) entries) out_of_range
  given entries

-- those marked 1
abbrev pub marked : List Entry → List Before
marked entries = map (λ e. before_of e.bytes) (keep (λ e. is_marked e.bytes) entries)

-- 10 × measured ≥ Pn (001, 3.2.2.1)
abbrev pub ten_percent : ℕ → Before → Bool
ten_percent pn b = le_z (pos pn) (pos 10 *ℤ b.measured)

-- a marked before-quarter that wind Spitz may use
abbrev pub usable : ℕ → Before → Bool
usable pn b = ten_percent pn b

-- up to the last one used, where so many are needed; all, if too few are usable
abbrev pub up_to_used : (Before → Bool) → ℕ → List Before → List Before
up_to_used test needed [] = []
up_to_used test needed (b ∷ bs) = cond (eqb needed 0) [] (b ∷ up_to_used test (cond (test b) (needed - 1) needed) bs)

abbrev pub total_measured : List Before → ℤ
total_measured bs = sumℤ (map (λ b. b.measured) bs)

-- ---- the basis: what T is found from, and the links followed for it

pub record Basis : Type 0 where
  pub reference : Reference
  pub links : ℕ

-- wind Spitz: A and B over the first four usable ones. Measured power is tested in marked ones up to the last one used, weather in
-- those of them that meet the 10 % test
unfoldable pub wind_basis : ℕ → List Point → List Entry → Outcome Basis
wind_basis pn points entries =
    let tested = up_to_used (usable pn) 4 (marked entries) in
    let four = keep (usable pn) tested in
    let b = sum (map (λ x. curve_power points (or_zero x.weather)) four) in do
      require (all (λ x. is_power x.measured) tested && all (λ x. is_speed x.weather) (keep (ten_percent pn) tested)) out_of_range
      require (eqb (length four) 4) too_few_usable
      require (ltb 0 b) divisor_zero
      given (record { reference = on_curve (total_measured four) b pn points; links = length points + length entries })

-- wind and other Pauschal: the first marked one; no 10 % test
unfoldable pub first_marked : List Before → ℕ → Outcome Basis
first_marked [] links = refused too_few_usable
first_marked (b ∷ bs) links = do
  require (is_power b.measured) out_of_range
  given (record { reference = last_measured b.measured; links = links })

abbrev pub pauschal_basis : List ℕ → Place → Outcome Basis
pauschal_basis archive place = do
  entries ← befores_of archive place
  first_marked (marked entries) (length entries)

-- solar Spitz: A and B over all marked ones, which are the comparison period
unfoldable pub solar_basis : List Before → ℕ → Outcome Basis
solar_basis bs links =
    let b = sum (map (λ x. or_zero x.weather) bs) in do
      require (all (λ x. is_power x.measured && is_irradiance x.weather) bs) out_of_range
      require (leb 1 (length bs)) too_few_usable
      require (ltb 0 b) divisor_zero
      given (record { reference = on_irradiance (total_measured bs) b; links = links })

-- chains not needed aren't walked
unfoldable pub basis_by : Technology → Variant → List ℕ → Place → Outcome Basis
basis_by wind spitz archive place = do
  points ← points_of archive place
  entries ← befores_of archive place
  wind_basis place.terms.nominal_power points entries
basis_by wind pauschal archive place = pauschal_basis archive place
basis_by solar spitz archive place = do
  entries ← befores_of archive place
  solar_basis (marked entries) (length entries)
basis_by solar pauschal archive place = given (record { reference = by_factor place.terms.nominal_power; links = 0 })
basis_by other spitz archive place = given (record { reference = as_planned; links = 0 })
basis_by other pauschal archive place = pauschal_basis archive place

abbrev pub basis_of : List ℕ → Place → Outcome Basis
basis_of archive place = basis_by place.terms.technology place.terms.variant archive place

-- ---- quarters: 2, 3, then 8, 9, 18

abbrev pub quarter_chain : List ℕ → Place → Outcome (List Entry)
quarter_chain archive place = chain archive place.used quarter_kind place.measure.number (first_quarter place.measure.bytes)

abbrev pub quarters_read : Place → List Entry → List Quarter
quarters_read place entries = map_from (λ index e. quarter_of place.terms index e.bytes) 0 entries

-- the fields that T needs are in range; fields that no rule needs are neither read nor checked
abbrev pub reference_readable : Reference → Quarter → Bool
reference_readable (on_curve a b pn points) q = is_speed q.weather
reference_readable (last_measured p0) q = true
reference_readable (on_irradiance a b) q = is_irradiance q.weather
reference_readable (by_factor pn) q = leb 1 q.month && leb q.month 12 && leb q.quarter_of_day 95
reference_readable as_planned q = is_power q.planned

-- the fields that L needs, measured power and limit, are in range
abbrev pub limit_readable : Execution → ℤ → ℤ → Bool
limit_readable requested measured limit = is_power measured && is_power limit
limit_readable tolerated measured limit = is_power measured
limit_readable fixed measured limit = is_power measured

-- the readings that bound T or L are none or in range, whether or not one of them is the smallest (02, 3)
abbrev pub bounds_readable : Bounding → Quarter → Bool
bounds_readable bounding q = all reading_allowed (reference_bounds bounding q) && all reading_allowed (limitation_bounds bounding q)

abbrev pub readable : Terms → Reference → Quarter → Bool
readable terms reference q =
    limit_readable terms.execution q.measured q.limit && reference_readable reference q && bounds_readable (bounding_of terms) q

-- what refusal 18 tests: the first and the last of so many quarters aren't past the calendar's end; a measure without a date has none to test
-- (02, 1)
unfoldable pub dates_allowed : Terms → ℕ → Bool
dates_allowed terms count = eqb terms.first 0 || (leb (number_at terms 0) last_quarter && leb (number_at terms (count - 1)) last_quarter)

unfoldable pub quarters_of : List ℕ → Place → Basis → Outcome (List Quarter)
quarters_of archive place basis = do
  entries ← quarter_chain archive place
  require (leb 1 (length entries) && leb (length entries) 2976) bad_count
  require (all (readable place.terms basis.reference) (quarters_read place entries)) out_of_range
  require (dates_allowed place.terms (length entries)) not_in_calendar
  given (quarters_read place entries)

-- ---- exact magnitudes and amounts

-- every exact magnitude of the measure is a numerator over this
abbrev pub measure_denominator : Basis → ℕ
measure_denominator basis = 4 * denominator basis.reference

abbrev pub exacts_of : Place → Basis → List Quarter → List ℕ
exacts_of place basis quarters = map (exact_of place.terms basis.reference) quarters

pub record Settlement : Type 0 where
  pub amounts : List ℤ
  pub links : ℕ

-- the count of quarters
abbrev pub count_of : Settlement → ℕ
count_of s = length s.amounts

-- the sum of the amounts
abbrev pub total_of : Settlement → ℤ
total_of s = sumℤ s.amounts

-- links followed = p + k + curve points (wind Spitz) + before-quarters (where T uses them) + quarters
abbrev pub settlement_of : Place → Basis → List Quarter → Settlement
settlement_of place basis quarters = record {
  amounts = amounts_of place.terms.direction (measure_denominator basis) (exacts_of place basis quarters);
  links = place.links + basis.links + length quarters;
}

-- ---- settle

-- all of settle but the lent list
unfoldable pub settled : List ℕ → ℕ → ℕ → Outcome Settlement
settled archive p k = do
  place ← place_of archive p k
  basis ← basis_of archive place
  quarters ← quarters_of archive place basis
  given (settlement_of place basis quarters)

-- plant place p, measure place k, a list of so many places: 13 last
unfoldable pub settle : List ℕ → ℕ → ℕ → ℕ → Outcome Settlement
settle archive p k places = do
  s ← settled archive p k
  require (leb (count_of s) places) no_room
  given s

-- what settle gives: the number, and zero for every other result of a refused call
pub record Answer : Type 0 where
  pub number : ℕ
  pub count : ℕ
  pub total : ℤ
  pub links : ℕ

abbrev pub answer_of : Outcome Settlement → Answer
answer_of (refused n) = record { number = n; count = 0; total = pos 0; links = 0 }
answer_of (given s) = record { number = 0; count = count_of s; total = total_of s; links = s.links }

-- the lent list after the call: the amounts in its first places, later places keep theirs
abbrev pub list_after : Outcome Settlement → List ℤ → List ℤ
list_after o list = after o (λ s. s.amounts ++ drop (count_of s) list) list
