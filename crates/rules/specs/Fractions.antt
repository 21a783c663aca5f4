-- What demand 3 compares amounts with (01, 'What every statement must say', 3): exact fractions of stretches, and raised readings.
use Rattle.std.specs.Prelude.{◌≡◌, Bool, false, true, ◌&&◌, List, [], map, ℕ, suc, ◌-◌, ◌/◌, ◌%◌, ◌≤◌, ◌<◌, leb, ℤ, pos, nat_abs, ◌-ℤ◌, ◌*ℤ◌, ◌≤ℤ◌, length, take, drop}
use Rattle.std.specs.Int.Signed.{quot_z}
use Rattle.rules.specs.Outcome.{Outcome, given, ◌>>=◌, after}
use Rattle.rules.specs.Numbers.{sumℤ, member}
use Rattle.rules.specs.Archive.{byte_at, field_at, record_at}
use Rattle.rules.specs.Terms.{Quarter}
use Rattle.rules.specs.Booking.{signed}
use Rattle.rules.specs.Settle.{Place, place_of, Basis, basis_of, quarter_chain, quarters_of, measure_denominator, exacts_of}

-- ---- exact fractions

-- the exact magnitudes of a measure's quarters, with a minus for the positive direction: numerators over one denominator
pub record Fractions : Type 0 where
  pub denominator : ℕ
  pub numerators : List ℤ

abbrev pub fractions_of : Place → Basis → List Quarter → Fractions
fractions_of place basis quarters = record {
  denominator = measure_denominator basis;
  numerators = map (signed place.terms.direction) (exacts_of place basis quarters);
}

unfoldable pub exact_fractions : List ℕ → ℕ → ℕ → Outcome Fractions
exact_fractions archive p k = do
  place ← place_of archive p k
  basis ← basis_of archive place
  quarters ← quarters_of archive place basis
  given (fractions_of place basis quarters)

-- a stretch runs from one quarter to the same or a later one, both counted from 0
abbrev pub stretch : {A : Type 0} → ℕ → ℕ → List A → List A
stretch from to l = take (suc to - from) (drop from l)

-- the amounts of a call, in the list's first places, and its total against the exact fractions, compared in whole numbers after
-- multiplying by the denominator: over every stretch less than 1 Wh away, and in all rounded toward zero
pub record Exact (fractions : Fractions) (list : List ℤ) (total : ℤ) : Type 0 where
  pub near : (from to : ℕ) → from ≤ to → to < length fractions.numerators
      → nat_abs (sumℤ (stretch from to list) *ℤ pos fractions.denominator -ℤ sumℤ (stretch from to fractions.numerators))
      < fractions.denominator
  pub rounded : total ≡ quot_z (sumℤ fractions.numerators) (pos fractions.denominator)

-- ---- raised readings

-- the numbers of the records on a measure's chain of quarters; none where it can't be walked
unfoldable pub quarter_numbers : List ℕ → ℕ → ℕ → List ℕ
quarter_numbers archive p k = after (place_of archive p k >>= λ place. quarter_chain archive place) (map (λ e. e.number)) []

-- byte i of an archive is one of bytes 8-15, measured power and limit, of a record with one of these numbers
abbrev pub is_reading : List ℕ → ℕ → Bool
is_reading numbers i = member (i / 32) numbers && (leb 8 (i % 32) && leb (i % 32) 15)

-- the second archive is the first with no measured power or sent limit of the measure's quarters lowered and nothing else changed
pub record Raised (first second : List ℕ) (p k : ℕ) : Type 0 where
  pub equally_long : length first ≡ length second
  pub equal_elsewhere : (i : ℕ) → is_reading (quarter_numbers first p k) i ≡ false → byte_at first i ≡ byte_at second i
  pub measured_no_lower : (n : ℕ) → member n (quarter_numbers first p k) ≡ true
      → field_at (record_at first n) 8 ≤ℤ field_at (record_at second n) 8
  pub limit_no_lower : (n : ℕ) → member n (quarter_numbers first p k) ≡ true
      → field_at (record_at first n) 12 ≤ℤ field_at (record_at second n) 12
