-- The rules of October 2026 (02, 3; source 003): in Pauschal of wind and other plants, readings of a quarter bound the reference power T or
-- the limitation value L.
use Rattle.std.specs.Prelude.{ℕ, Bool, true, cond, List, [], ◌∷◌, leb, ℤ, pos, ◌*ℤ◌}
use Rattle.rules.specs.Numbers.{smaller}
use Rattle.rules.specs.Terms.{Technology, wind, solar, other, Variant, spitz, pauschal, Direction, positive, negative, Terms, is_power, Reading, none, of, Quarter}
pub use Rattle.rules.specs.declared.Bounding.{Bounding}
pub use Rattle.rules.specs.declared.Bounding.TheVariants.{Unbounded as unbounded, ReferenceByBoth as reference_by_both}
pub use Rattle.rules.specs.declared.Bounding.TheVariants.{ReferenceByNonavailability as reference_by_nonavailability, LimitationByNonavailability as limitation_by_nonavailability}

-- ---- which measures

-- 1 October 2026, 00:00
abbrev pub october2026 : ℕ
october2026 = 937921

-- measures whose first quarter is that one or later; it decides for all their quarters. Older and undated measures (number 0) are judged by
-- the 2020 text
abbrev pub is_since_october : Terms → Bool
is_since_october terms = leb october2026 terms.first

-- ---- what is bounded

-- wind and other Pauschal have more readings; solar and the Spitz variants keep their rules, and other plants don't read the market adjustment
abbrev pub bounding_by : Technology → Variant → Direction → Bounding
-- 003, 3.2.2.3: the smallest of reference and both; P_inst, which its formula has besides, is no part of 02's rule
bounding_by wind pauschal direction = reference_by_both
-- 003, 3.3.2, negative: the smaller of reference and nonavailability
bounding_by other pauschal negative = reference_by_nonavailability
-- 003, 3.3.2, positive: the smaller of L and nonavailability in L's place
bounding_by other pauschal positive = limitation_by_nonavailability
bounding_by wind spitz direction = unbounded
bounding_by other spitz direction = unbounded
bounding_by solar variant direction = unbounded

unfoldable pub bounding_of : Terms → Bounding
bounding_of terms = cond (is_since_october terms) (bounding_by terms.technology terms.variant terms.direction) unbounded

-- the readings that bound T
abbrev pub reference_bounds : Bounding → Quarter → List Reading
reference_bounds unbounded q = []
reference_bounds reference_by_both q = q.nonavailability ∷ q.market_adjustment ∷ []
reference_bounds reference_by_nonavailability q = q.nonavailability ∷ []
reference_bounds limitation_by_nonavailability q = []

-- those that bound L
abbrev pub limitation_bounds : Bounding → Quarter → List Reading
limitation_bounds unbounded q = []
limitation_bounds reference_by_both q = []
limitation_bounds reference_by_nonavailability q = []
limitation_bounds limitation_by_nonavailability q = q.nonavailability ∷ []

-- ---- the bound

-- a reading over the denominator d
abbrev pub over : ℕ → Reading → Reading
over d none = none
over d (of power) = of (power *ℤ pos d)

-- the smaller of a number and a reading; none leaves the number
abbrev pub bounded_by : Reading → ℤ → ℤ
bounded_by none n = n
bounded_by (of power) n = smaller n power

-- the smallest of a number and readings
abbrev pub smallest : ℤ → List Reading → ℤ
smallest n [] = n
smallest n (r ∷ rs) = smallest (bounded_by r n) rs

-- ---- the test

-- none, or a power in its range
abbrev pub reading_allowed : Reading → Bool
reading_allowed none = true
reading_allowed (of power) = is_power power
