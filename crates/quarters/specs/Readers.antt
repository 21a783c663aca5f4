-- What holds of a reader of quarters before a quarter.
use Rattle.std.specs.Prelude.{ℕ, ◌≡◌, ◌+◌, ◌≤◌, ◌<◌, List, []}
use Rattle.std.specs.Int.Signed.{mag}
use Rattle.rules.specs.October.{bounding_of}
use Rattle.rules.specs.Terms as book
use Rattle.rules.specs.declared.Bounding.{Bounding}
use Rattle.rules.specs.declared.Bounding.TheVariants.{Unbounded}
use Rattle.units.specs.declared.Watt.{Watt}
use Rattle.calendar.specs.declared.Clock.{Clock}
use Rattle.calendar.specs.Clocks.{clock_of, CanAdvance}
use Rattle.reference.specs.declared.Reference.{Reference}
use Rattle.reference.specs.declared.Reference.TheVariants.{ByFactor}
use Rattle.reference.specs.declared.Manner.TheVariants.{Plain}
use Rattle.reference.specs.References.{Divided}
use Rattle.reference.specs.Manners.{manner_of}

-- T isn't found by the date, and nothing bounds it or L
pub record IsPlain (reference : Reference) (d : ℕ) (powers : List ℕ) (terms : book.Terms) : Type 0 where
  pub divided : Divided reference d powers
  pub plain : Plain ≡ manner_of reference terms
  pub unbounded : Unbounded ≡ bounding_of terms

-- T is by the factor, and the clock shows the quarter's day
pub record IsDated (pn : Watt) (d : ℕ) (terms : book.Terms) (index : ℕ) (clock : Clock) : Type 0 where
  pub divided : Divided (ByFactor pn) d []
  pub dated : 1 ≤ terms.first
  pub unbounded : Unbounded ≡ bounding_of terms
  pub clock_is : clock ≡ clock_of terms.first index
  pub goes_on : (i : ℕ) → i < 65536 → CanAdvance (clock_of terms.first i) (i + 1)

-- T is P0, and readings of the quarters bound it or L
pub record IsBounded (p0 : Watt) (bounding : Bounding) (terms : book.Terms) : Type 0 where
  pub p0_low : mag p0.0 ≤ 1000000000
  pub bounding_is : bounding ≡ bounding_of terms
