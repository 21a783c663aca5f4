-- How a measure's quarters are walked, and the clock of a quarter where that goes by the date.
use Rattle.std.specs.Prelude.{ℕ, ◌≤◌, ◌≡◌, cond, eqb}
use Rattle.rules.specs.declared.Bounding.{Bounding}
use Rattle.rules.specs.declared.Bounding.TheVariants.{Unbounded, ReferenceByBoth, ReferenceByNonavailability, LimitationByNonavailability}
use Rattle.rules.specs.Terms.{Terms}
use Rattle.rules.specs.October.{bounding_of}
use Rattle.units.specs.declared.Watt.{Watt}
use Rattle.calendar.specs.declared.Clock.{Clock}
use Rattle.calendar.specs.Clocks.{clock_of}
use Rattle.reference.specs.declared.Reference.{Reference}
use Rattle.reference.specs.declared.Reference.TheVariants.{OnCurve, LastMeasured, OnIrradiance, ByFactor, AsPlanned}
use Rattle.reference.specs.declared.Manner.{Manner}
use Rattle.reference.specs.declared.Manner.TheVariants.{Plain, ByDate, Bounded}

-- P0 with what bounds it or L
abbrev pub manner_on_p0 : Bounding → Watt → Manner
manner_on_p0 Unbounded p0 = Plain
manner_on_p0 ReferenceByBoth p0 = Bounded ReferenceByBoth p0
manner_on_p0 ReferenceByNonavailability p0 = Bounded ReferenceByNonavailability p0
manner_on_p0 LimitationByNonavailability p0 = Bounded LimitationByNonavailability p0

-- Pauschal of wind and other plants has readings that bound, where the measure has them; solar Pauschal alone reads the date, where there is one
abbrev pub manner_of : Reference → Terms → Manner
manner_of (OnCurve a b pn curve) terms = Plain
manner_of (LastMeasured p0) terms = manner_on_p0 (bounding_of terms) p0
manner_of (OnIrradiance a b) terms = Plain
manner_of (ByFactor pn) terms = cond (eqb terms.first 0) Plain (ByDate pn)
manner_of AsPlanned terms = Plain

-- a reference other than P0 comes with terms that bound nothing
abbrev pub Fits : Reference → Terms → Type 0
Fits (OnCurve a b pn curve) terms = Unbounded ≡ bounding_of terms
Fits (LastMeasured p0) terms = Unit {0}
Fits (OnIrradiance a b) terms = Unbounded ≡ bounding_of terms
Fits (ByFactor pn) terms = Unbounded ≡ bounding_of terms
Fits AsPlanned terms = Unbounded ≡ bounding_of terms

-- the clock of quarter `index`, counted from 0, of a dated measure
pub record Shows (terms : Terms) (index : ℕ) (clock : Clock) : Type 0 where
  pub some : 1 ≤ terms.first
  pub is : clock ≡ clock_of terms.first index
