-- What the code's answer for a basis stands for, and what it asks of the powers that are lent to it.
use Rattle.std.specs.Prelude.{ℕ, ◌+◌, ◌*◌, ◌≤◌, ◌≡◌, Bool, true, false, List, eqb, leb, ltb, length, Result, Ok, Err}
use Rattle.std.proofs.Math.IntN.{sub_ℕ}
use Rattle.rules.specs.Outcome.{Outcome, refused, given, ◌>>=◌, ◌>>◌, require}
use Rattle.rules.specs.Refusals.{too_few_usable, divisor_zero}
use Rattle.rules.specs.Results.{number}
use Rattle.rules.specs.declared.refusal.Refusal.{Refusal}
use Rattle.rules.specs.declared.Technology.{Technology}
use Rattle.rules.specs.declared.Technology.TheVariants.{Wind as wind, Solar as solar, Other as other}
use Rattle.rules.specs.declared.Variant.{Variant}
use Rattle.rules.specs.declared.Variant.TheVariants.{Spitz as spitz, Pauschal as pauschal}
use Rattle.rules.specs.Reference.{on_curve, last_measured, on_irradiance}
use Rattle.rules.specs.Settle as settle
use Rattle.units.specs.declared.Watt.{Watt}
use Rattle.curve.specs.Tables.{Spare}
use Rattle.terms.specs.declared.Terms.{Terms}
use Rattle.reference.specs.declared.Reference.TheVariants.{ByFactor, AsPlanned}
use Rattle.reference.specs.References.{Natural, Means}
use Rattle.comparison.specs.declared.Purpose.{Purpose}
use Rattle.comparison.specs.declared.Purpose.TheVariants.{Four, First, All}
use Rattle.comparison.specs.declared.Sums.{Sums}
use Rattle.comparison.specs.Sums as choices
use Rattle.comparison.specs.Sums.{Choice, first_four, first_one, every_one, power_bias}
use Rattle.comparison.specs.Walks.{gathered_of}
use Rattle.basis.specs.declared.Basis.{Basis}
use Rattle.basis.specs.declared.Ground.{Ground}
use Rattle.basis.specs.declared.Ground.TheVariants.{Comparison, ByTerms}

-- ---- the powers that are lent

-- T is read from the plant's curve
abbrev pub needs_curve : Technology → Variant → Bool
needs_curve wind spitz = true
needs_curve wind pauschal = false
needs_curve solar variant = false
needs_curve other variant = false

-- what a measure on a curve brings
pub record ForCurve (terms : Terms) (powers : List ℕ) : Type 0 where
  pub needs : needs_curve terms.technology terms.variant ≡ true
  pub spare : Spare powers

-- a table for the powers where the terms need a curve, and none elsewhere
pub record Lent (terms : Terms) (powers : List ℕ) : Type 0 where
  pub table : needs_curve terms.technology terms.variant ≡ true → Spare powers
  pub none : needs_curve terms.technology terms.variant ≡ false → length powers ≡ 0

-- ---- the answer

-- a basis of the code stands for one of the rule book, with these powers beside it
pub record Stands (basis : Basis) (powers : List ℕ) (b : settle.Basis) : Type 0 where
  pub means : Means basis.reference powers b.reference
  pub links_are : basis.links ≡ b.links

pub record Found (o : Outcome settle.Basis) (powers : List ℕ) (basis : Basis) : Type 0 where
  pub book : settle.Basis
  pub is : o ≡ given book
  pub stands : Stands basis powers book

-- the basis, or a refusal
abbrev pub Finds : Outcome settle.Basis → List ℕ → Result Basis Refusal → Type 0
Finds o powers (Ok basis) = Found o powers basis
Finds o powers (Err e) = o ≡ refused (number e)

-- ---- on the before-quarters

-- the basis that the sums over them give, so many links followed: 11, then 12
unfoldable pub basis_from_sums : Choice → ℕ → Sums → Outcome settle.Basis
basis_from_sums (first_four pn points) links s = do
  require (eqb s.used 4) too_few_usable
  require (ltb 0 s.b) divisor_zero
  given (record { reference = on_curve (sub_ℕ s.a (power_bias * s.used)) s.b pn points; links = links })
basis_from_sums first_one links s = do
  require (leb 1 s.used) too_few_usable
  given (record { reference = last_measured (sub_ℕ s.a power_bias); links = links })
basis_from_sums every_one links s = do
  require (leb 1 s.used) too_few_usable
  require (ltb 0 s.b) divisor_zero
  given (record { reference = on_irradiance (sub_ℕ s.a (power_bias * s.used)) s.b; links = links })

-- for whatever choice that a purpose and the powers beside it stand for
pub record OnSums (purpose : Purpose) (s : Sums) (links : ℕ) (r : Result Basis Refusal) : Type 0 where
  pub on : (powers : List ℕ) (choice : Choice) → choices.Means purpose powers choice → Finds (basis_from_sums choice links s) powers r

-- Pn, where a purpose has it, is 0 or more
abbrev pub PnNatural : Purpose → Type 0
PnNatural (Four pn curve) = Natural pn.0
PnNatural First = Unit {0}
PnNatural All = Unit {0}

-- the walk along the chain, and what follows from it; so many links were followed before
abbrev pub compared_by : Choice → List ℕ → settle.Place → ℕ → Outcome settle.Basis
compared_by choice archive place before = gathered_of choice archive place >>= λ g. basis_from_sums choice (before + g.count) g.sums

-- what a comparison asks for
pub record ComparisonReady (purpose : Purpose) (powers : List ℕ) (before : ℕ) : Type 0 where
  pub ready : choices.Ready purpose powers
  pub few : before ≤ 65535

-- the answer, for whatever choice that the purpose stands for
pub record Compared (purpose : Purpose) (archive : List ℕ) (place : settle.Place) (powers : List ℕ) (before : ℕ) (r : Result Basis Refusal) : Type 0 where
  pub by : (choice : Choice) → choices.Means purpose powers choice → Finds (compared_by choice archive place before) powers r

-- ---- off the curve

-- what a basis stands on where no curve is needed
abbrev pub ground_of : Technology → Variant → Watt → Ground
ground_of wind variant pn = Comparison First
ground_of solar spitz pn = Comparison All
ground_of solar pauschal pn = ByTerms (ByFactor pn)
ground_of other spitz pn = ByTerms AsPlanned
ground_of other pauschal pn = Comparison First
