-- What a reference of the code stands for, and what the code says of a quarter's reference power.
use Rattle.std.specs.Prelude.{ℕ, ◌≤◌, ◌<◌, ◌≡◌, true, false, List, ℤ, pos, Option, Some, None}
use Rattle.std.specs.Int.Signed.{mag}
use Rattle.rules.specs.Numbers.{or_zero}
use Rattle.rules.specs.Terms.{Point, Quarter}
use Rattle.rules.specs.Reference as book
use Rattle.rules.specs.Settle.{reference_readable}
use Rattle.rules.proofs.Bounds.{IrradianceBounds}
use Rattle.units.specs.declared.Watt.{Watt}
use Rattle.curve.specs.declared.Curve.{Curve}
use Rattle.curve.specs.Tables.{Tabulates}
use Rattle.reference.specs.declared.Reference.{Reference}
use Rattle.reference.specs.declared.Reference.TheVariants.{OnCurve, LastMeasured, OnIrradiance, ByFactor, AsPlanned}

-- ---- what it stands for

-- 0 or more
abbrev pub Natural : ℤ → Type 0
Natural z = z ≡ pos (or_zero z)

-- on the curve whose powers by speed are lent beside it, that of these points
pub record MeansOnCurve (a b pn : Watt) (curve : Curve) (powers : List ℕ) (ref : book.Reference) : Type 0 where
  pub points : List Point
  pub is : ref ≡ book.on_curve a.0 (or_zero b.0) (or_zero pn.0) points
  pub b_natural : Natural b.0
  pub pn_natural : Natural pn.0
  pub tabulates : Tabulates curve powers points

pub record MeansByFactor (pn : Watt) (ref : book.Reference) : Type 0 where
  pub is : ref ≡ book.by_factor (or_zero pn.0)
  pub natural : Natural pn.0

-- a reference of the rule book
abbrev pub Means : Reference → List ℕ → book.Reference → Type 0
Means (OnCurve a b pn curve) powers ref = MeansOnCurve a b pn curve powers ref
Means (LastMeasured p0) powers ref = ref ≡ book.last_measured p0.0
Means (OnIrradiance a b) powers ref = ref ≡ book.on_irradiance a.0 b.0
Means (ByFactor pn) powers ref = MeansByFactor pn ref
Means AsPlanned powers ref = ref ≡ book.as_planned

-- ---- its numbers

-- 0 to n
pub record UpTo (n : ℕ) (z : ℤ) : Type 0 where
  pub is : Natural z
  pub low : or_zero z ≤ n

pub record OnCurveBounds (a b pn : Watt) : Type 0 where
  pub a_low : UpTo 4000000000 a.0
  pub b_low : UpTo 4000000000 b.0
  pub some : 0 < or_zero b.0
  pub pn_low : UpTo 1000000000 pn.0

-- they are in the ranges that the rules leave
abbrev pub Bounded : Reference → Type 0
Bounded (OnCurve a b pn curve) = OnCurveBounds a b pn
Bounded (LastMeasured p0) = mag p0.0 ≤ 1000000000
Bounded (OnIrradiance a b) = IrradianceBounds a.0 b.0
Bounded (ByFactor pn) = UpTo 1000000000 pn.0
Bounded AsPlanned = Unit {0}

-- and it stands for a reference of the rule book
pub record Held (reference : Reference) (powers : List ℕ) : Type 0 where
  pub bounded : Bounded reference
  pub ref : book.Reference
  pub means : Means reference powers ref

-- D, the one denominator of every T of the measure
pub record Divides (reference : Reference) (d : ℕ) : Type 0 where
  pub is : (powers : List ℕ) (ref : book.Reference) → Means reference powers ref → d ≡ book.denominator ref
  pub some : 0 < d
  pub small : d ≤ 4000000000

-- a reference with its denominator
pub record Divided (reference : Reference) (d : ℕ) (powers : List ℕ) : Type 0 where
  pub held : Held reference powers
  pub divides : Divides reference d

-- ---- reference power

-- the numerator of the quarter's T; or a field that it needs is out of range
abbrev pub ReferredTo : book.Reference → Quarter → Option ℤ → Type 0
ReferredTo ref q (Some t) = (reference_readable ref q ≡ true) × (t ≡ book.numerator ref q)
ReferredTo ref q None = reference_readable ref q ≡ false
