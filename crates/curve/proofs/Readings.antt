-- What a reading of the table is and says, over plain variables.
use mathlib.Core.Path.{◌≡◌, refl, sym, ◌∙◌, ap}
use mathlib.Core.Bool.{Bool, true, false, cond}
use mathlib.Core.List.{List}
use Prim.Native.Nat.{ℕ, ◌^◌, ◌≤◌, ◌<◌}
use native.Mathlib.Omega.{arith}
use borrow.Author.Tests.{lt-ltb, le-ltb}
use lib.Dec.{ltb}
use lib.IntN.{ℤ, pos}
use lib.ListN.{get_or}
use Rattle.rules.specs.Numbers.{or_zero}
use Rattle.rules.specs.Archive.{twos}
use Rattle.rules.specs.Reference as reference
use Rattle.rules.specs.Reference.{power_of, curve_power}
use Rattle.units.specs.declared.Watt.{Watt}
use Rattle.curve.specs.declared.Curve.{Curve}
use Rattle.curve.specs.declared.CurveReading.{CurveReading}
use Rattle.curve.specs.declared.CurveReading.TheVariants.{Below, On, Above}
use Rattle.curve.specs.Tables.{table_reading, Low, Readable, PowerAt}
use Rattle.curve.specs.Answers.{reading_answer}

module _ (curve : Curve) (powers : List ℕ) (v : ℕ) where
  pub reading_below : v < curve.first → Below ≡ reading_answer (table_reading curve powers v)
  reading_below h = rw (lt-ltb v curve.first h)

  module _ (from : curve.first ≤ v) where
    pub reading_above : curve.last < v → Above ≡ reading_answer (table_reading curve powers v)
    reading_above h = rw (le-ltb v curve.first from, lt-ltb curve.last v h)

    pub reading_on : v ≤ curve.last → Low powers → (power : Watt) → power.0 ≡ twos (get_or powers v 0) → On power ≡ reading_answer (table_reading curve powers v)
    unfolding twos
    reading_on h low power e =
        rw (le-ltb v curve.first from, le-ltb curve.last v h)
        (ap (λ (z : ℤ). On (record { 0 = z })) (e ∙ rw (lt-ltb (get_or powers v 0) (2 ^ 31) (omega (arith, low v)))))

-- the power that an answer of the code stands for
abbrev power_in : CurveReading → ℤ
power_in Below = pos 0
power_in (On power) = power.0
power_in Above = pos 0

power_is : (r : reference.CurveReading) → power_in (reading_answer r) ≡ pos (power_of r)
power_is reference.below = refl
power_is (reference.on power) = refl
power_is reference.above = refl

module _ (curve : Curve) (powers : List ℕ) (v : ℕ) (x : CurveReading) (e : x ≡ reading_answer (table_reading curve powers v))
    (readable : Readable powers v) where
  low_power : power_of (table_reading curve powers v) ≤ 1000000000
  low_power = go (ltb v curve.first) (ltb curve.last v)
    where
      go : (t u : Bool) → power_of (cond t reference.below (cond u reference.above (reference.on (get_or powers v 0)))) ≤ 1000000000
      go true u = omega arith
      go false true = omega arith
      go false false = readable.low v

  pub says : PowerAt curve powers v (power_in x)
  unfolding curve_power
  says = record {
    is = λ points tabulates. p ∙ ap (λ (r : reference.CurveReading). pos (power_of r)) (tabulates.agrees v readable.speed_low);
    natural = p ∙ ap (λ (y : ℤ). pos (or_zero y)) (sym p);
    low = rw p low_power;
  }
    where
      p : power_in x ≡ pos (power_of (table_reading curve powers v))
      p = ap power_in e ∙ power_is (table_reading curve powers v)
