-- What holds of a reference in range.
use mathlib.Core.Path.{sym, subst}
use mathlib.Core.List.{List}
use Prim.Native.Nat.{ℕ, ◌≤◌}
use lib.IntN.{ℤ}
use lib.Signed.{mag}
use Rattle.rules.specs.Numbers.{or_zero}
use Rattle.rules.specs.Reference as book
use Rattle.rules.proofs.Bounds as bounds
use Rattle.reference.specs.declared.Reference.{Reference}
use Rattle.reference.specs.declared.Reference.TheVariants.{OnCurve, LastMeasured, OnIrradiance, ByFactor, AsPlanned}
use Rattle.reference.specs.References.{Means, UpTo, Bounded, Held}

pub up_to_small : {n : ℕ} {z : ℤ} → UpTo n z → mag z ≤ n
up_to_small {n} h = subst (λ (y : ℤ). mag y ≤ n) (sym h.is) h.low

-- ---- the rule book's bounds and the code's

-- what stands for a reference in range is in range, and the other way round
pub means_bounded : (r : Reference) (powers : List ℕ) (ref : book.Reference) → Means r powers ref → Bounded r → bounds.Bounded ref
means_bounded (OnCurve a b pn curve) powers ref m h = rw m.is (record {
  natural = h.a_low.is;
  a_low = h.a_low.low;
  some = h.some;
  b_low = h.b_low.low;
  pn_low = h.pn_low.low;
})
means_bounded (LastMeasured p0) powers ref m h = rw m h
means_bounded (OnIrradiance a b) powers ref m h = rw m h
means_bounded (ByFactor pn) powers ref m h = rw m.is h.low
means_bounded AsPlanned powers ref m h = rw m tt

pub bounded_meant : (r : Reference) (powers : List ℕ) (ref : book.Reference) → Means r powers ref → bounds.Bounded ref → Bounded r
bounded_meant (OnCurve a b pn curve) powers ref m h =
    let k : bounds.CurveBounds a.0 (or_zero b.0) (or_zero pn.0) = subst bounds.Bounded m.is h in
    record {
      a_low = record { is = k.natural; low = k.a_low };
      b_low = record { is = m.b_natural; low = k.b_low };
      some = k.some;
      pn_low = record { is = m.pn_natural; low = k.pn_low };
    }
bounded_meant (LastMeasured p0) powers ref m h = subst bounds.Bounded m h
bounded_meant (OnIrradiance a b) powers ref m h = subst bounds.Bounded m h
bounded_meant (ByFactor pn) powers ref m h = record { is = m.natural; low = subst bounds.Bounded m.is h }
bounded_meant AsPlanned powers ref m h = tt

-- a reference in range that stands for one of the rule book
pub held_by : {r : Reference} {powers : List ℕ} (ref : book.Reference) → Means r powers ref → bounds.Bounded ref → Held r powers
held_by {r} {powers} ref m h = record { bounded = bounded_meant r powers ref m h; ref = ref; means = m }
