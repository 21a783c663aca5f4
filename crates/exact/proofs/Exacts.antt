-- The answer to a quarter, by the limitation value and the numerator that the code was told.
use mathlib.Core.Path.{◌≡◌, refl, sym, ◌∙◌, ap, ap₂, subst}
use mathlib.Core.Bool.{true}
use mathlib.Core.List.{List, [], ◌∷◌, map}
use Prim.Native.Nat.{ℕ, ◌≤◌}
use lib.IntN.{ℤ}
use lib.Signed.{mag}
use Rattle.std.specs.Prelude.{Some}
use Rattle.rules.specs.declared.Bounding.{Bounding}
use Rattle.rules.specs.declared.Bounding.TheVariants.{Unbounded as unbounded}
use Rattle.rules.specs.Terms.{Terms, Reading, none, of, Quarter}
use Rattle.rules.specs.October.{bounding_of, reference_bounds, limitation_bounds, over, smallest}
use Rattle.rules.specs.Reference as book
use Rattle.rules.specs.Reference.{denominator, numerator, magnitude, limit_of, reference_of, exact_of}
use Rattle.rules.specs.Settle.{readable}
use Rattle.rules.proofs.Ints.{times_one}
use Rattle.rules.proofs.October.{unbounded_limit, unbounded_reference, unbounded_readable}
use Rattle.rules.proofs.Bounds as bounds
use Rattle.rules.proofs.Bounds.{limit_small, numerator_small}
use Rattle.units.specs.declared.Watt.{Watt}
use Rattle.record.specs.Powers.{SmallestOf}
use Rattle.limitation.specs.Limits.{LimitedTo}
use Rattle.reference.specs.References.{ReferredTo}
use Rattle.exact.specs.Exacts.{quarter_answer}

-- L is a power
pub limited_low : (terms : Terms) (measured limit : ℤ) {l : Watt} → LimitedTo terms measured limit (Some l) → mag l.0 ≤ 1000000000
limited_low terms measured limit h =
    subst (λ (z : ℤ). mag z ≤ 1000000000) (sym h.1) (limit_small terms.direction terms.execution measured limit h.0)

-- T's numerator fits
pub referred_small : (r : book.Reference) (q : Quarter) {t : ℤ} → bounds.Bounded r → ReferredTo r q (Some t) → mag t ≤ 4000000000000000000
referred_small r q b h = subst (λ (z : ℤ). mag z ≤ 4000000000000000000) (sym h.1) (numerator_small r q b h.0).fits

-- the answer where every needed field is in range
answer_is : (terms : Terms) (r : book.Reference) (q : Quarter) → readable terms r q ≡ true → {d m : ℕ} {x y : ℤ} → d ≡ denominator r
    → m ≡ magnitude terms.direction d x y → x ≡ reference_of terms r q → y ≡ limit_of terms q → Some m ≡ quarter_answer terms r q
unfolding exact_of
answer_is terms r q fine e f ex ey = rw (fine, f, e) (ap Some (ap₂ (magnitude terms.direction (denominator r)) ex ey))

-- nothing bounds T or L
pub exact_is : (terms : Terms) (r : book.Reference) (q : Quarter) {l : Watt} {t : ℤ} → LimitedTo terms q.measured q.limit (Some l)
    → ReferredTo r q (Some t) → unbounded ≡ bounding_of terms → {d m : ℕ} → d ≡ denominator r → m ≡ magnitude terms.direction d t l.0
    → Some m ≡ quarter_answer terms r q
exact_is terms r q limited referred free e f =
    answer_is terms r q (rw (limited.0, referred.0, unbounded_readable terms q (sym free))) e f
    (referred.1 ∙ sym (unbounded_reference terms q (sym free) r)) (limited.1 ∙ sym (unbounded_limit terms q (sym free)))

-- ---- on P0, with what bounds it or L

-- a power over 1
over_one : (rs : List Reading) → map (over 1) rs ≡ rs
over_one [] = refl
over_one (none ∷ rs) = ap (λ (l : List Reading). none ∷ l) (over_one rs)
over_one (of p ∷ rs) = ap₂ (λ (z : ℤ) (l : List Reading). of z ∷ l) (times_one p) (over_one rs)

module _ (terms : Terms) (p0 : ℤ) (q : Quarter) {b : Bounding} (is : b ≡ bounding_of terms) where
  lowest_is : smallest p0 (reference_bounds b q) ≡ reference_of terms (book.last_measured p0) q
  unfolding reference_of numerator
  lowest_is = rw (is, over_one (reference_bounds (bounding_of terms) q))

  pub bounded_is : {l t w : Watt} {m : ℕ} → LimitedTo terms q.measured q.limit (Some l) → SmallestOf (reference_bounds b q) p0 (Some t)
      → SmallestOf (limitation_bounds b q) l.0 (Some w) → m ≡ magnitude terms.direction 1 t.0 w.0 → Some m ≡ quarter_answer terms (book.last_measured p0) q
  unfolding limit_of
  bounded_is limited lowest h e = answer_is terms (book.last_measured p0) q (rw (limited.0, ← is, lowest.0, h.0)) refl e (lowest.1 ∙ lowest_is) (h.1 ∙ rw (is, limited.1))
