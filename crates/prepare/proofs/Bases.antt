-- From the basis of a measure to its settlement, by the answers that the code was given.
use mathlib.Core.Path.{◌≡◌, refl, sym, subst}
use mathlib.Core.Bool.{true, false}
use mathlib.Core.List.{List}
use Prim.Native.Nat.{ℕ, zero, suc, ◌-◌, ◌≤◌}
use native.Mathlib.Omega.{arith}
use lib.ListN.{length, take, drop, get_or, replicate}
use lib.Seq.{take-length}
use Rattle.rules.specs.Outcome.{refused, given, ◌>>=◌}
use Rattle.rules.specs.Settle.{Place, place_of, basis_of, quarters_of, settlement_of, settled}
use Rattle.rules.proofs.October.{unless_last}
use Rattle.rules.proofs.Bounds.{NominalLow, basis_basic}
use Rattle.place.specs.declared.Place as code-place
use Rattle.place.specs.Places.{meant, Lies}
use Rattle.reference.specs.declared.Reference.{Reference}
use Rattle.reference.specs.declared.Reference.TheVariants.{OnCurve, LastMeasured, OnIrradiance, ByFactor, AsPlanned}
use Rattle.reference.specs.References.{Means, Held}
use Rattle.reference.specs.Manners.{Fits}
use Rattle.reference.proofs.References.{held_by}
use Rattle.terms.specs.declared.Terms.{Terms}
use Rattle.basis.specs.declared.Basis as code
use Rattle.std.specs.Prelude.{Result}
use Rattle.rules.specs.declared.refusal.Refusal.{Refusal}
use Rattle.basis.specs.Bases.{needs_curve, Lent, Found}
use Rattle.prepare.specs.declared.Measure.{Measure}
use Rattle.prepare.specs.Answers.{Prepares, settled_at}

-- ---- the basis

module _ (archive : List ℕ) (place : Place) where
  pub not_based : {n : ℕ} → basis_of archive place ≡ refused n → settled_at archive place ≡ refused n
  unfolding ◌>>=◌
  not_based e = rw e refl

  module _ (powers : List ℕ) (basis : code.Basis) (h : Found (basis_of archive place) powers basis) where
    -- the basis of the rule book that the code's stands for, in range
    pub record Standing : Type 0 where
      pub held : Held basis.reference powers
      pub fits : Fits basis.reference place.terms
      pub links_few : basis.links ≤ 131072

    -- where T isn't P0, the terms bound nothing
    basis_fits : (r : Reference) → Means r powers h.book.reference → Fits r place.terms
    basis_fits (OnCurve x y pn curve) m = sym (unless_last archive place h.book (λ p0 e. let k = m.is in let z : ◌≡◌ {A = ℕ} 0 1 = cc in omega arith) h.is)
    basis_fits (LastMeasured p0) m = tt
    basis_fits (OnIrradiance x y) m = sym (unless_last archive place h.book (λ p0 e. let z : ◌≡◌ {A = ℕ} 0 1 = cc in omega arith) h.is)
    basis_fits (ByFactor pn) m = sym (unless_last archive place h.book (λ p0 e. let k = m.is in let z : ◌≡◌ {A = ℕ} 0 1 = cc in omega arith) h.is)
    basis_fits AsPlanned m = sym (unless_last archive place h.book (λ p0 e. let z : ◌≡◌ {A = ℕ} 0 1 = cc in omega arith) h.is)

    standing : NominalLow place.terms → place.used ≤ 65535 → Standing
    standing low used =
        let l = (basis_basic archive place low used).of h.book h.is in
        record {
          held = held_by h.book.reference h.stands.means l.bounded;
          fits = basis_fits basis.reference h.stands.means;
          links_few = omega (arith, l.links_few, h.stands.links_are);
        }

    pub on_standing : (sheet : List ℕ) (x : Result Measure Refusal)
        → Prepares (quarters_of archive place h.book >>= λ quarters. given (settlement_of place h.book quarters)) sheet x
        → Prepares (settled_at archive place) sheet x
    unfolding ◌>>=◌
    on_standing sheet x p = rw h.is p

-- the same for a place of the code
pub standing_at : {archive : List ℕ} {place : code-place.Place} {powers : List ℕ} {basis : code.Basis} (l : Lies archive place)
    (h : Found (basis_of archive (meant archive place)) powers basis) → Standing archive (meant archive place) powers basis h
standing_at {archive} {place} {powers} {basis} l h = standing archive (meant archive place) powers basis h l.nominal_low (omega (arith, l.few))

-- ---- the place

module _ (archive : List ℕ) (p k : ℕ) where
  pub no_place : {n : ℕ} → refused n ≡ place_of archive p k → settled archive p k ≡ refused n
  unfolding settled ◌>>=◌
  no_place e = rw (← e) refl

  pub at_place : (place : Place) (sheet : List ℕ) (r : Result Measure Refusal) → given place ≡ place_of archive p k → Prepares (settled_at archive place) sheet r
      → Prepares (settled archive p k) sheet r
  unfolding settled ◌>>=◌
  at_place place sheet r e h = rw (← e) h

-- ---- what is lent for the powers of a curve

zeros_low : (n i : ℕ) → get_or (replicate n 0) i 0 ≤ 1000000000
zeros_low zero i = omega arith
zeros_low (suc n) zero = omega arith
zeros_low (suc n) (suc i) = zeros_low n i

pub lent_by : (terms : Terms) (n : ℕ) → (needs_curve terms.technology terms.variant ≡ true → n ≡ 1001) → (needs_curve terms.technology terms.variant ≡ false → n ≡ 0)
    → Lent terms (replicate n 0)
lent_by terms n table none = record {
  table = λ e. rw (table e) (record { size = refl; low = zeros_low 1001 });
  none = λ f. rw (none f) refl;
}

-- the archive lent whole
whole_part : (archive : List ℕ) → take (length archive - 0) (drop 0 archive) ≡ archive
whole_part archive = let e : length archive - 0 ≡ length archive = omega arith in rw e (take-length archive)

pub lies_whole : {place : code-place.Place} (archive : List ℕ) → Lies archive place → Lies (take (length archive - 0) (drop 0 archive)) place
lies_whole {place} archive h = subst (λ (x : List ℕ). Lies x place) (sym (whole_part archive)) h

pub at_whole : (archive : List ℕ) (p k : ℕ) (sheet : List ℕ) (place : code-place.Place) (r : Result Measure Refusal) → given (meant archive place) ≡ place_of archive p k
    → Prepares (settled_at (take (length archive - 0) (drop 0 archive)) (meant (take (length archive - 0) (drop 0 archive)) place)) sheet r
    → Prepares (settled archive p k) sheet r
at_whole archive p k sheet place r e h =
    at_place archive p k (meant archive place) sheet r e (subst (λ (x : List ℕ). Prepares (settled_at x (meant x place)) sheet r) (whole_part archive) h)
