-- The basis by technology and variant, from the answers of the functions that the code has for it.
use mathlib.Core.Path.{◌≡◌, refl, sym, ◌∙◌, subst}
use mathlib.Core.Bool.{Bool, true, false, false≢true}
use mathlib.Core.List.{List}
use Prim.Native.Nat.{ℕ, ◌≤◌}
use native.Mathlib.Omega.{arith}
use lib.ListN.{length}
use Rattle.rules.specs.Outcome.{Outcome, refused, given, ◌>>=◌}
use Rattle.rules.specs.Numbers.{or_zero}
use Rattle.rules.specs.declared.Technology.{Technology}
use Rattle.rules.specs.declared.Technology.TheVariants.{Wind as wind, Solar as solar, Other as other}
use Rattle.rules.specs.declared.Variant.{Variant}
use Rattle.rules.specs.declared.Variant.TheVariants.{Spitz as spitz, Pauschal as pauschal}
use Rattle.rules.specs.Terms.{Point}
use Rattle.rules.specs.Settle.{Place, Basis, points_of, befores_of, marked, wind_basis, pauschal_basis, solar_basis, basis_by}
use Rattle.units.specs.declared.Watt.{Watt}
use Rattle.points.specs.declared.PlantCurve.{PlantCurve}
use Rattle.points.specs.Answers.{PointsGiven}
use Rattle.terms.specs.declared.Terms.{Terms}
use Rattle.reference.specs.declared.Reference.{Reference}
use Rattle.reference.specs.declared.Reference.TheVariants.{ByFactor, AsPlanned}
use Rattle.reference.specs.References.{Natural}
use Rattle.comparison.specs.declared.Purpose.{Purpose}
use Rattle.comparison.specs.declared.Purpose.TheVariants.{Four, First, All}
use Rattle.comparison.specs.Sums.{first_four, first_one, every_one, Ready}
use Rattle.std.specs.Prelude.{Result}
use Rattle.rules.specs.declared.refusal.Refusal.{Refusal}
use Rattle.basis.specs.declared.Basis as coded
use Rattle.basis.specs.declared.Ground.TheVariants.{Comparison, ByTerms}
use Rattle.basis.specs.Bases.{needs_curve, ground_of, ForCurve, Lent, Compared, Found, Finds}
use Rattle.basis.proofs.Answers.{found_on, wind_is, pauschal_is, solar_is}

-- a finding of the same outcome
by_book : {o p : Outcome Basis} (powers : List ℕ) (r : Result coded.Basis Refusal) → o ≡ p → Finds p powers r → Finds o powers r
by_book powers r e f = rw e f

-- ---- wind Spitz

on_points : (archive : List ℕ) (place : Place) (points : List Point) → points_of archive place ≡ given points
    → basis_by wind spitz archive place ≡ (befores_of archive place >>= wind_basis place.terms.nominal_power points)
unfolding basis_by ◌>>=◌
on_points archive place points e = rw e

module _ (archive : List ℕ) (place : Place) where
  pub wind_refused : {n : ℕ} → points_of archive place ≡ refused n → basis_by wind spitz archive place ≡ refused n
  unfolding basis_by ◌>>=◌
  wind_refused e = rw e refl

  pub wind_on : (read : PlantCurve) (powers : List ℕ) → PointsGiven (points_of archive place) read powers → (pn : Watt) → or_zero pn.0 ≡ place.terms.nominal_power
      → (based : Result coded.Basis Refusal) → Compared (Four pn read.curve) archive place powers read.links based → Finds (basis_by wind spitz archive place) powers based
  wind_on read powers p pn e based c =
      let is = on_points archive place p.points p.is ∙ wind_is place.terms.nominal_power p.points archive place in
      let f = c.by (first_four (or_zero pn.0) p.points) (record { points = p.points; is = refl; tabulates = p.tabulates }) in
      by_book powers based is (rw (e, p.count) at f)

-- ---- every pairing

-- a curve is needed in wind Spitz alone
pub is_wind : (t : Technology) (v : Variant) → needs_curve t v ≡ true → (t ≡ wind) × (v ≡ spitz)
is_wind wind spitz e = (refl, refl)
is_wind wind pauschal e = absurd (false≢true e)
is_wind solar v e = absurd (false≢true e)
is_wind other v e = absurd (false≢true e)

pub by_told : (archive : List ℕ) (place : Place) (powers : List ℕ) {x t : Technology} {y v : Variant} (based : Result coded.Basis Refusal) → x ≡ t → y ≡ v
    → Finds (basis_by t v archive place) powers based → Finds (basis_by x y archive place) powers based
by_told archive place powers based t v f = rw (t, v) f

-- ---- off the curve

-- a purpose of it asks nothing of the powers
pub ground_ready : (t : Technology) (v : Variant) (pn : Watt) (purpose : Purpose) (powers : List ℕ) → ground_of t v pn ≡ Comparison purpose
    → Ready purpose powers
ground_ready t v pn (Four p curve) powers e = absurd (no_four t v e)
  where
    no_four : (t : Technology) (v : Variant) → ground_of t v pn ≡ Comparison (Four p curve) → ⊥
    no_four wind v e = let z : ◌≡◌ {A = ℕ} 0 1 = cc in omega arith
    no_four solar spitz e = let z : ◌≡◌ {A = ℕ} 0 1 = cc in omega arith
    no_four solar pauschal e = let z : ◌≡◌ {A = ℕ} 0 1 = cc in omega arith
    no_four other spitz e = let z : ◌≡◌ {A = ℕ} 0 1 = cc in omega arith
    no_four other pauschal e = let z : ◌≡◌ {A = ℕ} 0 1 = cc in omega arith
ground_ready t v pn First powers e = tt
ground_ready t v pn All powers e = tt

module _ (archive : List ℕ) (place : Place) (powers : List ℕ) (r : Result coded.Basis Refusal) where
  -- on the before-quarters
  module _ (purpose : Purpose) (c : Compared purpose archive place powers 0 r) where
    first : First ≡ purpose → Finds (pauschal_basis archive place) powers r
    first e =
        let f = (subst (λ (p : Purpose). Compared p archive place powers 0 r) (sym e) c).by first_one refl in
        subst (λ (o : Outcome Basis). Finds o powers r) (sym (pauschal_is archive place)) f

    every : All ≡ purpose → Finds (befores_of archive place >>= λ es. solar_basis (marked es) (length es)) powers r
    every e =
        let f = (subst (λ (p : Purpose). Compared p archive place powers 0 r) (sym e) c).by every_one refl in
        subst (λ (o : Outcome Basis). Finds o powers r) (sym (solar_is archive place)) f

    pub on_comparison : (t : Technology) (v : Variant) (pn : Watt) → needs_curve t v ≡ false → ground_of t v pn ≡ Comparison purpose
        → Finds (basis_by t v archive place) powers r
    unfolding basis_by
    on_comparison wind spitz pn n e = absurd (false≢true (sym n))
    on_comparison wind pauschal pn n e = first (cc)
    on_comparison solar spitz pn n e = every (cc)
    on_comparison solar pauschal pn n e = let z : ◌≡◌ {A = ℕ} 0 1 = cc in absurd (omega arith)
    on_comparison other spitz pn n e = let z : ◌≡◌ {A = ℕ} 0 1 = cc in absurd (omega arith)
    on_comparison other pauschal pn n e = first (cc)

module _ (archive : List ℕ) (place : Place) (powers : List ℕ) (pn : Watt) (natural : Natural pn.0) (is : or_zero pn.0 ≡ place.terms.nominal_power) where
  factor_finds : Found (basis_by solar pauschal archive place) powers (record { reference = ByFactor pn; links = 0 })
  unfolding basis_by
  factor_finds = found_on powers _ refl (record { is = rw is; natural = natural }) refl

  planned_finds : Found (basis_by other spitz archive place) powers (record { reference = AsPlanned; links = 0 })
  unfolding basis_by
  planned_finds = found_on powers _ refl refl refl

  on : (t : Technology) (v : Variant) {x y : Reference} → x ≡ y → Found (basis_by t v archive place) powers (record { reference = x; links = 0 })
      → Found (basis_by t v archive place) powers (record { reference = y; links = 0 })
  on t v e f = subst (λ (z : Reference). Found (basis_by t v archive place) powers (record { reference = z; links = 0 })) e f

  -- on the terms alone
  pub on_terms : (t : Technology) (v : Variant) (reference : Reference) → ground_of t v pn ≡ ByTerms reference
      → Found (basis_by t v archive place) powers (record { reference = reference; links = 0 })
  on_terms wind v reference e = cc
  on_terms solar spitz reference e = cc
  on_terms solar pauschal reference e = on solar pauschal (cc) factor_finds
  on_terms other spitz reference e = on other spitz (cc) planned_finds
  on_terms other pauschal reference e = cc

-- ---- whether a curve is needed, by what is lent

module _ (terms : Terms) (powers : List ℕ) (h : Lent terms powers) where
  pub lent_none : length powers ≡ 0 → needs_curve terms.technology terms.variant ≡ false
  lent_none e = go _ refl
    where
      go : (b : Bool) → needs_curve terms.technology terms.variant ≡ b → needs_curve terms.technology terms.variant ≡ false
      go false i = i
      go true i = absurd (omega (arith, e, (h.table i).size))

  pub lent_table : 1 ≤ length powers → ForCurve terms powers
  lent_table l = go _ refl
    where
      go : (b : Bool) → needs_curve terms.technology terms.variant ≡ b → ForCurve terms powers
      go false i = absurd (omega (arith, l, h.none i))
      go true i = record { needs = i; spare = h.table i }
