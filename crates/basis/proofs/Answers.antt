-- The rule book's basis from what the walk has gathered, and the code's answer by its tests after the walk.
use mathlib.Core.Path.{◌≡◌, refl, sym, ◌∙◌, ap}
use mathlib.Core.Bool.{Bool, true, false, cond}
use mathlib.Core.List.{List, [], map}
use Prim.Native.Nat.{ℕ, zero, suc, ◌+◌, ◌*◌}
use native.Mathlib.Nat.{zero-add}
use native.Mathlib.Omega.{arith}
use borrow.Author.Tests.{lt-ltb, le-ltb, le-leb, lt-leb, eq-eqb, ne_eqb}
use lib.Dec.{eqb, leb}
use lib.IntN.{ℤ, pos, sub_ℕ, +ℤ_idl, +ℤ_idr}
use lib.ListN.{length}
use Rattle.rules.specs.Outcome.{Outcome, refused, given, ◌>>=◌, ◌>>◌, require}
use Rattle.rules.specs.Refusals.{bad_count, out_of_range, too_few_usable, divisor_zero}
use Rattle.rules.specs.Numbers.{all, keep, sum, or_zero}
use Rattle.rules.specs.Archive.{Entry, chain, before_kind, first_before}
use Rattle.rules.specs.Terms.{Point, mark_allowed}
use Rattle.rules.specs.Reference.{curve_power, on_curve, last_measured, on_irradiance}
use Rattle.rules.specs.Settle.{Place, Basis, befores_of, marked, usable, up_to_used, total_measured, wind_basis, first_marked, pauschal_basis, solar_basis}
use Rattle.rules.proofs.Folds.{gathered_from}
use Rattle.rules.proofs.Ints.{biased_eq}
use Rattle.units.specs.declared.Watt.{Watt}
use Rattle.curve.specs.declared.Curve.{Curve}
use Rattle.curve.specs.Tables.{Tabulates}
use Rattle.reference.specs.declared.Reference.{Reference}
use Rattle.reference.specs.declared.Reference.TheVariants.{OnCurve, LastMeasured, OnIrradiance}
use Rattle.reference.specs.References.{Natural, Means}
use Rattle.comparison.specs.declared.Sums.{Sums}
use Rattle.comparison.specs.declared.Gathered.{Gathered}
use Rattle.comparison.specs.declared.Purpose.{Purpose}
use Rattle.comparison.specs.declared.Purpose.TheVariants.{Four, First, All}
use Rattle.comparison.specs.Sums.{Choice, first_four, first_one, every_one, power_bias, Ready}
use Rattle.comparison.specs.Walks.{no_sums, start, stepped_by, passed}
use Rattle.basis.specs.Bases.{Found, basis_from_sums, compared_by, PnNatural}
use Rattle.basis.proofs.Rest.{rest, from, from_is}

-- ---- the basis from what is gathered

tested_bind : (t u : Bool) (es : List Entry) (f : List Entry → Outcome Basis)
    → ((require t bad_count >> (require u out_of_range >> given es)) >>= f) ≡ (require t bad_count >> (require u out_of_range >> f es))
unfolding ◌>>=◌ ◌>>◌ require
tested_bind true true es f = refl
tested_bind true false es f = refl
tested_bind false u es f = refl

-- nothing is left to be added
module _ (links : ℕ) (s : Sums) where
  none : (n : ℕ) → n + 0 ≡ n
  none n = omega arith

  some_used : (u : ℕ) (o : Outcome Basis) → cond (eqb u 0) (refused too_few_usable) o ≡ (require (leb 1 u) too_few_usable >> o)
  unfolding ◌>>◌ require
  some_used zero o = refl
  some_used (suc u) o = rw (ne_eqb (suc u) 0 (omega arith), le-leb 1 (suc u) (omega arith))

  nothing_left : (choice : Choice) → rest choice links s [] ≡ basis_from_sums choice links s
  unfolding rest basis_from_sums ◌>>◌ require first_marked
  nothing_left (first_four pn points) = rw (none s.used, none s.b, +ℤ_idr (sub_ℕ s.a (power_bias * s.used)))
  nothing_left first_one = some_used s.used (given (record { reference = last_measured (sub_ℕ s.a power_bias); links = links }))
  nothing_left every_one = rw (none s.used, none s.b, +ℤ_idr (sub_ℕ s.a (power_bias * s.used)))

-- a basis that is what the walk gathers from its start
module _ (choice : Choice) (extra : ℕ) (f : List Entry → Outcome Basis)
    (starts : (es : List Entry) → rest choice (extra + length es) no_sums (marked es) ≡ f es)
    (archive : List ℕ) (place : Place) where
  from_start : (es : List Entry)
      → from choice extra start es
      ≡ (require (leb (length es) 96) bad_count
      >> (require (all (λ e. mark_allowed e.bytes) es) out_of_range >> rest choice (extra + length es) no_sums (marked es)))
  from_start es = rw (zero-add (length es))

  based_is : (befores_of archive place >>= f) ≡ compared_by choice archive place extra
  unfolding befores_of ◌>>=◌
  based_is = go (chain archive place.used before_kind place.measure.number (first_before place.measure.bytes))
    where
      ends : (o : Outcome Gathered)
          → (o >>= λ v. rest choice (extra + v.count) v.sums []) ≡ (o >>= λ v. basis_from_sums choice (extra + v.count) v.sums)
      ends (refused n) = refl
      ends (given v) = nothing_left (extra + v.count) v.sums choice

      go : (o : Outcome (List Entry))
          → ((o >>= λ es. require (leb (length es) 96) bad_count >> (require (all (λ e. mark_allowed e.bytes) es) out_of_range >> given es)) >>= f)
          ≡ ((gathered_from (stepped_by choice) start o >>= passed) >>= λ v. basis_from_sums choice (extra + v.count) v.sums)
      go (refused n) = refl
      go (given es) =
          tested_bind (leb (length es) 96) (all (λ e. mark_allowed e.bytes) es) es f
          ∙ rw (← starts es) (sym (from_start es))
          ∙ from_is choice extra start es
          ∙ ends (gathered_from (stepped_by choice) start (given es) >>= passed)

-- wind Spitz
module _ (pn : ℕ) (points : List Point) where
  wind_starts : (es : List Entry) → rest (first_four pn points) (length points + length es) no_sums (marked es) ≡ wind_basis pn points es
  unfolding rest wind_basis
  wind_starts es =
      let four = keep (usable pn) (up_to_used (usable pn) 4 (marked es)) in rw (
        zero-add (length four),
        zero-add (sum (map (λ x. curve_power points (or_zero x.weather)) four)),
        +ℤ_idl (total_measured four),
      )

  pub wind_is : (archive : List ℕ) (place : Place)
      → (befores_of archive place >>= wind_basis pn points) ≡ compared_by (first_four pn points) archive place (length points)
  wind_is archive place = based_is (first_four pn points) (length points) (wind_basis pn points) wind_starts archive place

-- wind and other Pauschal
pauschal_starts : (es : List Entry) → rest first_one (0 + length es) no_sums (marked es) ≡ first_marked (marked es) (length es)
unfolding rest
pauschal_starts es = rw (zero-add (length es))

pub pauschal_is : (archive : List ℕ) (place : Place)
    → pauschal_basis archive place ≡ compared_by first_one archive place 0
pauschal_is archive place = based_is first_one 0 (λ es. first_marked (marked es) (length es)) pauschal_starts archive place

-- solar Spitz
solar_starts : (es : List Entry) → rest every_one (0 + length es) no_sums (marked es) ≡ solar_basis (marked es) (length es)
unfolding rest solar_basis
solar_starts es = rw (
  zero-add (length es),
  zero-add (length (marked es)),
  zero-add (sum (map (λ x. or_zero x.weather) (marked es))),
  +ℤ_idl (total_measured (marked es)),
)

pub solar_is : (archive : List ℕ) (place : Place)
    → (befores_of archive place >>= λ es. solar_basis (marked es) (length es)) ≡ compared_by every_one archive place 0
solar_is archive place = based_is every_one 0 (λ es. solar_basis (marked es) (length es)) solar_starts archive place

-- ---- the code's answer

-- a basis of the code by its parts
pub found_on : {o : Outcome Basis} {r : Reference} {links : ℕ} (powers : List ℕ) (b : Basis) → o ≡ given b → Means r powers b.reference → links ≡ b.links
    → Found o powers (record { reference = r; links = links })
found_on powers b i m e = record { book = b; is = i; stands = record { means = m; links_are = e } }

pub pn_natural : (purpose : Purpose) (powers : List ℕ) → Ready purpose powers → PnNatural purpose
pn_natural (Four pn curve) powers h = h.natural
pn_natural First powers h = tt
pn_natural All powers h = tt

-- after the walk: 11, then 12
module _ (links : ℕ) (s : Sums) where
  natural : (n : ℕ) → sub_ℕ n 0 ≡ pos n
  natural n = sym (biased_eq n 0 (pos n) (omega arith))

  module _ (pn : ℕ) (points : List Point) where
    pub four_few : (s.used ≡ 4 → ⊥) → basis_from_sums (first_four pn points) links s ≡ refused too_few_usable
    unfolding basis_from_sums ◌>>◌ require
    four_few z = rw (ne_eqb s.used 4 z)

    module _ (enough : s.used ≡ 4) where
      pub four_zero : s.b ≡ 0 → basis_from_sums (first_four pn points) links s ≡ refused divisor_zero
      unfolding basis_from_sums ◌>>◌ require
      four_zero z = rw (eq-eqb s.used 4 enough, le-ltb 0 s.b (omega arith))

      pub four_on : (s.b ≡ 0 → ⊥) → (powers : List ℕ) (a b p : Watt) (curve : Curve) → Tabulates curve powers points
          → a.0 ≡ sub_ℕ s.a 4000000000 → b.0 ≡ sub_ℕ s.b 0 → Natural p.0 → or_zero p.0 ≡ pn
          → Found (basis_from_sums (first_four pn points) links s) powers (record { reference = OnCurve a b p curve; links = links })
      unfolding basis_from_sums ◌>>◌ require
      four_on z powers a b p curve t ea eb np ep =
          let four : power_bias * s.used ≡ 4000000000 = omega arith in
          let nb : b.0 ≡ pos s.b = eb ∙ natural s.b in
          found_on powers (record { reference = on_curve (sub_ℕ s.a 4000000000) s.b pn points; links = links })
          (rw (eq-eqb s.used 4 enough, lt-ltb 0 s.b (omega arith), four))
          (record {
            points = points;
            is = rw (ea, ep, ap or_zero nb);
            b_natural = nb ∙ ap (λ (y : ℤ). pos (or_zero y)) (sym nb);
            pn_natural = np;
            tabulates = t;
          }) refl

  pub first_few : s.used ≡ 0 → basis_from_sums first_one links s ≡ refused too_few_usable
  unfolding basis_from_sums ◌>>◌ require
  first_few z = rw (lt-leb 1 s.used (omega arith))

  pub first_on : (s.used ≡ 0 → ⊥) → (powers : List ℕ) (p : Watt) → p.0 ≡ sub_ℕ s.a power_bias
      → Found (basis_from_sums first_one links s) powers (record { reference = LastMeasured p; links = links })
  unfolding basis_from_sums ◌>>◌ require
  first_on z powers p e =
      found_on powers (record { reference = last_measured (sub_ℕ s.a power_bias); links = links })
      (rw (le-leb 1 s.used (omega arith))) (ap last_measured (sym e)) refl

  pub all_few : s.used ≡ 0 → basis_from_sums every_one links s ≡ refused too_few_usable
  unfolding basis_from_sums ◌>>◌ require
  all_few z = rw (lt-leb 1 s.used (omega arith))

  module _ (enough : s.used ≡ 0 → ⊥) where
    pub all_zero : s.b ≡ 0 → basis_from_sums every_one links s ≡ refused divisor_zero
    unfolding basis_from_sums ◌>>◌ require
    all_zero z = rw (le-leb 1 s.used (omega arith), le-ltb 0 s.b (omega arith))

    pub all_on : (s.b ≡ 0 → ⊥) → (powers : List ℕ) (a : Watt) → a.0 ≡ sub_ℕ s.a (power_bias * s.used)
        → Found (basis_from_sums every_one links s) powers (record { reference = OnIrradiance a (record { 0 = s.b }); links = links })
    unfolding basis_from_sums ◌>>◌ require
    all_on z powers a e =
        found_on powers (record { reference = on_irradiance (sub_ℕ s.a (power_bias * s.used)) s.b; links = links })
        (rw (le-leb 1 s.used (omega arith), lt-ltb 0 s.b (omega arith)))
        (ap (λ (y : ℤ). on_irradiance y s.b) (sym e)) refl
