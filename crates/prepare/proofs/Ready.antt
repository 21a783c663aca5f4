-- A measure ready to be booked, from the walk over its quarters.
use mathlib.Core.Path.{◌≡◌, refl, sym, ◌∙◌, ap}
use mathlib.Core.List.{List}
use Prim.Native.Nat.{ℕ, ◌+◌, ◌^◌, ◌≤◌, ◌<◌}
use native.Mathlib.Omega.{arith}
use lib.ListN.{length, take, length-map}
use Rattle.rules.specs.Outcome.{Outcome, refused, given, ◌>>=◌}
use Rattle.rules.specs.Terms.{Quarter}
use Rattle.rules.specs.Settle.{Place, Basis, quarters_of, measure_denominator, exacts_of, Settlement, settlement_of}
use Rattle.rules.proofs.Settled.{quarters_counted, amounts_length}
use Rattle.std.specs.Prelude.{Ok, Err}
use Rattle.rules.specs.Results.{number}
use Rattle.rules.specs.declared.refusal.Refusal.{Refusal}
use Rattle.quarters.specs.Walks.{WalkedBy}
use Rattle.prepare.specs.declared.Measure.{Measure}
use Rattle.prepare.specs.Answers.{Stands}

module _ (archive : List ℕ) (place : Place) (basis : Basis) (sheet : List ℕ) where
  abbrev settled_with : Basis → Outcome Settlement
  settled_with b = quarters_of archive place b >>= λ quarters. given (settlement_of place b quarters)

  pub walk_refused : {e : Refusal} → WalkedBy archive place basis sheet (Err e) → settled_with basis ≡ refused (number e)
  unfolding ◌>>=◌
  walk_refused {e} w = rw (go (quarters_of archive place basis) w.answers) refl
    where
      go : (o : Outcome (List Quarter)) → refused (number e) ≡ (o >>= λ quarters. given (length quarters)) → o ≡ refused (number e)
      go (refused k) f = let i : k ≡ number e = cc in ap refused i
      go (given quarters) f = cc

  -- the quarters that were counted
  pub record Counted (count : ℕ) : Type 0 where
    pub quarters : List Quarter
    pub are : quarters_of archive place basis ≡ given quarters
    pub is : count ≡ length quarters
    pub few : count ≤ 2976

  module _ {count : ℕ} (w : WalkedBy archive place basis sheet (Ok count)) where
    pub counted : Counted count
    unfolding ◌>>=◌
    counted = go (quarters_of archive place basis) refl w.answers
      where
        go : (o : Outcome (List Quarter)) → quarters_of archive place basis ≡ o → given count ≡ (o >>= λ quarters. given (length quarters)) → Counted count
        go (refused k) q f = cc
        go (given quarters) q f =
            let i : count ≡ length quarters = cc in
            record { quarters = quarters; are = q; is = i; few = omega (arith, ((quarters_counted archive place basis).of quarters q).few) }

    pub stands : (m : Measure) → m.count ≡ count → m.direction ≡ place.terms.direction → m.denominator ≡ measure_denominator basis
        → m.links ≡ place.links + basis.links + count → 0 < m.denominator → m.denominator ≤ 2 ^ 63
        → Stands (settled_with basis) sheet m
    unfolding ◌>>=◌
    stands m same d n l positive low = record {
      settlement = settlement_of place basis c.quarters;
      is = rw c.are refl;
      counted = amounts_length _ _ (exacts_of place basis c.quarters) ∙ length-map c.quarters _ ∙ sym is;
      links_are = rw l (ap (λ (k : ℕ). place.links + basis.links + k) (sym c.is));
      few = omega (arith, same, c.few);
      positive = positive;
      low = low;
      amounts_are = λ h. rw (d, n, taken h) refl;
      fits = λ h. rw (n, taken h) (w.fits c.quarters c.are);
    }
      where
        c : Counted count
        c = counted

        is : m.count ≡ length c.quarters
        is = same ∙ c.is

        taken : m.count ≤ length sheet → take m.count sheet ≡ exacts_of place basis c.quarters
        taken h = ap (λ (k : ℕ). take k sheet) is ∙ w.writes c.quarters c.are (omega (arith, h, is))
