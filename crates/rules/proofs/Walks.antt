-- A walk along a chain, step by step: what `chain` and `at_place` are, by what `follow` gives for the link at hand; and what is found at a place.
use mathlib.Core.Path.{◌≡◌, refl, sym, ◌∙◌, ap}
use mathlib.Core.Bool.{Bool, true, false, cond}
use mathlib.Core.List.{List, ◌∷◌}
use Prim.Native.Nat.{ℕ, zero, suc, ◌+◌, ◌≤◌, ◌<◌}
use native.Mathlib.Omega.{arith}
use lib.Dec.{eqb}
use borrow.Author.Tests.{eq-eqb, ne_eqb}
use Rattle.rules.specs.Outcome.{refused, given, ◌>>=◌}
use Rattle.rules.specs.Archive.{Entry, next_of, follow, at_place, chain, entry_at}
use Rattle.rules.proofs.Chains.{chain_goes}
use Rattle.rules.proofs.Sound.{bind_both}
use Rattle.rules.proofs.Runs.{follow_says}

module _ (archive : List ℕ) (used kind holder link : ℕ) where
  -- a link that can be followed isn't zero
  pub follow_some : (e : Entry) → follow archive used kind holder link ≡ given e → link ≡ 0 → ⊥
  follow_some e f z = let above = (follow_says archive used kind holder link e f).0 in omega arith

  -- ---- a chain to its end; `chain_ends` of proofs/Chains.antt is its third case

  pub chain_on : (e : Entry) → follow archive used kind holder link ≡ given e
      → chain archive used kind holder link ≡ (chain archive used kind e.number (next_of e.bytes) >>= λ es. given (e ∷ es))
  unfolding ◌>>=◌
  chain_on e f = rw (chain_goes archive used kind holder link (follow_some e f), f)

  pub chain_refused : (n : ℕ) → (link ≡ 0 → ⊥) → follow archive used kind holder link ≡ refused n → chain archive used kind holder link ≡ refused n
  unfolding ◌>>=◌
  chain_refused n z f = rw (chain_goes archive used kind holder link z, f)

  -- ---- to a place of a chain

  module _ (missing : ℕ) where
    pub place_last : (e : Entry) → follow archive used kind holder link ≡ given e → at_place archive used kind missing 1 holder link ≡ given e
    place_last e f = rw (ne_eqb link 0 (follow_some e f), f)

    pub place_on : (place : ℕ) (e : Entry) → follow archive used kind holder link ≡ given e
        → at_place archive used kind missing (suc (suc place)) holder link ≡ at_place archive used kind missing (suc place) e.number (next_of e.bytes)
    unfolding ◌>>=◌
    place_on place e f = rw (ne_eqb link 0 (follow_some e f), f)

    pub place_missing : (place : ℕ) → link ≡ 0 → at_place archive used kind missing place holder link ≡ refused missing
    place_missing zero z = refl
    place_missing (suc zero) z = rw (eq-eqb link 0 z)
    place_missing (suc (suc place)) z = rw (eq-eqb link 0 z)

    pub place_refused : (place n : ℕ) → (link ≡ 0 → ⊥) → follow archive used kind holder link ≡ refused n
        → at_place archive used kind missing (suc place) holder link ≡ refused n
    unfolding ◌>>=◌
    place_refused zero n z f = rw (ne_eqb link 0 z, f)
    place_refused (suc place) n z f = rw (ne_eqb link 0 z, f)

module _ (archive : List ℕ) (used kind : ℕ) where
  -- a record found at a place of a chain: links rise, so its number is above its holder's by the place or more
  pub record Placed (holder place : ℕ) (e : Entry) : Type 0 where
    pub is : e ≡ entry_at archive e.number
    pub above : holder + place ≤ e.number
    pub below : e.number < used

  first_placed : (holder link : ℕ) (e : Entry) → follow archive used kind holder link ≡ given e → Placed holder 1 e
  first_placed holder link e f =
      let s = follow_says archive used kind holder link e f in
      let i : link ≡ e.number = ap (λ x. x.number) s.3 in
      record {
        is = sym s.3 ∙ ap (entry_at archive) i;
        above = omega (arith, s.0);
        below = omega (arith, s.1);
      }

  pub placed : (missing place holder link : ℕ) (e : Entry) → at_place archive used kind missing place holder link ≡ given e → Placed holder place e
  placed missing zero holder link e p = let z : ◌≡◌ {A = ℕ} 0 1 = cc in absurd (omega arith)
  placed missing (suc zero) holder link e p = go (eqb link 0) p
    where
      go : (t : Bool) → cond t (refused missing) (follow archive used kind holder link) ≡ given e → Placed holder 1 e
      go true q = let z : ◌≡◌ {A = ℕ} 0 1 = cc in absurd (omega arith)
      go false q = first_placed holder link e q
  placed missing (suc (suc place)) holder link e p = go (eqb link 0) p (placed missing (suc place))
    where
      go : (t : Bool)
          → cond t (refused missing) (follow archive used kind holder link >>= λ x. at_place archive used kind missing (suc place) x.number (next_of x.bytes)) ≡ given e
          → ((holder link : ℕ) (e : Entry) → at_place archive used kind missing (suc place) holder link ≡ given e → Placed holder (suc place) e)
          → Placed holder (suc (suc place)) e
      go true q rest = let z : ◌≡◌ {A = ℕ} 0 1 = cc in absurd (omega arith)
      go false q rest =
          let b = bind_both (follow archive used kind holder link) _ q in
          let f = first_placed holder link b.0 b.1 in
          let r = rest b.0.number (next_of b.0.bytes) e b.2 in
          record { is = r.is; above = omega arith; below = r.below }
