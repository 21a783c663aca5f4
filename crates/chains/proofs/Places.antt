-- A walk to a place of a chain, over plain variables.
use Rattle.std.proofs.Common.{◌≡◌, ℕ, suc, ◌+◌, ◌-◌, List, refl, sym, ◌∙◌, ap, arith}
use Rattle.rules.specs.Outcome.{refused, given}
use Rattle.rules.specs.Results.{number}
use Rattle.rules.specs.Archive.{entry_at, at_place}
use Rattle.rules.specs.declared.refusal.Refusal.{Refusal}
use Rattle.rules.proofs.Walks.{place_last, place_on, place_missing, place_refused}
use Rattle.chains.specs.declared.Chain.{Chain}
use Rattle.chains.specs.Steps.{Starts, Turns, Refuses}
use Rattle.chains.proofs.Walking.{Along, along_starts, along_meets, along_turns, along_link, along_refused}

module _ (archive : List ℕ) (used kind place holder first : ℕ) where
  -- so many links on, the place is met behind so many others
  pub record Nearing (links : ℕ) (walk : Chain) : Type 0 where
    pub along : Along archive used kind walk
    pub rest : ℕ
    pub count : links + suc rest ≡ place
    pub is : (missing : ℕ) → at_place archive used kind missing place holder first ≡ at_place archive used kind missing (suc rest) walk.last walk.link

  pub nears_starts : {walk : Chain} → (place ≡ 0 → ⊥) → Starts archive used kind holder first walk → Nearing 0 walk
  nears_starts {walk} z s =
      let p : place ≡ suc (place - 1) = omega (arith, z) in
      record {
        along = along_starts s;
        rest = place - 1;
        count = omega (arith, z);
        is = λ missing.
            ap (λ (n : ℕ). at_place archive used kind missing n holder first) p
            ∙ rw (s.last_is, s.link_is) refl;
      }

  pub no_link : first ≡ 0 → (missing : ℕ) → refused missing ≡ at_place archive used kind missing place holder first
  no_link z missing = sym (place_missing archive used kind holder first missing place z)

  module _ {links : ℕ} {walk : Chain} (w : Nearing links walk) where
    pub nears_there : {n : ℕ} {then : Chain} → Turns walk n then → links + 1 ≡ place → (missing : ℕ)
        → given (entry_at archive n) ≡ at_place archive used kind missing place holder first
    nears_there {n} t e missing =
        let z : w.rest ≡ 0 = omega (arith, w.count, e) in
        let m = along_meets w.along t in
        sym (w.is missing ∙ rw z (place_last archive used kind walk.last walk.link missing (entry_at archive n) m.is))

    pub nears_on : {n : ℕ} {then : Chain} → Turns walk n then → (links + 1 ≡ place → ⊥) → Nearing (links + 1) then
    nears_on {n} {then} t e =
        let p : w.rest ≡ suc (w.rest - 1) = omega (arith, w.count, e) in
        let m = along_meets w.along t in
        record {
          along = along_turns w.along t;
          rest = w.rest - 1;
          count = omega (arith, w.count, e);
          is = λ missing.
              w.is missing
              ∙ ap (λ (k : ℕ). at_place archive used kind missing (suc k) walk.last walk.link) p
              ∙ rw (t.last_is, along_link w.along t) (place_on archive used kind walk.last walk.link missing (w.rest - 1) (entry_at archive n) m.is);
        }

    pub nears_end : walk.link ≡ 0 → (missing : ℕ) → refused missing ≡ at_place archive used kind missing place holder first
    nears_end z missing = sym (w.is missing ∙ place_missing archive used kind walk.last walk.link missing (suc w.rest) z)

    pub nears_refused : {e : Refusal} → Refuses walk e → (missing : ℕ) → refused (number e) ≡ at_place archive used kind missing place holder first
    nears_refused {e} r missing =
        sym (w.is missing ∙ place_refused archive used kind walk.last walk.link missing w.rest (number e) r.some (along_refused w.along r))
