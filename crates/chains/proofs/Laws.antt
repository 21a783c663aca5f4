-- What an answer to a link says, over plain variables.
use Rattle.std.proofs.Common.{◌≡◌, ℕ, zero, suc, ◌-◌, ◌<◌, Bool, true, false, cond, eqb, List, Option, None, Some, Result, Ok, Err, refl, ◌∙◌, ap, arith}
use borrow.Author.Tests.{ne_eqb}
use Rattle.rules.specs.Outcome.{Outcome, refused, given, ◌>>=◌}
use Rattle.rules.specs.Archive.{Entry, follow, entry_at}
use Rattle.rules.specs.declared.refusal.Refusal.{Refusal}
use Rattle.rules.proofs.Runs.{follow_says}
use Rattle.chains.specs.Answers.{linked}

-- an answer that leads to no record
abbrev pub NoAt : Result (Option ℕ) Refusal → Type 0
NoAt (Ok (Some n)) = ⊥
NoAt (Ok None) = Unit {0}
NoAt (Err e) = Unit {0}

-- what is left of a link's answer where it leads to no record
pub no_at : (answer : Result (Option ℕ) Refusal) → ((n : ℕ) → answer ≡ Ok (Some n) → ⊥) → NoAt answer
no_at (Ok (Some n)) w = w n refl
no_at (Ok None) w = tt
no_at (Err e) w = tt

module _ (archive : List ℕ) (used kind holder : ℕ) where
  pub linked_end : {l : ℕ} → l ≡ 0 → given None ≡ linked archive used kind holder l
  linked_end z = rw z refl

  pub linked_refused : (l n : ℕ) → (l ≡ 0 → ⊥) → follow archive used kind holder l ≡ refused n → refused n ≡ linked archive used kind holder l
  unfolding ◌>>=◌
  linked_refused zero n z e = absurd (z refl)
  linked_refused (suc l) n z e = rw e refl

  pub linked_given : (l : ℕ) (e : Entry) → (l ≡ 0 → ⊥) → follow archive used kind holder l ≡ given e → given (Some e) ≡ linked archive used kind holder l
  unfolding ◌>>=◌
  linked_given zero e z f = absurd (z refl)
  linked_given (suc l) e z f = rw f refl

  -- what an answer that leads to record n says: n can be followed, links rise, and the record lies in the archive's used part
  pub record Met (l n : ℕ) : Type 0 where
    pub is : follow archive used kind holder l ≡ given (entry_at archive n)
    pub link : l ≡ n
    pub rises : holder < n
    pub below : n < used

  pub met_record : (l n : ℕ) → follow archive used kind holder l ≡ given (entry_at archive n) → Met l n
  met_record l n f =
      let s = follow_says archive used kind holder l (entry_at archive n) f in
      let k : l ≡ n = ap (λ e. e.number) s.3 in
      record { is = f; link = k; rises = omega (arith, s.0, k); below = omega (arith, s.1, k) }

  module _ (l : ℕ) where
    pub met : (n : ℕ) → given (Some (entry_at archive n)) ≡ linked archive used kind holder l → Met l n
    unfolding ◌>>=◌
    met n a = go l (follow archive used kind holder l) refl a
      where
        go : (l : ℕ) (o : Outcome Entry) → follow archive used kind holder l ≡ o → given (Some (entry_at archive n)) ≡ linked archive used kind holder l → Met l n
        go zero o f b = cc
        go (suc l) (refused k) f b = let b' = rw f at b in cc
        go (suc l) (given e) f b = let b' = rw f at b in met_record (suc l) n (f ∙ ap given (cc))

    pub met_none : given None ≡ linked archive used kind holder l → l ≡ 0
    unfolding ◌>>=◌
    met_none a = go l (follow archive used kind holder l) refl a
      where
        go : (l : ℕ) (o : Outcome Entry) → follow archive used kind holder l ≡ o → given None ≡ linked archive used kind holder l → l ≡ 0
        go zero o f b = refl
        go (suc l) (refused k) f b = let b' = rw f at b in cc
        go (suc l) (given e) f b = let b' = rw f at b in cc

    pub met_refused : (k : ℕ) → refused k ≡ linked archive used kind holder l → (l ≡ 0 → ⊥) × (follow archive used kind holder l ≡ refused k)
    unfolding ◌>>=◌
    met_refused k a = go l (follow archive used kind holder l) refl a
      where
        go : (l : ℕ) (o : Outcome Entry) → follow archive used kind holder l ≡ o → refused k ≡ linked archive used kind holder l
            → (l ≡ 0 → ⊥) × (follow archive used kind holder l ≡ refused k)
        go zero o f b = cc
        go (suc l) (refused n) f b = let b' = rw f at b in ((λ z. omega (arith, z)), f ∙ cc)
        go (suc l) (given e) f b = let b' = rw f at b in cc

-- a step on, fewer are left
pub left_falls : {used last link n : ℕ} (onward : ℕ) → link ≡ n → last < n → n < used
    → cond (eqb onward 0) 0 (suc (used - n)) < cond (eqb link 0) 0 (suc (used - last))
left_falls {used} {last} {link} {n} onward e rises below =
    rw (ne_eqb link 0 (λ z. omega arith)) (go (eqb onward 0))
  where
    go : (t : Bool) → cond t 0 (suc (used - n)) < suc (used - last)
    go true = omega arith
    go false = omega arith
