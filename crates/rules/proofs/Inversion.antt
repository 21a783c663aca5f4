-- What holds of everything that an outcome can give, followed along its definition.
use mathlib.Core.Path.{◌≡◌, refl, subst}
use mathlib.Core.Bool.{Bool, true, false, cond, ◌&&◌}
use mathlib.Core.List.{List, [], ◌∷◌}
use Prim.Native.Nat.{ℕ}
use lib.Dec.{T}
use Rattle.rules.specs.Outcome.{Outcome, refused, given, ◌>>=◌, ◌>>◌, require}

-- P holds of what is given
pub record Holds {A : Type 0} (P : A → Type 0) (m : Outcome A) : Type 0 where
  pub of : (a : A) → m ≡ given a → P a

clash : {A : Type 0} {n : ℕ} {a : A} {X : Type 0} → refused n ≡ given a → X
clash {A} e = absurd (subst IsRefused e tt)
  where
    IsRefused : Outcome A → Type 0
    IsRefused (refused n) = Unit {0}
    IsRefused (given a) = ⊥

pub holds_refused : {A : Type 0} {P : A → Type 0} (n : ℕ) → Holds P (refused n)
holds_refused n = record { of = λ a e. clash e }

pub holds_bind : {A B : Type 0} {P : B → Type 0} (m : Outcome A) (f : A → Outcome B) → ((a : A) → m ≡ given a → Holds P (f a)) → Holds P (m >>= f)
unfolding ◌>>=◌
holds_bind (refused n) f h = record { of = λ a e. clash e }
holds_bind (given a) f h = h a refl

pub holds_require : {B : Type 0} {P : B → Type 0} (t : Bool) (n : ℕ) (rest : Outcome B) → (T t → Holds P rest) → Holds P (require t n >> rest)
unfolding ◌>>◌ require
holds_require true n rest h = h tt
holds_require false n rest h = record { of = λ a e. clash e }

pub given_inj : {A : Type 0} {a b : A} → given a ≡ given b → a ≡ b
given_inj e = cc

pub holds_given : {A : Type 0} {P : A → Type 0} (a : A) → P a → Holds P (given a)
holds_given {P} a p = record { of = λ b e. subst P (given_inj e) p }

pub holds_cond : {A : Type 0} {P : A → Type 0} (t : Bool) {x y : Outcome A} → Holds P x → Holds P y → Holds P (cond t x y)
holds_cond true h k = h
holds_cond false h k = k

-- going on alike with what is given
pub bind_same : {A B : Type 0} (m : Outcome A) (f g : A → Outcome B) → ((a : A) → m ≡ given a → f a ≡ g a) → (m >>= f) ≡ (m >>= g)
unfolding ◌>>=◌
bind_same (refused n) f g h = refl
bind_same (given a) f g h = h a refl

-- a fact that does not depend on what is given
pub holds_anyway : {A : Type 0} {X : Type 0} (m : Outcome A) → X → Holds (λ (a : A). X) m
holds_anyway m x = record { of = λ a e. x }

pub same_given : {A : Type 0} {m : Outcome A} {a b : A} → m ≡ given a → m ≡ given b → a ≡ b
same_given p q = cc

-- a test of several parts passed
pub both_left : (t u : Bool) → T (t && u) → T t
both_left true u h = tt
both_left false u h = h

pub both_right : (t u : Bool) → T (t && u) → T u
both_right true u h = h
both_right false u h = absurd h

-- every element of a list
pub data All {A : Type 0} (P : A → Type 0) : List A → Type 0 where
  none : All P []
  more : {a : A} {rest : List A} → P a → All P rest → All P (a ∷ rest)
