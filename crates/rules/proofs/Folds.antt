-- A chain gone through step by step: what a walk has gathered so far, and what the rest of the chain adds.
use mathlib.Core.Path.{◌≡◌}
use mathlib.Core.List.{List, [], ◌∷◌}
use Prim.Native.Nat.{ℕ}
use native.Mathlib.Omega.{arith}
use Rattle.rules.specs.Outcome.{Outcome, refused, given, ◌>>=◌}
use Rattle.rules.specs.Archive.{Entry}

module _ {S : Type 0} (step : S → Entry → S) where
  abbrev pub gathered : S → List Entry → S
  gathered s [] = s
  gathered s (e ∷ es) = gathered (step s e) es

  -- what a walk gathers that stands at s before the rest of the chain
  abbrev pub gathered_from : S → Outcome (List Entry) → Outcome S
  gathered_from s (refused n) = refused n
  gathered_from s (given es) = given (gathered s es)

  pub gather_turn : (s : S) (o rest : Outcome (List Entry)) (e : Entry) → o ≡ (rest >>= λ es. given (e ∷ es))
      → gathered_from s o ≡ gathered_from (step s e) rest
  unfolding ◌>>=◌
  gather_turn s o (refused n) e f = rw f
  gather_turn s o (given es) e f = rw f

  pub gather_refused : (s : S) (o : Outcome (List Entry)) (n : ℕ) → o ≡ refused n → gathered_from s o ≡ refused n
  gather_refused s o n f = rw f

  pub gather_done : (s : S) (o : Outcome (List Entry)) → o ≡ given [] → gathered_from s o ≡ given s
  gather_done s o f = rw f

  -- a refusal on the way is the chain's
  pub gathered_refused : (s : S) (o : Outcome (List Entry)) (n : ℕ) → gathered_from s o ≡ refused n → o ≡ refused n
  gathered_refused s (refused k) n e = cc
  gathered_refused s (given es) n e = let z : ◌≡◌ {A = ℕ} 0 1 = cc in absurd (omega arith)
