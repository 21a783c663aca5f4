-- A chain of records satisfies its own equation: the bound on its steps is never met.
use mathlib.Core.Path.{◌≡◌, refl, sym, ap}
use mathlib.Core.Bool.{Bool, true, false, cond, ◌&&◌}
use mathlib.Core.List.{List, [], ◌∷◌}
use Prim.Native.Nat.{ℕ, zero, suc, ◌+◌, ◌-◌, ◌*◌, ◌≤◌, ◌<◌}
use lib.ListN.{length, take, drop}
use native.Mathlib.Nat.{le_refl, suc-le-suc_iff}
use native.Mathlib.Omega.{arith}
use lib.Dec.{T, eqb, ltb, ltb→lt}
use Rattle.rules.specs.Outcome.{refused, given, ◌>>=◌, ◌>>◌, require}
use borrow.Author.Tests.{lt-ltb, le-ltb, eq-eqb, ne_eqb}
use Rattle.rules.specs.Archive.{record_at, kind_of, entry_at, follow, next_of, chain_from, chain}
use Rattle.rules.proofs.Inversion.{Holds, holds_cond, holds_refused, holds_bind, holds_require, holds_given, both_left, bind_same}

module _ (archive : List ℕ) (used kind : ℕ) where
  pub follow_rises : (holder link : ℕ) → Holds (λ e. holder < e.number) (follow archive used kind holder link)
  unfolding follow
  follow_rises holder link =
      holds_require _ 2 _ (λ t. holds_require _ 3 _ (λ u.
      holds_given _ (ltb→lt holder link (both_left (ltb holder link) (ltb link used) t))))

  no_room_lem : (holder link : ℕ) → used ≤ holder + 1 → follow archive used kind holder link ≡ refused 2
  unfolding follow ◌>>◌ require
  no_room_lem holder link h = rw (fails (ltb holder link) (ltb link used) (ltb→lt holder link) (ltb→lt link used))
    where
      fails : (t u : Bool) → (T t → holder < link) → (T u → link < used) → (t && u) ≡ false
      fails true true f g = let l : holder < link = f tt in let m : link < used = g tt in absurd (omega arith)
      fails true false f g = refl
      fails false u f g = refl

  one_more : (steps holder link : ℕ) → used ≤ steps + holder + 1 → chain_from archive used kind (suc steps) holder link ≡ chain_from archive used kind steps holder link
  unfolding ◌>>=◌
  one_more zero holder link h = rw (no_room_lem holder link (omega arith))
  one_more (suc steps) holder link h =
      ap (λ o. cond (eqb link 0) (given []) o)
      (bind_same (follow archive used kind holder link) _ _ (λ e k.
      ap (λ o. o >>= λ es. given (e ∷ es)) (one_more steps e.number (next_of e.bytes) (omega (arith, (follow_rises holder link).of e k)))))

  pub chain_is : (holder link : ℕ) → chain archive used kind holder link
      ≡ cond (eqb link 0) (given []) (follow archive used kind holder link >>= λ e. chain archive used kind e.number (next_of e.bytes) >>= λ es. given (e ∷ es))
  unfolding chain
  chain_is holder link = sym (one_more used holder link (omega arith))

  pub chain_ends : (holder link : ℕ) → link ≡ 0 → chain archive used kind holder link ≡ given []
  chain_ends holder link h = rw (chain_is holder link, eq-eqb link 0 h)

  pub chain_goes : (holder link : ℕ) → (link ≡ 0 → ⊥) → chain archive used kind holder link
      ≡ (follow archive used kind holder link >>= λ e. chain archive used kind e.number (next_of e.bytes) >>= λ es. given (e ∷ es))
  chain_goes holder link h = rw (chain_is holder link, ne_eqb link 0 h)

  none_few : (n : ℕ) → 0 ≤ n
  none_few n = omega arith

  steps_few : (steps holder link : ℕ) → Holds (λ es. length es ≤ steps) (chain_from archive used kind steps holder link)
  steps_few zero holder link = holds_cond (eqb link 0) (holds_given _ (le_refl 0)) (holds_refused 2)
  steps_few (suc steps) holder link =
      holds_cond (eqb link 0) (holds_given _ (none_few (suc steps)))
      (holds_bind _ _ (λ e h. holds_bind _ _ (λ es k. holds_given _ (suc-le-suc_iff.1 ((steps_few steps e.number (next_of e.bytes)).of es k)))))

  -- a chain has at most U records
  pub chain_few : (holder link : ℕ) → Holds (λ es. length es ≤ used) (chain archive used kind holder link)
  unfolding chain
  chain_few holder link = steps_few used holder link

  -- the four answers to a link
  pub follow_low : (holder link : ℕ) → link ≤ holder → follow archive used kind holder link ≡ refused 2
  unfolding follow ◌>>◌ require
  follow_low holder link h = rw (le-ltb holder link h)

  pub follow_high : (holder link : ℕ) → holder < link → used ≤ link → follow archive used kind holder link ≡ refused 2
  unfolding follow ◌>>◌ require
  follow_high holder link h k = rw (lt-ltb holder link h, le-ltb link used k)

  pub follow_other : (holder link : ℕ) → holder < link → link < used → eqb (kind_of (record_at archive link)) kind ≡ false
      → follow archive used kind holder link ≡ refused 3
  unfolding follow ◌>>◌ require
  follow_other holder link h k e = rw (lt-ltb holder link h, lt-ltb link used k, e)

  pub follow_met : (holder link : ℕ) → holder < link → link < used → eqb (kind_of (record_at archive link)) kind ≡ true
      → follow archive used kind holder link ≡ given (entry_at archive link)
  unfolding follow ◌>>◌ require
  follow_met holder link h k e = rw (lt-ltb holder link h, lt-ltb link used k, e)

-- the part `&archive[32 * n..32 * n + 32]` that code hands to a record's reader
pub record_part : (archive : List ℕ) (n : ℕ) → take (32 * n + 32 - 32 * n) (drop (32 * n) archive) ≡ record_at archive n
unfolding record_at
record_part archive n = let e : 32 * n + 32 - 32 * n ≡ 32 = omega arith in ap (λ (k : ℕ). take k (drop (32 * n) archive)) e
