-- A run of bytes written one by one is one write; the bytes of a fresh archive.
use mathlib.Core.Path.{◌≡◌, sym, ◌∙◌, ap}
use mathlib.Core.List.{List, [], ◌∷◌, ◌++◌, append_assoc}
use Prim.Native.Nat.{ℕ, zero, suc, ◌+◌, ◌-◌, ◌≤◌}
use native.Mathlib.Omega.{arith}
use lib.ListN.{length, take, drop, replicate}
use lib.Seq.{paste, paste-zero, length-take-le}
use Rattle.rules.specs.Encoding.{put}
use Rattle.rules.specs.Filing.{fresh_bytes}

module _ (a : List ℕ) (at : ℕ) (bytes : List ℕ) where
  pasted : (i : ℕ) → i ≤ length bytes → paste a at bytes i ≡ put a at (take i bytes)
  unfolding put
  pasted i h = append_assoc (take at a) (take i bytes) (drop (at + i) a) ∙ ap (λ (n : ℕ). take at a ++ (take i bytes ++ drop (at + n) a)) (sym (length-take-le i bytes h))

  -- none are written yet
  pub wrote_none : a ≡ put a at (take 0 bytes)
  wrote_none = paste-zero a at bytes ∙ pasted 0 (omega arith)

drop_zeros : (k n : ℕ) → drop {A = ℕ} k (replicate n 0) ≡ replicate (n - k) 0
drop_zeros zero n = let e : n ≡ n - 0 = omega arith in ap (λ (m : ℕ). replicate m 0) e
drop_zeros (suc k) zero = let e : 0 ≡ 0 - suc k = omega arith in ap (λ (m : ℕ). replicate m 0) e
drop_zeros (suc k) (suc n) = let e : n - k ≡ suc n - suc k = omega arith in drop_zeros k n ∙ ap (λ (m : ℕ). replicate m 0) e

-- AARB and U = 1
abbrev pub fresh_head : List ℕ
fresh_head = 65 ∷ 65 ∷ 82 ∷ 66 ∷ 1 ∷ 0 ∷ 0 ∷ 0 ∷ []

pub fresh_written : (size : ℕ) → put (replicate size 0) 0 fresh_head ≡ fresh_bytes size
unfolding put
fresh_written size = ap (λ (zeros : List ℕ). fresh_head ++ zeros) (drop_zeros 8 size)
