-- A word in a range that starts at 0, tested and read without a sign.
use mathlib.Core.Path.{◌≡◌, refl, ◌∙◌}
use mathlib.Core.Bool.{Bool, true, false}
use Prim.Native.Nat.{ℕ, ◌^◌, ◌≤◌, ◌<◌}
use native.Mathlib.Omega.{arith}
use borrow.Author.Tests.{lt-ltb, ltb-false, le-leb, lt-leb, leb-true}
use lib.Dec.{leb, ltb}
use lib.IntN.{pos}
use mir.Syntax.{w32}
use mir.Val.{to_z}
use Rattle.rules.specs.Numbers.{within, or_zero}
use Rattle.rules.specs.Archive.{twos}

-- a range from 0 to less than 2 ^ 31: the word is tested as it is
module _ (high w : ℕ) (h : high < 2 ^ 31) (k : w < 2 ^ 32) where
  pub word_within : leb w high ≡ within (pos 0) (pos high) (twos w)
  unfolding twos
  word_within = go (ltb w (2 ^ 31)) refl
    where
      go : (t : Bool) → ltb w (2 ^ 31) ≡ t → leb w high ≡ within (pos 0) (pos high) (twos w)
      go true e = rw (e, le-leb 0 w (omega arith))
      go false e =
          let l : 2 ^ 31 ≤ w = ltb-false w (2 ^ 31) e in
          rw (e, lt-ltb w (2 ^ 32) k) (lt-leb w high (omega arith))

  pub word_natural : within (pos 0) (pos high) (twos w) ≡ true → (w ≡ or_zero (twos w)) × (w ≤ high)
  unfolding twos
  word_natural e = let l : w ≤ high = leb-true w high (word_within ∙ e) in (rw (lt-ltb w (2 ^ 31) (omega arith)), l)

-- a word's own signed number
pub word_signed : (w : ℕ) → w < 2 ^ 32 → to_z w32 w ≡ twos w
unfolding twos
word_signed w k = rw (lt-ltb w (2 ^ 32) k)
