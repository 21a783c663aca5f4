-- AARB as one number of four bytes, over plain variables.
use mathlib.Core.Path.{◌≡◌, refl, sym, ◌∙◌, ap}
use mathlib.Core.Bool.{Bool, true, false, ◌&&◌, and_assoc}
use mathlib.Core.List.{List}
use Prim.Native.Nat.{ℕ, ◌+◌, ◌*◌, ◌^◌, ◌<◌}
use native.Mathlib.Omega.{arith}
use borrow.Author.Tests.{eqb-true, eqb-false, eq-eqb, ne_eqb}
use lib.Dec.{eqb, lit≤}
use Rattle.rules.specs.Archive.{byte_at, link_at, is_text}

-- a byte is the lowest digit of a number, and the rest is told by the rest
digit : (a rest b more : ℕ) → a < 2 ^ 8 → b < 2 ^ 8 → eqb (a + 2 ^ 8 * rest) (b + 2 ^ 8 * more) ≡ (eqb a b && eqb rest more)
digit a rest b more h k = go (eqb a b) refl
  where
    go : (t : Bool) → eqb a b ≡ t → eqb (a + 2 ^ 8 * rest) (b + 2 ^ 8 * more) ≡ (t && eqb rest more)
    go true e = same (eqb rest more) refl
      where
        same : (t : Bool) → eqb rest more ≡ t → eqb (a + 2 ^ 8 * rest) (b + 2 ^ 8 * more) ≡ t
        same true f = eq-eqb (a + 2 ^ 8 * rest) (b + 2 ^ 8 * more) (omega (arith, eqb-true a b e, eqb-true rest more f))
        same false f = ne_eqb (a + 2 ^ 8 * rest) (b + 2 ^ 8 * more) (λ q. eqb-false rest more f (omega (arith, eqb-true a b e, q)))
    go false e = ne_eqb (a + 2 ^ 8 * rest) (b + 2 ^ 8 * more) (λ q. eqb-false a b e (omega (arith, q)))

module _ (r : List ℕ) (bytes : (i : ℕ) → byte_at r i < 2 ^ 8) where
  by_digits : link_at r 0 ≡ byte_at r 0 + 2 ^ 8 * (byte_at r 1 + 2 ^ 8 * (byte_at r 2 + 2 ^ 8 * byte_at r 3))
  unfolding link_at
  by_digits = omega arith

  pub text_is : eqb (link_at r 0) 1112686913 ≡ is_text r
  text_is =
      let a = byte_at r 0 in
      let b = byte_at r 1 in
      let c = byte_at r 2 in
      let d = byte_at r 3 in
      ap (λ (n : ℕ). eqb n 1112686913) by_digits
      ∙ digit a (b + 2 ^ 8 * (c + 2 ^ 8 * d)) 65 4346433 (bytes 0) (lit≤ tt)
      ∙ ap (λ (t : Bool). eqb a 65 && t) (digit b (c + 2 ^ 8 * d) 65 16978 (bytes 1) (lit≤ tt))
      ∙ ap (λ (t : Bool). eqb a 65 && (eqb b 65 && t)) (digit c d 82 66 (bytes 2) (lit≤ tt))
      ∙ sym (and_assoc (eqb a 65 && eqb b 65) (eqb c 82) (eqb d 66) ∙ and_assoc (eqb a 65) (eqb b 65) (eqb c 82 && eqb d 66))
