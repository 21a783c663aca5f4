-- The three places of the result part.
use mathlib.Core.Path.{◌≡◌, sym, ◌∙◌, ap}
use mathlib.Core.List.{List, [], ◌++◌}
use Prim.Native.Nat.{ℕ}
use lib.ListN.{length, drop}
use lib.Seq.{drop-drop, drop-length}
use Rattle.rules.specs.Encoding.{double_word, put}

pub three_places : (o o₁ o₂ o₃ : List ℕ) (a b c : ℕ) → length o ≡ 24 → o₁ ≡ put o 0 (double_word a) → o₂ ≡ put o₁ 8 (double_word b) → o₃ ≡ put o₂ 16 (double_word c)
    → o₃ ≡ double_word a ++ (double_word b ++ double_word c)
unfolding put double_word
three_places o o₁ o₂ o₃ a b c n e₁ e₂ e₃ =
    let none : drop 24 o ≡ [] = ap (λ (k : ℕ). drop k o) (sym n) ∙ drop-length o in
    let two : o₂ ≡ double_word a ++ (double_word b ++ drop 16 o) = rw (e₂, e₁, drop-drop 8 8 o) in
    rw (e₃, two, drop-drop 8 16 o, none)
