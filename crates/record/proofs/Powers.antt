-- A field's range, as the code tests it, over plain variables.
use mathlib.Core.Path.{◌≡◌, sym, ◌∙◌, ap}
use mathlib.Core.Bool.{Bool, true, false, not}
use borrow.Author.Tests.{not-false}
use lib.IntN.{ℤ}

module _ (test : ℤ → Bool) {t : Bool} {a z : ℤ} (e : t ≡ test a) (i : a ≡ z) where
  pub in_range : not t ≡ false → test z ≡ true
  in_range n = ap test (sym i) ∙ sym e ∙ not-false t n
