-- Whole numbers with and without a sign, and tests and sums over lists, as 01's rules use them.
use Rattle.std.specs.Prelude.{ℕ, ◌+◌, Bool, true, false, cond, ◌&&◌, ◌||◌, List, [], ◌∷◌, eqb, ℤ, pos, negsuc, ◌+ℤ◌}
use Rattle.std.specs.Int.Signed.{le_z}

unfoldable pub smaller : ℤ → ℤ → ℤ
smaller a b = cond (le_z a b) a b

unfoldable pub larger : ℤ → ℤ → ℤ
larger a b = cond (le_z a b) b a

-- a number, or 0 if it is below 0
abbrev pub or_zero : ℤ → ℕ
or_zero (pos n) = n
or_zero (negsuc n) = 0

-- from low to high, both included
abbrev pub within : ℤ → ℤ → ℤ → Bool
within low high z = le_z low z && le_z z high

abbrev pub sum : List ℕ → ℕ
sum [] = 0
sum (n ∷ ns) = n + sum ns

abbrev pub sumℤ : List ℤ → ℤ
sumℤ [] = pos 0
sumℤ (z ∷ zs) = z +ℤ sumℤ zs

abbrev pub member : ℕ → List ℕ → Bool
member n [] = false
member n (m ∷ ms) = eqb n m || member n ms

module _ {A : Type 0} where
  -- the test passes for each
  abbrev pub all : (A → Bool) → List A → Bool
  all test [] = true
  all test (a ∷ rest) = test a && all test rest

  -- those that pass the test, in order
  abbrev pub keep : (A → Bool) → List A → List A
  keep test [] = []
  keep test (a ∷ rest) = cond (test a) (a ∷ keep test rest) (keep test rest)

-- each element with its place, counted on from i
abbrev pub map_from : {A B : Type 0} → (ℕ → A → B) → ℕ → List A → List B
map_from f i [] = []
map_from f i (a ∷ rest) = f i a ∷ map_from f (i + 1) rest
