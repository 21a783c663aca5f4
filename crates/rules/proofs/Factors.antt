-- The eight rows of the plant factor, against the sentence of 01: one test computed over both seasons and 96 quarters of the day.
use mathlib.Core.Path.{◌≡◌}
use mathlib.Core.Bool.{Bool, true, false, cond, ◌&&◌, ◌||◌}
use Prim.Native.Nat.{ℕ, zero, suc, ◌≤◌, ◌<◌}
use native.Mathlib.Omega.{arith}
use native.Mathlib.Decide.{ℕ_discrete}
use lib.Dec.{T, eqb, leb, eqb→eq}
use lib.ListN.{length}
use Rattle.rules.specs.Numbers.{keep}
use Rattle.rules.specs.Reference.{first_for, plant_factor, factor_rows, is_summer, is_for}
use Rattle.rules.proofs.Inversion.{both_left, both_right}

-- a test passes at every number below n
abbrev pub every_below : ℕ → (ℕ → Bool) → Bool
every_below zero test = true
every_below (suc n) test = test n && every_below n test

pub below : (n : ℕ) (test : ℕ → Bool) → T (every_below n test) → (i : ℕ) → i < n → T (test i)
below zero test t i h = absurd (omega arith)
below (suc n) test t i h = go (ℕ_discrete i n) (below n test (both_right (test n) (every_below n test) t) i)
  where
    go : Dec (i ≡ n) → (i < n → T (test i)) → T (test i)
    go (yes e) rec = rw e (both_left (test n) (every_below n test) t)
    go (no e) rec = rec (omega arith)

abbrev between : ℕ → ℕ → ℕ → Bool
between low high n = leb low n && leb n high

-- 01: summer (months 3-10), quarters 24-35 and 60-75: 2,456; 36-59: 6,189; otherwise 0. Winter, 36-39 and 56-66: 2,796; 40-55: 5,030; otherwise 0
abbrev season_rule : Bool → ℕ → ℕ
season_rule summer q =
    cond summer
    (cond (between 24 35 q || between 60 75 q) 2456 (cond (between 36 59 q) 6189 0))
    (cond (between 36 39 q || between 56 66 q) 2796 (cond (between 40 55 q) 5030 0))

abbrev pub factor_rule : ℕ → ℕ → ℕ
factor_rule month q = season_rule (between 3 10 month) q

-- the rows give the rule's factor, and one row alone is for each season and quarter
abbrev right : Bool → ℕ → Bool
right summer q = eqb (first_for summer q factor_rows) (season_rule summer q) && eqb (length (keep (is_for summer q) factor_rows)) 1

table_right : (summer : Bool) → T (every_below 96 (right summer))
unfolding factor_rows is_for
table_right true = tt
table_right false = tt

at_each : (summer : Bool) (q : ℕ) → q < 96 → T (right summer q)
at_each summer q h = below 96 (right summer) (table_right summer) q h

pub factor_is : (month q : ℕ) → month ≤ 12 → q ≤ 95 → plant_factor month q ≡ factor_rule month q
unfolding plant_factor
factor_is month q hm hq =
    eqb→eq (plant_factor month q) (factor_rule month q)
    (both_left (eqb (plant_factor month q) (factor_rule month q)) (eqb (length (keep (is_for (is_summer month) q) factor_rows)) 1)
    (at_each (is_summer month) q (omega arith)))

pub one_row : (month q : ℕ) → month ≤ 12 → q ≤ 95 → length (keep (is_for (is_summer month) q) factor_rows) ≡ 1
unfolding plant_factor
one_row month q hm hq =
    eqb→eq (length (keep (is_for (is_summer month) q) factor_rows)) 1
    (both_right (eqb (plant_factor month q) (factor_rule month q)) (eqb (length (keep (is_for (is_summer month) q) factor_rows)) 1)
    (at_each (is_summer month) q (omega arith)))
