-- Amounts (01, 'Amounts'): with S the sum of exact magnitudes up to a quarter and R the sum before it, S rounded down minus R rounded
-- down, in whole Wh. Every magnitude of one measure has the same denominator.
use Rattle.std.specs.Prelude.{ℕ, ◌+◌, ◌-◌, ◌/◌, ◌%◌, List, [], ◌∷◌, map, ℤ, pos, neg_ℤ}
use Rattle.rules.specs.Terms.{Direction, positive, negative}

-- minus for the positive direction (001, 3: positive redispatch gives negative energy)
abbrev pub signed : Direction → ℕ → ℤ
signed negative n = pos n
signed positive n = neg_ℤ (pos n)

-- the amount of each numerator over the denominator d, where `before` is the sum of the earlier ones
abbrev pub booked_from : ℕ → ℕ → List ℕ → List ℕ
booked_from d before [] = []
booked_from d before (m ∷ ms) = ((before + m) / d - before / d) ∷ booked_from d (before + m) ms

unfoldable pub amounts_of : Direction → ℕ → List ℕ → List ℤ
amounts_of direction d exact = map (signed direction) (booked_from d 0 exact)

-- the same from the carry of a measure, which is a remainder over the denominator: `carried` of proofs/Stretch.antt
abbrev pub carried_from : ℕ → ℕ → List ℕ → List ℕ
carried_from d remainder [] = []
carried_from d remainder (m ∷ ms) = (remainder + m) / d ∷ carried_from d ((remainder + m) % d) ms
