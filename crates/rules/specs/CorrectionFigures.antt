-- Worked examples of the financial correction (02, 5): an entry has what the definitions give and what 02 says; proofs/CorrectionFigures.antt
-- proves that all are equal.
use Rattle.std.specs.Prelude.{ℕ, List, [], ◌∷◌, ℤ, pos, neg_ℤ, replicate}
use Rattle.rules.specs.Correction.{correction, Corrected, corrected_of}

-- number, cents and remainder of three lists
abbrev triple : Corrected → List ℤ
triple c = pos c.refusal ∷ c.money.cents ∷ pos c.money.remainder ∷ []

abbrev correcting : List ℤ → List ℤ → List ℤ → List ℤ
correcting amounts balanced prices = triple (corrected_of (correction amounts balanced prices))

abbrev gives_money : ℤ → ℕ → List ℤ
gives_money cents remainder = pos 0 ∷ cents ∷ pos remainder ∷ []

-- a refusal has zero for both results
abbrev refuses_lists : ℕ → List ℤ
refuses_lists n = pos n ∷ pos 0 ∷ pos 0 ∷ []

-- one quarter
abbrev one_quarter : ℤ → ℤ → ℤ → List ℤ
one_quarter amount balanced price = correcting (amount ∷ []) (balanced ∷ []) (price ∷ [])

-- so many quarters alike
abbrev alike : ℕ → ℤ → ℤ → ℤ → List ℤ
alike n amount balanced price = correcting (replicate n amount) (replicate n balanced) (replicate n price)

abbrev below_zero : ℕ → ℤ
below_zero n = neg_ℤ (pos n)

-- one past the ends of the ranges
abbrev too_much : ℤ
too_much = pos 1000000001

abbrev too_dear : ℤ
too_dear = pos 1000001

unfoldable pub corrections : List (List ℤ × List ℤ)
corrections =
    -- -1 Wh at 1 cent: rounded down, not toward zero
    (one_quarter (below_zero 1) (pos 0) (pos 1), gives_money (below_zero 1) 999999)
    -- three of them: split once
    ∷ (alike 3 (below_zero 1) (pos 0) (pos 1), gives_money (below_zero 1) 999997)
    -- the other signs; -1 as amount 0 against a balanced 1, and as a price of -1
    ∷ (one_quarter (pos 1) (pos 0) (pos 1), gives_money (pos 0) 1)
    ∷ (one_quarter (pos 0) (pos 1) (pos 1), gives_money (below_zero 1) 999999)
    ∷ (one_quarter (pos 1) (pos 0) (below_zero 1), gives_money (below_zero 1) 999999)
    ∷ (one_quarter (below_zero 1) (pos 0) (below_zero 1), gives_money (pos 0) 1)
    -- gaps on both sides of zero, prices too: 10 × 300,000 - 4 × 200,000 + 7 × -600,000 = -2,000,000; 1 Wh at 1 cent more and less
    ∷ (correcting (pos 10 ∷ pos 1 ∷ pos 0 ∷ []) (pos 0 ∷ pos 5 ∷ below_zero 7 ∷ []) (pos 300000 ∷ pos 200000 ∷ below_zero 600000 ∷ []), gives_money (below_zero 2) 0)
    ∷ (correcting (pos 10 ∷ pos 1 ∷ pos 0 ∷ pos 1 ∷ []) (pos 0 ∷ pos 5 ∷ below_zero 7 ∷ pos 0 ∷ []) (pos 300000 ∷ pos 200000 ∷ below_zero 600000 ∷ pos 1 ∷ []), gives_money (below_zero 2) 1)
    ∷ (correcting (pos 10 ∷ pos 1 ∷ pos 0 ∷ below_zero 1 ∷ []) (pos 0 ∷ pos 5 ∷ below_zero 7 ∷ pos 0 ∷ []) (pos 300000 ∷ pos 200000 ∷ below_zero 600000 ∷ pos 1 ∷ []), gives_money (below_zero 3) 999999)
    -- the balanced energy is the amount
    ∷ (one_quarter (pos 74999) (pos 74999) (pos 8950), gives_money (pos 0) 0)
    -- empty lists
    ∷ (correcting [] [] [], gives_money (pos 0) 0)
    -- each end of each range, and one past it
    ∷ (one_quarter (pos 1000000000) (pos 0) (pos 1), gives_money (pos 1000) 0)
    ∷ (one_quarter (below_zero 1000000000) (pos 0) (pos 1), gives_money (below_zero 1000) 0)
    ∷ (one_quarter (pos 0) (pos 1000000000) (pos 1), gives_money (below_zero 1000) 0)
    ∷ (one_quarter (pos 0) (below_zero 1000000000) (pos 1), gives_money (pos 1000) 0)
    ∷ (one_quarter (pos 1) (pos 0) (pos 1000000), gives_money (pos 1) 0)
    ∷ (one_quarter (pos 1) (pos 0) (below_zero 1000000), gives_money (below_zero 1) 0)
    ∷ (one_quarter too_much (pos 0) (pos 1), refuses_lists 20)
    ∷ (one_quarter (below_zero 1000000001) (pos 0) (pos 1), refuses_lists 20)
    ∷ (one_quarter (pos 0) too_much (pos 1), refuses_lists 20)
    ∷ (one_quarter (pos 0) (below_zero 1000000001) (pos 1), refuses_lists 20)
    ∷ (one_quarter (pos 1) (pos 0) too_dear, refuses_lists 21)
    ∷ (one_quarter (pos 1) (pos 0) (below_zero 1000001), refuses_lists 21)
    -- both energies at their ends, whatever their gap; 2^32 Wh and 2^32 cents are no 0
    ∷ (one_quarter (pos 1000000000) (below_zero 1000000000) (pos 1000000), gives_money (pos 2000000000) 0)
    ∷ (one_quarter (pos 4294967296) (pos 0) (pos 1), refuses_lists 20)
    ∷ (one_quarter (pos 1) (pos 0) (pos 4294967296), refuses_lists 21)
    -- a bad price before a bad amount, a bad balanced energy; 20 over the whole lists before 21
    ∷ (correcting (pos 0 ∷ too_much ∷ []) (pos 0 ∷ pos 0 ∷ []) (too_dear ∷ pos 0 ∷ []), refuses_lists 20)
    ∷ (correcting (pos 0 ∷ pos 0 ∷ []) (pos 0 ∷ too_much ∷ []) (too_dear ∷ pos 0 ∷ []), refuses_lists 20)
    ∷ (one_quarter too_much (pos 0) too_dear, refuses_lists 20)
    -- a bad price in the last place
    ∷ (correcting (pos 0 ∷ pos 0 ∷ []) (pos 0 ∷ pos 0 ∷ []) (pos 0 ∷ too_dear ∷ []), refuses_lists 21)
    -- 2,976 quarters: the largest sums; 2,977 are 20, a bad price among them or not
    ∷ (alike 2976 (pos 1000000000) (below_zero 1000000000) (pos 1000000), gives_money (pos 5952000000000) 0)
    ∷ (alike 2976 (pos 1000000000) (below_zero 1000000000) (below_zero 1000000), gives_money (below_zero 5952000000000) 0)
    ∷ (alike 2977 (pos 0) (pos 0) (pos 0), refuses_lists 20)
    ∷ (alike 2977 (pos 0) (pos 0) too_dear, refuses_lists 20)
    -- unequal lengths, of each list; beside 20, beside 21, beside 2,977 quarters
    ∷ (correcting (pos 0 ∷ []) [] [], refuses_lists 22)
    ∷ (correcting [] (pos 0 ∷ []) [], refuses_lists 22)
    ∷ (correcting [] [] (pos 0 ∷ []), refuses_lists 22)
    ∷ (correcting (pos 0 ∷ pos 0 ∷ []) (pos 0 ∷ pos 0 ∷ []) (pos 0 ∷ []), refuses_lists 22)
    ∷ (correcting (pos 0 ∷ pos 0 ∷ []) (pos 0 ∷ []) (pos 0 ∷ pos 0 ∷ []), refuses_lists 22)
    ∷ (correcting (pos 0 ∷ []) (pos 0 ∷ pos 0 ∷ []) (pos 0 ∷ pos 0 ∷ []), refuses_lists 22)
    ∷ (correcting (too_much ∷ []) (pos 0 ∷ []) [], refuses_lists 22)
    ∷ (correcting (pos 0 ∷ []) [] (too_dear ∷ []), refuses_lists 22)
    ∷ (correcting (replicate 2977 (pos 0)) [] [], refuses_lists 22)
    -- the bad numbers in places that all three lists have
    ∷ (correcting (too_much ∷ pos 0 ∷ []) (pos 0 ∷ []) (pos 0 ∷ []), refuses_lists 22)
    ∷ (correcting (pos 0 ∷ pos 0 ∷ []) (pos 0 ∷ []) (too_dear ∷ pos 0 ∷ []), refuses_lists 22)
    ∷ (correcting (too_much ∷ pos 0 ∷ []) (pos 0 ∷ []) (too_dear ∷ pos 0 ∷ []), refuses_lists 22)
    ∷ (correcting (replicate 2977 (pos 0)) (replicate 2977 (pos 0)) (replicate 2978 (pos 0)), refuses_lists 22)
    -- a price raised by 1 cent where the amount is above the balanced energy
    ∷ (correcting (pos 5 ∷ pos 0 ∷ []) (pos 2 ∷ pos 9 ∷ []) (pos 3 ∷ pos 1 ∷ []), gives_money (pos 0) 0)
    ∷ (correcting (pos 5 ∷ pos 0 ∷ []) (pos 2 ∷ pos 9 ∷ []) (pos 4 ∷ pos 1 ∷ []), gives_money (pos 0) 3)
    ∷ []
