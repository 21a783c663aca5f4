-- The program (01, 'Calls on the archive'): the lines that an input of bytes gives, in order, and where they stop.
use Rattle.std.specs.Prelude.{ℕ, zero, suc, ◌+◌, ◌*◌, ◌/◌, ◌%◌, cond, ◌||◌, List, [], ◌∷◌, ◌++◌, eqb, ltb, ℤ, pos, negsuc, length}
use Rattle.rules.specs.Outcome.{Outcome, refused, given}
use Rattle.rules.specs.Refusals.{not_archive, bad_link, wrong_kind, no_plant, no_measure}
use Rattle.rules.specs.Numbers.{map_from}
use Rattle.rules.specs.Archive.{used_of}
use Rattle.rules.specs.Settle.{Settlement, count_of, total_of, settled}

-- ---- lines

pub data Line : Type 0 where
  -- M p k count total links
  measure_line : (p k count : ℕ) (total : ℤ) (links : ℕ) → Line
  -- Q place amount, the place counted from 1
  quarter_line : (place : ℕ) (amount : ℤ) → Line
  -- E p k number
  refusal_line : (p k number : ℕ) → Line

-- the lines of measure place k of plant place p; nothing is printed for 4 and 5
abbrev pub lines_of : ℕ → ℕ → Outcome Settlement → List Line
lines_of p k (refused n) = cond (eqb n no_plant || eqb n no_measure) [] (refusal_line p k n ∷ [])
lines_of p k (given s) = measure_line p k (count_of s) (total_of s) s.links ∷ map_from quarter_line 1 s.amounts

-- ---- the order

pub data Step : Type 0 where
  next_measure next_plant stop : Step

-- 5 leads on to the next plant, 4 ends the program, 2 or 3 ends it after its line, anything else leads on to the next measure
abbrev pub step_after : Outcome Settlement → Step
step_after (refused n) =
    cond (eqb n no_plant || eqb n bad_link || eqb n wrong_kind) stop (cond (eqb n no_measure) next_plant next_measure)
step_after (given s) = next_measure

abbrev pub go_on : Step → (ℕ → ℕ → List Line) → ℕ → ℕ → List Line
go_on next_measure rest p k = rest p (k + 1)
go_on next_plant rest p k = rest (p + 1) 1
go_on stop rest p k = []

-- from measure place k of plant place p on, in at most so many steps
abbrev pub lines_in : ℕ → List ℕ → ℕ → ℕ → List Line
lines_in zero archive p k = []
lines_in (suc steps) archive p k =
    lines_of p k (settled archive p k) ++ go_on (step_after (settled archive p k)) (λ p' k'. lines_in steps archive p' k') p k

-- U records have fewer than U plants with fewer than U measures each, so these steps are enough: `lines_are` of proofs/Output.antt
unfoldable pub lines_from : ℕ → List ℕ → ℕ → ℕ → List Line
lines_from used archive p k = lines_in ((used + 1) * (used + 1)) archive p k

abbrev pub head_refused : List Line
head_refused = refusal_line 0 0 not_archive ∷ []

abbrev pub lines_by : Outcome ℕ → List ℕ → List Line
lines_by (refused n) archive = head_refused
lines_by (given used) archive = lines_from used archive 1 1

-- all measures in order; a refused head or an input of more than 65,536 bytes prints only E 0 0 1
unfoldable pub output : List ℕ → List Line
output input = cond (ltb 65536 (length input)) head_refused (lines_by (used_of input) input)

-- ---- text

-- decimal digits in ASCII, at most so many
abbrev pub digits_in : ℕ → ℕ → List ℕ
digits_in zero n = []
digits_in (suc most) n = cond (ltb n 10) ((48 + n) ∷ []) (digits_in most (n / 10) ++ ((48 + n % 10) ∷ []))

-- a number below 10 ^ 20: no number of 64 bits has more digits
unfoldable pub decimal : ℕ → List ℕ
decimal n = digits_in 20 n

abbrev pub signed_decimal : ℤ → List ℕ
signed_decimal (pos n) = decimal n
signed_decimal (negsuc n) = 45 ∷ decimal (suc n)

-- words with single spaces between them, and a line feed
abbrev pub spaced : List (List ℕ) → List ℕ
spaced [] = 10 ∷ []
spaced (w ∷ ws) = 32 ∷ w ++ spaced ws

-- M, Q or E, then the numbers
abbrev pub text_of : Line → List ℕ
text_of (measure_line p k count total links) = 77 ∷ spaced (decimal p ∷ decimal k ∷ decimal count ∷ signed_decimal total ∷ decimal links ∷ [])
text_of (quarter_line place amount) = 81 ∷ spaced (decimal place ∷ signed_decimal amount ∷ [])
text_of (refusal_line p k number) = 69 ∷ spaced (decimal p ∷ decimal k ∷ decimal number ∷ [])

unfoldable pub text_of_all : List Line → List ℕ
text_of_all [] = []
text_of_all (l ∷ ls) = text_of l ++ text_of_all ls
