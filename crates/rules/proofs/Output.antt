-- The program's lines and their text: the bound on the steps is never met, a number's digits read back give it, and the laws that printing follows.
use mathlib.Core.Path.{◌≡◌, refl, sym, ap}
use mathlib.Core.Bool.{Bool, true, false, cond}
use mathlib.Core.List.{List, [], ◌∷◌, ◌++◌, append_assoc, append-nil}
use Prim.Native.Nat.{ℕ, zero, suc, ◌+◌, ◌*◌, ◌-◌, ◌/◌, ◌%◌, ◌^◌, ◌≤◌, ◌<◌}
use native.Mathlib.Nat.{mul-le-mul_right}
use native.Mathlib.Numerals.{add-one}
use native.Mathlib.Omega.{arith}
use lib.Dec.{ltb}
use lib.ListN.{length, get_or, drop, length-append}
use lib.Seq.{drop-cons}
use borrow.Author.Tests.{lt-ltb, le-ltb, ltb-true, ltb-false}
use Rattle.rules.specs.Outcome.{refused, given}
use Rattle.rules.specs.Refusals.{no_plant}
use Rattle.rules.specs.Numbers.{map_from}
use Rattle.rules.specs.Archive.{byte_at, used_of}
use Rattle.rules.specs.Settle.{Settlement, count_of, total_of, settled}
use Rattle.rules.specs.Output.{Line, measure_line, quarter_line, lines_of, Step, next_measure, next_plant, stop, step_after, go_on, lines_in, lines_from}
use Rattle.rules.specs.Output.{head_refused, output, digits_in, decimal, text_of, text_of_all}
use Rattle.rules.proofs.Inversion.{All, none, more}
use Rattle.rules.proofs.PlacesOnChains.{settled_answers}

-- ---- the order of the lines

-- the places where a step is taken: the next measure follows a measure that is there, the next plant a plant that is there
abbrev pub Within : ℕ → ℕ → ℕ → Step → Type 0
Within used p k next_measure = p + k < used
Within used p k next_plant = p < used
Within used p k stop = Unit {0}

within_all : (used p k : ℕ) → p + k < used → (step : Step) → Within used p k step
within_all used p k h next_measure = h
within_all used p k h next_plant = omega arith
within_all used p k h stop = tt

pub step_within : (archive : List ℕ) (used p k : ℕ) → used_of archive ≡ given used → Within used p k (step_after (settled archive p k))
step_within archive used p k head =
    settled_answers archive used p k head (λ o. Within used p k (step_after o))
    (record { two = tt; three = tt; four = tt; five = λ h. h; later = λ h o. within_all used p k h (step_after o) })

module _ (archive : List ℕ) (used : ℕ) (head : used_of archive ≡ given used) where
  -- lines that go on alike where the step leads on
  same_on : (f g : ℕ → ℕ → List Line) (p k : ℕ) → (p + k < used → f p (k + 1) ≡ g p (k + 1)) → (p < used → f (p + 1) 1 ≡ g (p + 1) 1)
      → lines_of p k (settled archive p k) ++ go_on (step_after (settled archive p k)) f p k
      ≡ lines_of p k (settled archive p k) ++ go_on (step_after (settled archive p k)) g p k
  same_on f g p k measure plant =
      ap (λ rest. lines_of p k (settled archive p k) ++ rest) (go (step_after (settled archive p k)) (step_within archive used p k head))
    where
      go : (step : Step) → Within used p k step → go_on step f p k ≡ go_on step g p k
      go next_measure h = measure h
      go next_plant h = plant h
      go stop h = refl

  -- so many steps and one more are enough from these places on: each step lessens (U - p) (U + 1) + (U - k)
  Enough : ℕ → ℕ → ℕ → Type 0
  Enough steps p k = used * (used + 1) + (used - k) ≤ steps + p * (used + 1)

  no_step : (p k : ℕ) → Enough 0 p k → p < used → ⊥
  unfolding Enough
  no_step p k h below = omega (arith, mul-le-mul_right (used + 1) below)

  one_more : (steps p k : ℕ) → Enough steps p k → lines_in (suc (suc steps)) archive p k ≡ lines_in (suc steps) archive p k
  unfolding Enough
  one_more zero p k h = same_on _ _ p k (λ below. absurd (no_step p k h (omega arith))) (λ below. absurd (no_step p k h below))
  one_more (suc steps) p k h = same_on _ _ p k (λ below. one_more steps p (k + 1) (omega arith)) (λ below. one_more steps (p + 1) 1 (omega arith))

  enough : (steps p k : ℕ) → (used + 1) * (used + 1) ≤ steps → lines_in steps archive p k
      ≡ lines_of p k (settled archive p k) ++ go_on (step_after (settled archive p k)) (λ p' k'. lines_in steps archive p' k') p k
  unfolding Enough
  enough zero p k h = absurd (omega arith)
  enough (suc steps) p k h = sym (one_more steps p k (omega arith))

  -- the bound on the steps is never met
  pub lines_are : (p k : ℕ) → lines_from used archive p k
      ≡ lines_of p k (settled archive p k) ++ go_on (step_after (settled archive p k)) (λ p' k'. lines_from used archive p' k') p k
  unfolding lines_from
  lines_are p k = enough ((used + 1) * (used + 1)) p k (omega arith)

  pub lines_no_plant : (p k : ℕ) → settled archive p k ≡ refused no_plant → lines_from used archive p k ≡ []
  lines_no_plant p k e = rw (lines_are p k, e)

  -- the same by the answer of settle
  pub lines_given : (p k : ℕ) (s : Settlement) → settled archive p k ≡ given s → lines_from used archive p k
      ≡ (measure_line p k (count_of s) (total_of s) s.links ∷ map_from quarter_line 1 s.amounts) ++ lines_from used archive p (k + 1)
  lines_given p k s e = rw (lines_are p k, e)

-- ---- the output

pub output_long : (input : List ℕ) → 65536 < length input → output input ≡ head_refused
unfolding output
output_long input h = rw (lt-ltb 65536 (length input) h)

pub output_refused : (input : List ℕ) (n : ℕ) → used_of input ≡ refused n → output input ≡ head_refused
unfolding output
output_refused input n e = rw e (either (ltb 65536 (length input)))
  where
    either : (t : Bool) → cond t head_refused head_refused ≡ head_refused
    either true = refl
    either false = refl

pub output_given : (input : List ℕ) (used : ℕ) → length input ≤ 65536 → used_of input ≡ given used → output input ≡ lines_from used input 1 1
unfolding output
output_given input used h e = rw (le-ltb 65536 (length input) h, e)

-- ---- numbers in decimal digits

-- ASCII digits read as a number, after the value of those read so far
abbrev pub value_from : ℕ → List ℕ → ℕ
value_from value [] = value
value_from value (digit ∷ digits) = value_from (10 * value + (digit - 48)) digits

abbrev pub value_of : List ℕ → ℕ
value_of digits = value_from 0 digits

abbrev pub IsDigit : ℕ → Type 0
IsDigit digit = (48 ≤ digit) × (digit ≤ 57)

-- what holds of one digit, and of one digit more, holds of a number's digits
module _ (P : ℕ → List ℕ → Type 0)
    (one : (n : ℕ) → n < 10 → P n ((48 + n) ∷ []))
    (next : (n : ℕ) (front : List ℕ) → 10 ≤ n → P (n / 10) front → P n (front ++ ((48 + n % 10) ∷ []))) where
  digits_all : (most n : ℕ) → n < 10 ^ suc most → P n (digits_in (suc most) n)
  digits_all zero n h = rw (lt-ltb n 10 h) (one n h)
  digits_all (suc most) n h = go (ltb n 10) refl (λ k. digits_all most (n / 10) k)
    where
      go : (t : Bool) → ltb n 10 ≡ t → (n / 10 < 10 ^ suc most → P (n / 10) (digits_in (suc most) (n / 10)))
          → P n (cond t ((48 + n) ∷ []) (digits_in (suc most) (n / 10) ++ ((48 + n % 10) ∷ [])))
      go true e front = one n (ltb-true n 10 e)
      go false e front = next n (digits_in (suc most) (n / 10)) (ltb-false n 10 e) (front (omega arith))

  pub decimal_all : (n : ℕ) → n < 10 ^ 20 → P n (decimal n)
  unfolding decimal
  decimal_all n h = digits_all 19 n h

pub digits_small : (n : ℕ) → n < 10 → decimal n ≡ (48 + n) ∷ []
unfolding decimal
digits_small n h = rw (lt-ltb n 10 h)

one_more_digit : (most n : ℕ) → n < 10 ^ suc most → digits_in (suc (suc most)) n ≡ digits_in (suc most) n
one_more_digit zero n h = rw (lt-ltb n 10 h)
one_more_digit (suc most) n h =
    ap (λ front. cond (ltb n 10) ((48 + n) ∷ []) (front ++ ((48 + n % 10) ∷ [])))
    (one_more_digit most (n / 10) (omega arith))

pub digits_more : (n : ℕ) → 10 ≤ n → n < 10 ^ 20 → decimal n ≡ decimal (n / 10) ++ ((48 + n % 10) ∷ [])
unfolding decimal
digits_more n h most = rw (le-ltb n 10 h, one_more_digit 18 (n / 10) (omega arith))

value_append : (value : ℕ) (digits : List ℕ) (digit : ℕ) → value_from value (digits ++ (digit ∷ [])) ≡ 10 * value_from value digits + (digit - 48)
value_append value [] digit = refl
value_append value (d ∷ digits) digit = value_append (10 * value + (d - 48)) digits digit

pub decimal_value : (n : ℕ) → n < 10 ^ 20 → value_of (decimal n) ≡ n
decimal_value = decimal_all (λ n digits. value_of digits ≡ n) (λ n h. omega arith)
    (λ n front h e. omega (arith, value_append 0 front (48 + n % 10)))

all_append : {A : Type 0} {P : A → Type 0} (l m : List A) → All P l → All P m → All P (l ++ m)
all_append [] m none h = h
all_append (a ∷ l) m (more g gs) h = more g (all_append l m gs h)

pub decimal_digits : (n : ℕ) → n < 10 ^ 20 → All IsDigit (decimal n)
decimal_digits = decimal_all (λ n digits. All IsDigit digits) (λ n h. more (omega arith) none)
    (λ n front h digits. all_append front _ digits (more (omega arith) none))

-- no leading zero but for 0 itself
pub decimal_leads : (n : ℕ) → n < 10 ^ 20 → 0 < n → 48 < byte_at (decimal n) 0
decimal_leads = decimal_all (λ n digits. 0 < n → 48 < byte_at digits 0) (λ n h positive. omega arith)
    (λ n front h leads positive. first front ((48 + n % 10) ∷ []) (leads (omega arith)))
  where
    first : (l m : List ℕ) → 48 < byte_at l 0 → 48 < byte_at (l ++ m) 0
    first [] m h = absurd (omega arith)
    first (a ∷ l) m h = h

pub decimal_length : (n : ℕ) → length (decimal n) ≤ 20
unfolding decimal
decimal_length n = within 20 n
  where
    within : (most n : ℕ) → length (digits_in most n) ≤ most
    within zero n = omega arith
    within (suc most) n = go (ltb n 10) (within most (n / 10))
      where
        go : (t : Bool) → length (digits_in most (n / 10)) ≤ most
            → length (cond t ((48 + n) ∷ []) (digits_in most (n / 10) ++ ((48 + n % 10) ∷ []))) ≤ suc most
        go true h = omega arith
        go false h = omega (arith, length-append (digits_in most (n / 10)) ((48 + n % 10) ∷ []))

-- ---- text of lines

pub text_one : (l : Line) → text_of_all (l ∷ []) ≡ text_of l
unfolding text_of_all
text_one l = append-nil (text_of l)

pub text_cons : (l : Line) (ls : List Line) → text_of_all (l ∷ ls) ≡ text_of l ++ text_of_all ls
unfolding text_of_all
text_cons l ls = refl

pub text_append : (ls ms : List Line) → text_of_all (ls ++ ms) ≡ text_of_all ls ++ text_of_all ms
unfolding text_of_all
text_append [] ms = refl
text_append (l ∷ ls) ms = rw (text_append ls ms) (sym (append_assoc (text_of l) (text_of_all ls) (text_of_all ms)))

-- ---- lines of quarters

-- one more of those that are left
pub map_from_drop : {A B : Type 0} (f : ℕ → A → B) (i j : ℕ) (l : List A) (d : A) → j < length l
    → map_from f i (drop j l) ≡ f i (get_or l j d) ∷ map_from f (i + 1) (drop (j + 1) l)
map_from_drop f i j l d h = rw (add-one j, drop-cons l j d h)
