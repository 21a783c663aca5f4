-- No output is longer than 64 bits count.
use mathlib.Core.Path.{◌≡◌, refl}
use mathlib.Core.Bool.{Bool, true, false, cond, ◌||◌}
use mathlib.Core.List.{List, [], ◌∷◌}
use Prim.Native.Nat.{ℕ, zero, suc, ◌+◌, ◌*◌, ◌^◌, ◌≤◌, ◌<◌}
use native.Mathlib.Nat.{mul-le-mul_right}
use native.Mathlib.Omega.{arith}
use lib.Dec.{eqb, ltb}
use lib.IntN.{ℤ, pos, negsuc}
use lib.ListN.{length, length-append}
use Rattle.rules.specs.Outcome.{Outcome, refused, given}
use Rattle.rules.specs.Refusals.{no_plant, no_measure}
use Rattle.rules.specs.Archive.{used_of}
use Rattle.rules.specs.Settle.{Settlement, count_of, settled}
use Rattle.rules.specs.Output.{Line, measure_line, quarter_line, refusal_line, lines_of, Step, next_measure, next_plant, stop, step_after, go_on, lines_in, lines_from, head_refused, lines_by, output, decimal, signed_decimal, spaced, text_of, text_of_all}
use Rattle.rules.proofs.Lists.{map_from_length}
use Rattle.rules.proofs.Output.{decimal_length}
use Rattle.rules.proofs.AppendSteps.{used_within}
use Rattle.rules.proofs.Inversion.{Holds}
use Rattle.rules.proofs.Settled.{Counted}
use Rattle.report.proofs.Counts.{settled_counted}

-- ---- lines of at most 108 bytes

signed_length : (z : ℤ) → length (signed_decimal z) ≤ 21
signed_length (pos n) = omega (arith, decimal_length n)
signed_length (negsuc n) = omega (arith, decimal_length (suc n))

spaced_length : (w : List ℕ) (ws : List (List ℕ)) → length (spaced (w ∷ ws)) ≡ 1 + length w + length (spaced ws)
spaced_length w ws = omega (arith, length-append w (spaced ws))

text_length : (l : Line) → length (text_of l) ≤ 108
text_length (measure_line p k count total links) =
    omega (
      arith,
      spaced_length (decimal p) (decimal k ∷ decimal count ∷ signed_decimal total ∷ decimal links ∷ []),
      spaced_length (decimal k) (decimal count ∷ signed_decimal total ∷ decimal links ∷ []),
      spaced_length (decimal count) (signed_decimal total ∷ decimal links ∷ []),
      spaced_length (signed_decimal total) (decimal links ∷ []),
      spaced_length (decimal links) [],
      decimal_length p,
      decimal_length k,
      decimal_length count,
      signed_length total,
      decimal_length links,
    )
text_length (quarter_line place amount) =
    omega (arith, spaced_length (decimal place) (signed_decimal amount ∷ []), spaced_length (signed_decimal amount) [], decimal_length place, signed_length amount)
text_length (refusal_line p k number) =
    omega (
      arith,
      spaced_length (decimal p) (decimal k ∷ decimal number ∷ []),
      spaced_length (decimal k) (decimal number ∷ []),
      spaced_length (decimal number) [],
      decimal_length p,
      decimal_length k,
      decimal_length number,
    )

all_length : (ls : List Line) → length (text_of_all ls) ≤ 108 * length ls
unfolding text_of_all
all_length [] = omega arith
all_length (l ∷ ls) = omega (arith, length-append (text_of l) (text_of_all ls), text_length l, all_length ls)

-- ---- at most 2,977 lines a step

measure_length : (p k : ℕ) (o : Outcome Settlement) → Holds (λ (s : Settlement). Counted (count_of s)) o → length (lines_of p k o) ≤ 2977
measure_length p k (refused n) h = go (eqb n no_plant || eqb n no_measure)
  where
    go : (t : Bool) → length (cond t [] (refusal_line p k n ∷ [])) ≤ 2977
    go true = omega arith
    go false = omega arith
measure_length p k (given s) h = omega (arith, map_from_length quarter_line 1 s.amounts, (h.of s refl).few)

steps_length : (steps : ℕ) (archive : List ℕ) (p k : ℕ) → length (lines_in steps archive p k) ≤ steps * 2977
steps_length zero archive p k = omega arith
steps_length (suc steps) archive p k =
    omega (
      arith,
      length-append (lines_of p k (settled archive p k)) (go_on (step_after (settled archive p k)) (λ p' k'. lines_in steps archive p' k') p k),
      measure_length p k (settled archive p k) (settled_counted archive p k),
      go (step_after (settled archive p k)) (λ p' k'. steps_length steps archive p' k'),
    )
  where
    go : (s : Step) → ((p' k' : ℕ) → length (lines_in steps archive p' k') ≤ steps * 2977)
        → length (go_on s (λ p' k'. lines_in steps archive p' k') p k) ≤ steps * 2977
    go next_measure later = later p (k + 1)
    go next_plant later = later (p + 1) 1
    go stop later = omega arith

from_length : (used : ℕ) (archive : List ℕ) (p k : ℕ) → used ≤ 65535 → length (lines_from used archive p k) ≤ 65536 * 65536 * 2977
unfolding lines_from
from_length used archive p k h =
    let square : (used + 1) * (used + 1) ≤ 65536 * 65536 = omega (arith, mul-le-mul_right (used + 1) (used_one h)) in
    omega (arith, steps_length ((used + 1) * (used + 1)) archive p k, square)
  where
    used_one : used ≤ 65535 → used + 1 ≤ 65536
    used_one u = omega arith

output_lines : (input : List ℕ) → length (output input) ≤ 65536 * 65536 * 2977
unfolding output
output_lines input = go (ltb 65536 (length input))
  where
    by : (o : Outcome ℕ) → used_of input ≡ o → length (lines_by o input) ≤ 65536 * 65536 * 2977
    by (refused n) e = omega arith
    by (given used) e = from_length used input 1 1 (omega (arith, used_within input used e))

    go : (t : Bool) → length (cond t head_refused (lines_by (used_of input) input)) ≤ 65536 * 65536 * 2977
    go true = omega arith
    go false = by (used_of input) refl

pub output_short : (input : List ℕ) → length (text_of_all (output input)) < 2 ^ 63
output_short input = omega (arith, all_length (output input), output_lines input)
