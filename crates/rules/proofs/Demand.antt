-- Demand 3 of one call: over every stretch of a measure the amounts that settle leaves are less than 1 Wh away from the exact fraction, and
-- the total is the exact total, rounded toward zero.
use mathlib.Core.Path.{◌≡◌, refl, sym, ◌∙◌, ap}
use mathlib.Core.List.{List, ◌++◌, map}
use Prim.Native.Nat.{ℕ, suc, ◌-◌, ◌≤◌, ◌<◌}
use native.Mathlib.Omega.{arith}
use lib.IntN.{ℤ}
use lib.ListN.{length, length-map, length-drop, take, drop}
use lib.Seq.{take-append-le, drop-append-le}
use Rattle.rules.specs.Outcome.{given, ◌>>=◌}
use Rattle.rules.specs.Refusals.{settle_refusals}
use Rattle.rules.specs.Numbers.{sumℤ}
use Rattle.rules.specs.Terms.{Direction}
use Rattle.rules.specs.Booking.{signed, amounts_of}
use Rattle.rules.specs.Settle.{measure_denominator, exacts_of, Settlement, count_of, settle, answer_of}
use Rattle.rules.specs.Fractions.{exact_fractions, fractions_of, stretch, Exact}
use Rattle.rules.specs.Promises.{KeepsToFractions}
use Rattle.rules.specs.Demands.{SettleKeeps}
use Rattle.rules.proofs.Stretch.{amounts_near, amounts_total}
use Rattle.rules.proofs.Positive.{basis_positive}
use Rattle.rules.proofs.Refusals.{given_by_number, number_is, every_call_answers}
use Rattle.rules.proofs.Settled.{MadeFrom, made_from, amounts_length}

-- a stretch that ends within the first list
front_stretch : (from to : ℕ) (xs ys : List ℤ) → from ≤ to → to < length xs → stretch from to (xs ++ ys) ≡ stretch from to xs
front_stretch from to xs ys h k =
    ap (λ (l : List ℤ). take (suc to - from) l) (drop-append-le from xs ys (omega arith))
    ∙ take-append-le (suc to - from) (drop from xs) ys (omega (arith, length-drop from xs))

-- whatever stands in the list's later places
exact_kept : (direction : Direction) (d : ℕ) (exact : List ℕ) (rest : List ℤ) → 0 < d
    → Exact (record { denominator = d; numerators = map (signed direction) exact }) (amounts_of direction d exact ++ rest) (sumℤ (amounts_of direction d exact))
exact_kept direction d exact rest positive = record {
  near = λ from to h t.
      rw (front_stretch from to (amounts_of direction d exact) rest h
      (omega (arith, t, length-map exact (signed direction), amounts_length direction d exact)))
      (amounts_near direction d exact from (suc to - from) positive);
  rounded = amounts_total direction d exact positive;
}

keeps : (archive : List ℕ) (p k : ℕ) (s : Settlement) (rest : List ℤ) → MadeFrom archive p k s
    → KeepsToFractions archive p k (s.amounts ++ rest) (answer_of (given s))
unfolding exact_fractions ◌>>=◌
keeps archive p k s rest m =
    let positive : 0 < measure_denominator m.basis = omega (arith, (basis_positive archive m.place).of m.basis m.basis_is) in
    rw m.is (record {
      fractions = fractions_of m.place m.basis m.quarters;
      are = rw (m.place_is, m.basis_is, m.quarters_are);
      as_many = length-map (exacts_of m.place m.basis m.quarters) (signed m.place.terms.direction)
          ∙ sym (amounts_length m.place.terms.direction (measure_denominator m.basis) (exacts_of m.place m.basis m.quarters));
      exact = exact_kept m.place.terms.direction (measure_denominator m.basis) (exacts_of m.place m.basis m.quarters) rest positive;
    })

pub settle_keeps : SettleKeeps
settle_keeps archive p k list later answer e l = record {
  answers = e;
  leaves = l;
  keeps = λ z.
      let g = given_by_number settle_refusals refl (settle archive p k (length list)) (every_call_answers.settles archive p k (length list))
      (sym (number_is (settle archive p k (length list)) e) ∙ z) in
      rw (e, l, g.1) (keeps archive p k g.0 (drop (count_of g.0) list) ((made_from archive p k (length list)).of g.0 g.1));
}
