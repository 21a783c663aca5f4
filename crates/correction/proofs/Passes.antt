-- The passes over the lists: what is left to test and to sum from a quarter on.
use mathlib.Core.Path.{◌≡◌, refl, sym, ap, ap₂, ◌∙◌, subst}
use mathlib.Core.Bool.{Bool, true, false, cond, ◌&&◌}
use mathlib.Core.List.{List, [], ◌∷◌, map}
use Prim.Native.Nat.{ℕ, suc, ◌+◌, ◌-◌, ◌*◌, ◌^◌, ◌≤◌, ◌<◌}
use native.Mathlib.Numerals.{add-one}
use native.Mathlib.Omega.{arith}
use borrow.Author.Tests.{le-leb, lt-leb}
use borrow.Author.Rules.{part_to_end}
use lib.Dec.{eqb, leb}
use Rattle.std.specs.List.{list_all}
use lib.IntN.{ℤ, pos, ◌+ℤ◌, +ℤ_idl, +ℤ_idr, +ℤ_assoc}
use lib.Signed.{mag}
use lib.ListN.{length, get_or, take, drop, length-drop}
use lib.Seq.{drop-cons, drop-length}
use Rattle.rules.specs.declared.MillionthCent.{MillionthCent}
use Rattle.rules.specs.declared.Money.{Money}
use Rattle.rules.specs.Outcome.{Outcome, refused, given, ◌>>◌, require}
use Rattle.rules.specs.Refusals.{bad_energies, bad_price, unequal_lists}
use Rattle.rules.specs.Numbers.{or_zero, all}
use Rattle.rules.specs.Correction.{Gap, gap_of, gaps_of, is_energy, energies_allowed, price_allowed, millionths, cost_of, total_cost, money_of, correction_over, correction, corrected_of}
use Rattle.rules.specs.Promises.{Corrects}
use Rattle.rules.proofs.Correction.{cost_small}
use Rattle.rules.proofs.Ints.{under, or_zero_add, under_add}
use Rattle.rules.proofs.Sound.{both}
use Rattle.units.proofs.Laws.{held, back}
use Rattle.correction.proofs.Costs.{in_range}

-- one place of a list, and those behind it
drop_at : (xs : List ℤ) (i : ℕ) → i < length xs → drop i xs ≡ get_or xs i (pos 0) ∷ drop (i + 1) xs
drop_at xs i within = rw (add-one, drop-cons xs i (pos 0) within)

drop_all : (xs : List ℤ) (i : ℕ) → i ≤ length xs → length xs ≤ i → drop i xs ≡ []
drop_all xs i low high = let e : i ≡ length xs = omega arith in rw (e, drop-length)

-- ---- the energies of one list

pub all_listed : (xs : List ℤ) → list_all is_energy xs ≡ all is_energy xs
all_listed [] = refl
all_listed (x ∷ xs) = ap (λ (t : Bool). is_energy x && t) (all_listed xs)

-- ---- the three lists together

gaps_length : (amounts balanced prices : List ℤ) → length balanced ≡ length amounts → length prices ≡ length amounts → length (gaps_of amounts balanced prices) ≡ length amounts
gaps_length [] balanced prices b p = refl
gaps_length (x ∷ amounts) [] prices b p = absurd (omega arith)
gaps_length (x ∷ amounts) (y ∷ balanced) [] b p = absurd (omega arith)
gaps_length (x ∷ amounts) (y ∷ balanced) (z ∷ prices) b p = ap suc (gaps_length amounts balanced prices (omega arith) (omega arith))

apart : (a b c d : Bool) → ((a && b) && (c && d)) ≡ ((a && c) && (b && d))
apart true true c d = refl
apart true false true d = refl
apart true false false d = refl
apart false b c d = refl

-- the energies of all quarters are those of both lists
energies_apart : (amounts balanced prices : List ℤ) → length balanced ≡ length amounts → length prices ≡ length amounts
    → all energies_allowed (gaps_of amounts balanced prices) ≡ (all is_energy amounts && all is_energy balanced)
energies_apart [] [] prices b p = refl
energies_apart [] (y ∷ balanced) prices b p = absurd (omega arith)
energies_apart (x ∷ amounts) [] prices b p = absurd (omega arith)
energies_apart (x ∷ amounts) (y ∷ balanced) [] b p = absurd (omega arith)
energies_apart (x ∷ amounts) (y ∷ balanced) (z ∷ prices) b p =
    ap (λ (t : Bool). (is_energy x && is_energy y) && t) (energies_apart amounts balanced prices (omega arith) (omega arith))
    ∙ apart (is_energy x) (is_energy y) (all is_energy amounts) (all is_energy balanced)

-- what is left from a quarter on, with so much summed before it
unfoldable pub rest : ℤ → List Gap → Outcome Money
rest exact gaps = do
  require (all energies_allowed gaps) bad_energies
  require (all price_allowed gaps) bad_price
  given (money_of (millionths (exact +ℤ (total_cost (map cost_of gaps)).0)))

begins : (gaps : List Gap) → leb (length gaps) 2976 ≡ true → correction_over gaps ≡ rest (pos 0) gaps
unfolding correction_over rest
begins gaps few = rw (few, +ℤ_idl (total_cost (map cost_of gaps)).0)

too_many : (gaps : List Gap) → leb (length gaps) 2976 ≡ false → correction_over gaps ≡ refused bad_energies
unfolding correction_over ◌>>◌ require
too_many gaps many = rw many

goes : (exact : ℤ) (g : Gap) (gs : List Gap) → energies_allowed g ≡ true → price_allowed g ≡ true → rest exact (g ∷ gs) ≡ rest (exact +ℤ (cost_of g).0) gs
unfolding rest
goes exact g gs h k = rw (h, k, +ℤ_assoc exact (cost_of g).0 (total_cost (map cost_of gs)).0)

-- a quarter that isn't allowed: 20 for an energy in it or behind it, else 21
stops : (exact : ℤ) (g : Gap) (gs : List Gap) → (energies_allowed g && price_allowed g) ≡ false
    → rest exact (g ∷ gs) ≡ refused (cond (all energies_allowed (g ∷ gs)) bad_price bad_energies)
unfolding rest ◌>>◌ require
stops exact g gs = by (energies_allowed g) (price_allowed g) (all energies_allowed gs)
  where
    by : (t u v : Bool) → (t && u) ≡ false
        → (require (t && v) bad_energies >> (require (u && all price_allowed gs) bad_price >> given (money_of (millionths (exact +ℤ (total_cost (map cost_of (g ∷ gs))).0)))))
        ≡ refused (cond (t && v) bad_price bad_energies)
    by false u v e = refl
    by true u false e = refl
    by true u true e = rw e

ends : (exact : ℤ) → rest exact [] ≡ given (money_of (millionths exact))
unfolding rest ◌>>◌ require
ends exact = rw (+ℤ_idr exact)

-- ---- the pass

-- after i quarters: so much is summed, at most 2 × 10^15 for each of them either way, and the answer is what is left from there on
pub record Summing (amounts balanced prices : List ℤ) (exact : ℤ) (i : ℕ) : Type 0 where
  pub inside : i ≤ length amounts
  pub small : (or_zero exact ≤ i * 2000000000000000) × (under exact ≤ i * 2000000000000000)
  pub left : correction_over (gaps_of amounts balanced prices) ≡ rest exact (gaps_of (drop i amounts) (drop i balanced) (drop i prices))

module _ (amounts balanced prices : List ℤ) (b : length balanced ≡ length amounts) (p : length prices ≡ length amounts) where
  abbrev answer : Outcome Money
  answer = correction_over (gaps_of amounts balanced prices)

  pub many_refused : 2976 < length amounts → refused bad_energies ≡ answer
  many_refused h = sym (too_many (gaps_of amounts balanced prices) (lt-leb (length (gaps_of amounts balanced prices)) 2976 (omega (arith, gaps_length amounts balanced prices b p))))

  pub sum_begins : length amounts ≤ 2976 → Summing amounts balanced prices (pos 0) 0
  sum_begins h = record {
    inside = omega arith;
    small = omega arith;
    left = begins (gaps_of amounts balanced prices) (le-leb (length (gaps_of amounts balanced prices)) 2976 (omega (arith, gaps_length amounts balanced prices b p)));
  }

  module _ (exact : ℤ) (i : ℕ) (s : Summing amounts balanced prices exact i) where
    pub sum_ends : length amounts ≤ i → (money : Money) → money ≡ money_of (millionths exact) → given money ≡ answer
    sum_ends h money is =
        let e = drop_all amounts i s.inside h in
        ap given is ∙ sym (s.left ∙ ap (λ (l : List ℤ). rest exact (gaps_of l (drop i balanced) (drop i prices))) e ∙ ends exact)

    module _ (within : i < length amounts) where
      -- the quarter at this place
      abbrev at : Gap
      at = gap_of (get_or amounts i (pos 0)) (get_or balanced i (pos 0)) (get_or prices i (pos 0))

      abbrev behind : List Gap
      behind = gaps_of (drop (i + 1) amounts) (drop (i + 1) balanced) (drop (i + 1) prices)

      from_here : gaps_of (drop i amounts) (drop i balanced) (drop i prices) ≡ at ∷ behind
      from_here = rw (drop_at amounts i within, drop_at balanced i (omega arith), drop_at prices i (omega arith))

      energies_from : all energies_allowed (at ∷ behind) ≡ (all is_energy (drop i amounts) && all is_energy (drop i balanced))
      energies_from =
          ap (all energies_allowed) (sym from_here)
          ∙ energies_apart (drop i amounts) (drop i balanced) (drop i prices)
          (omega (arith, length-drop i balanced, length-drop i amounts)) (omega (arith, length-drop i prices, length-drop i amounts))

      -- the part of a list from this place on, as the code lends it
      abbrev part : List ℤ → List ℤ
      part xs = take (length xs - i) (drop i xs)

      parts_are : (list_all is_energy (part amounts) && list_all is_energy (part balanced)) ≡ all energies_allowed (at ∷ behind)
      parts_are =
          ap₂ (λ (k l : List ℤ). list_all is_energy k && list_all is_energy l) (part_to_end amounts i) (part_to_end balanced i)
          ∙ ap₂ ◌&&◌ (all_listed (drop i amounts)) (all_listed (drop i balanced))
          ∙ sym energies_from

      -- its numbers as the code reads them
      abbrev read : Gap
      read = gap_of (held (get_or amounts i (pos 0))) (held (get_or balanced i (pos 0))) (held (get_or prices i (pos 0)))

      module _ (fa : mag (get_or amounts i (pos 0)) < 2 ^ 63) (fb : mag (get_or balanced i (pos 0)) < 2 ^ 63) (fp : mag (get_or prices i (pos 0)) < 2 ^ 63) where
        read_is : read ≡ at
        read_is = rw (back (get_or amounts i (pos 0)) fa, back (get_or balanced i (pos 0)) fb, back (get_or prices i (pos 0)) fp)

        tests_are : (t : Bool) → t ≡ (energies_allowed read && price_allowed read) → t ≡ (energies_allowed at && price_allowed at)
        tests_are t h = h ∙ ap (λ (g : Gap). energies_allowed g && price_allowed g) read_is

        pub sum_stops : (t : Bool) → t ≡ (energies_allowed read && price_allowed read) → t ≡ false
            → (n : ℕ) → n ≡ cond (list_all is_energy (part amounts) && list_all is_energy (part balanced)) bad_price bad_energies
            → refused n ≡ answer
        sum_stops t h e n k =
            sym (s.left ∙ ap (rest exact) from_here ∙ stops exact at behind (sym (tests_are t h) ∙ e) ∙ ap (λ (u : Bool). refused (cond u bad_price bad_energies)) (sym parts_are) ∙ ap refused (sym k))

        module _ (t : Bool) (h : t ≡ (energies_allowed read && price_allowed read)) (e : t ≡ true) where
          tests : (energies_allowed at ≡ true) × (price_allowed at ≡ true)
          tests = both (energies_allowed at) (price_allowed at) (sym (tests_are t h) ∙ e)

          pub read_allowed : (energies_allowed read ≡ true) × (price_allowed read ≡ true)
          read_allowed = both (energies_allowed read) (price_allowed read) (sym h ∙ e)

          goes_on : Summing amounts balanced prices (exact +ℤ (cost_of at).0) (i + 1)
          goes_on =
              let c = cost_small at tests.0 tests.1 in
              record {
                inside = omega arith;
                small = (omega (arith, or_zero_add exact (cost_of at).0, s.small, c), omega (arith, under_add exact (cost_of at).0, s.small, c));
                left = s.left ∙ ap (rest exact) from_here ∙ goes exact at behind tests.0 tests.1;
              }

          -- the cost of the quarter added
          module _ (few : length amounts ≤ 2976) (cost : MillionthCent) (is : cost ≡ cost_of read) where
            cost_is : cost.0 ≡ (cost_of at).0
            cost_is = ap (λ (m : MillionthCent). m.0) (is ∙ ap cost_of read_is)

            pub sum_fits : mag (exact +ℤ cost.0) < 2 ^ 63
            sum_fits =
                subst (λ (z : ℤ). mag (exact +ℤ z) < 2 ^ 63) (sym cost_is)
                (in_range (exact +ℤ (cost_of at).0) 5952000000000000000 (omega (arith, goes_on.small), omega (arith, goes_on.small)) (omega arith))

            pub sum_goes : (later : ℤ) → later ≡ exact +ℤ cost.0 → Summing amounts balanced prices later (i + 1)
            sum_goes later e = subst (λ (z : ℤ). Summing amounts balanced prices z (i + 1)) (sym (e ∙ ap (λ (z : ℤ). exact +ℤ z) cost_is)) goes_on

-- ---- 22 before all else

module _ (amounts balanced prices : List ℤ) where
  lengths_differ : (eqb (length balanced) (length amounts) && eqb (length prices) (length amounts)) ≡ false → refused unequal_lists ≡ correction amounts balanced prices
  unfolding correction ◌>>◌ require
  lengths_differ e = rw e

  pub balanced_differ : eqb (length balanced) (length amounts) ≡ false → refused unequal_lists ≡ correction amounts balanced prices
  balanced_differ e = lengths_differ (rw e)

  module _ (b : eqb (length balanced) (length amounts) ≡ true) where
    pub prices_differ : eqb (length prices) (length amounts) ≡ false → refused unequal_lists ≡ correction amounts balanced prices
    prices_differ e = lengths_differ (rw (b, e))

    pub as_long : eqb (length prices) (length amounts) ≡ true → correction_over (gaps_of amounts balanced prices) ≡ correction amounts balanced prices
    unfolding correction ◌>>◌ require
    as_long e = rw (b, e)

-- so the call's answer with zeros for a refusal
pub corrects : {amounts balanced prices : List ℤ} {o : Outcome Money} → o ≡ correction amounts balanced prices → Corrects amounts balanced prices (corrected_of o)
corrects e = record { answers = ap corrected_of e }
