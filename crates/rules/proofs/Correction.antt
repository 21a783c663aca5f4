-- The financial correction: the split is exact, quarters by themselves add up, raised prices raise the result; and how large its numbers are.
use mathlib.Core.Path.{◌≡◌, refl, sym, ◌∙◌, ap, ap₂, subst}
use mathlib.Core.Bool.{Bool, true, false, ◌&&◌}
use mathlib.Core.List.{List, [], ◌∷◌, map}
use Prim.Native.Nat.{ℕ, suc, ◌*◌, ◌-◌, ◌/◌, ◌%◌, ◌≤◌, ◌<◌}
use native.Mathlib.Nat.{mul-le-mul}
use native.Mathlib.Omega.{arith}
use borrow.Author.Tests.{eqb-true}
use lib.Dec.{eqb, leb}
use lib.IntN.{ℤ, pos, negsuc, ◌+ℤ◌, ◌-ℤ◌, ◌*ℤ◌, *ℤ-negsuc, *ℤ_comm, +ℤ_idr}
use lib.Signed.{◌≤ℤ◌, ◌<ℤ◌, ≤ℤ_refl, lt_z, lt_z_yes, lt_z_no}
use lib.ListN.{length}
use Rattle.rules.specs.Outcome.{given, ◌>>◌, require}
use Rattle.rules.specs.Refusals.{bad_energies, bad_price, unequal_lists}
use Rattle.rules.specs.Numbers.{or_zero, all}
use Rattle.rules.specs.Correction.{MillionthCent, Money, Gap, gap_of, gaps_of, is_energy, energies_allowed, price_allowed}
use Rattle.rules.specs.Correction.{millionths, cost_of, total_cost, rounded_down, money_of, exact_money, correction_over, correction}
use Rattle.rules.specs.Demands.{CorrectionsExact, alone, QuartersAddUp, PricesRaised, CorrectionsRise}
use Rattle.rules.proofs.Inversion.{given_inj}
use Rattle.rules.proofs.Ints.{under, parts_eq, parts_le, le_parts, or_zero_neg, under_neg, or_zero_minus, under_minus, or_zero_times, under_times, add_parts, times_mono}
use Rattle.rules.proofs.Ranges.{within_signed}
use Rattle.rules.proofs.Sound.{required, both}

-- ---- the split

-- what is left of a number beside its whole millions
abbrev left : ℤ → ℕ
left z = or_zero (z -ℤ rounded_down z 1000000 *ℤ pos 1000000)

left_natural : (n : ℕ) → left (pos n) ≡ n % 1000000
left_natural n = omega (arith, or_zero_minus (pos n) (pos (n / 1000000 * 1000000)))

left_negative : (n : ℕ) → left (negsuc n) ≡ 999999 - n % 1000000
left_negative n =
    let w = negsuc (n / 1000000) in
    omega (arith, or_zero_minus (negsuc n) (w *ℤ pos 1000000), or_zero_times w 1000000, under_times w 1000000)

-- the split of a number that isn't below zero, and of one that is: -(n + 1)
pub money_natural : (n : ℕ) → money_of (millionths (pos n)) ≡ record { cents = pos (n / 1000000); remainder = n % 1000000 }
unfolding money_of
money_natural n = rw (left_natural n)

pub money_negative : (n : ℕ) → money_of (millionths (negsuc n)) ≡ record { cents = negsuc (n / 1000000); remainder = 999999 - n % 1000000 }
unfolding money_of
money_negative n = rw (left_negative n)

split_below : (exact : MillionthCent) → (money_of exact).remainder < 1000000
unfolding money_of
split_below exact = go exact.0
  where
    go : (z : ℤ) → left z < 1000000
    go (pos n) = omega (arith, left_natural n)
    go (negsuc n) = omega (arith, left_negative n)

split_back : (z : ℤ) → rounded_down z 1000000 *ℤ pos 1000000 +ℤ pos (left z) ≡ z
split_back (pos n) = ap pos (omega (arith, left_natural n))
split_back (negsuc n) =
    let w = negsuc (n / 1000000) *ℤ pos 1000000 in
    let l = pos (left (negsuc n)) in
    parts_eq (w +ℤ l) (negsuc n)
    (omega (arith, add_parts w l, left_negative n, or_zero_times (negsuc (n / 1000000)) 1000000, under_times (negsuc (n / 1000000)) 1000000))

split_exact : (exact : MillionthCent) → exact_money (money_of exact) ≡ exact
unfolding money_of exact_money
split_exact exact = ap millionths (split_back exact.0)

-- ---- lists that aren't refused

record Allowed (gaps : List Gap) : Type 0 where
  few : leb (length gaps) 2976 ≡ true
  energies : all energies_allowed gaps ≡ true
  prices : all price_allowed gaps ≡ true

record Gives (gaps : List Gap) (money : Money) : Type 0 where
  allowed : Allowed gaps
  is : money ≡ money_of (total_cost (map cost_of gaps))

corrected_gives : (gaps : List Gap) (money : Money) → correction_over gaps ≡ given money → Gives gaps money
unfolding correction_over
corrected_gives gaps money e =
    let r = required (leb (length gaps) 2976 && all energies_allowed gaps) bad_energies _ e in
    let t = both (leb (length gaps) 2976) (all energies_allowed gaps) r.0 in
    let s = required (all price_allowed gaps) bad_price _ r.1 in
    record { allowed = record { few = t.0; energies = t.1; prices = s.0 }; is = sym (given_inj s.1) }

gives_correction_over : (gaps : List Gap) → Allowed gaps → correction_over gaps ≡ given (money_of (total_cost (map cost_of gaps)))
unfolding correction_over ◌>>◌ require
gives_correction_over gaps h = rw (h.few, h.energies, h.prices)

module _ (amounts balanced prices : List ℤ) (money : Money) (e : correction amounts balanced prices ≡ given money) where
  abbrev gaps : List Gap
  gaps = gaps_of amounts balanced prices

  passed : ((eqb (length balanced) (length amounts) && eqb (length prices) (length amounts)) ≡ true) × (correction_over gaps ≡ given money)
  unfolding correction
  passed = required (eqb (length balanced) (length amounts) && eqb (length prices) (length amounts)) unequal_lists _ e

  gives : Gives gaps money
  gives = corrected_gives gaps money passed.1

  as_long : (length balanced ≡ length amounts) × (length prices ≡ length amounts)
  as_long =
      let t = both (eqb (length balanced) (length amounts)) (eqb (length prices) (length amounts)) passed.0 in
      (eqb-true (length balanced) (length amounts) t.0, eqb-true (length prices) (length amounts) t.1)

  exact_is : exact_money money ≡ total_cost (map cost_of gaps)
  exact_is = ap exact_money gives.is ∙ split_exact (total_cost (map cost_of gaps))

pub corrections_exact : CorrectionsExact
corrections_exact amounts balanced prices money e = record {
  is_sum = exact_is amounts balanced prices money e;
  is_rest = subst (λ (m : Money). m.remainder < 1000000) (sym (gives amounts balanced prices money e).is) (split_below (total_cost (map cost_of (gaps_of amounts balanced prices))));
}

-- ---- quarters by themselves

-- the cost of one quarter, split
abbrev single : Gap → Money
single g = money_of (total_cost (map cost_of (g ∷ [])))

alone_gives : (g : Gap) → energies_allowed g ≡ true → price_allowed g ≡ true → alone g ≡ given (single g)
unfolding correction ◌>>◌ require
alone_gives g h k = gives_correction_over (g ∷ []) (record { few = refl; energies = rw h; prices = rw k })

all_alone : (gaps : List Gap) → all energies_allowed gaps ≡ true → all price_allowed gaps ≡ true → map alone gaps ≡ map given (map single gaps)
all_alone [] h k = refl
all_alone (g ∷ gs) h k =
    let a = both (energies_allowed g) (all energies_allowed gs) h in
    let b = both (price_allowed g) (all price_allowed gs) k in
    ap₂ ◌∷◌ (alone_gives g a.0 b.0) (all_alone gs a.1 b.1)

-- a cost split and put together is the cost
singles_exact : (gaps : List Gap) → total_cost (map exact_money (map single gaps)) ≡ total_cost (map cost_of gaps)
singles_exact [] = refl
singles_exact (g ∷ gs) =
    let one : (exact_money (single g)).0 ≡ (cost_of g).0 = ap (λ m. m.0) (split_exact (total_cost (map cost_of (g ∷ [])))) ∙ +ℤ_idr (cost_of g).0 in
    let rest : (total_cost (map exact_money (map single gs))).0 ≡ (total_cost (map cost_of gs)).0 = ap (λ m. m.0) (singles_exact gs) in
    ap millionths (ap₂ ◌+ℤ◌ one rest)

pub quarters_add_up : QuartersAddUp
quarters_add_up amounts balanced prices money e =
    let g = gives amounts balanced prices money e in
    let gaps = gaps_of amounts balanced prices in
    let sum = singles_exact gaps in
    (map single gaps, all_alone gaps g.allowed.energies g.allowed.prices, exact_is amounts balanced prices money e ∙ sym sum, g.is ∙ ap money_of (sym sum))

-- ---- raised prices

add_rises : {a b c d : ℤ} → a ≤ℤ b → c ≤ℤ d → (a +ℤ c) ≤ℤ (b +ℤ d)
add_rises {a} {b} {c} {d} h k = parts_le (a +ℤ c) (b +ℤ d) (omega (arith, le_parts h, le_parts k, add_parts a c, add_parts b d))

rounded_rises : (a b : ℤ) → a ≤ℤ b → rounded_down a 1000000 ≤ℤ rounded_down b 1000000
rounded_rises (pos a) (pos b) h = parts_le (pos (a / 1000000)) (pos (b / 1000000)) (omega (arith, le_parts h))
rounded_rises (pos a) (negsuc b) h = absurd (omega (arith, le_parts h))
rounded_rises (negsuc a) (pos b) h = parts_le (negsuc (a / 1000000)) (pos (b / 1000000)) (omega arith)
rounded_rises (negsuc a) (negsuc b) h = parts_le (negsuc (a / 1000000)) (negsuc (b / 1000000)) (omega (arith, le_parts h))

-- a gap that isn't below zero, at a price and at one that isn't lower
gap_rises : (a b p q : ℤ) → b ≤ℤ a → p ≤ℤ q → ((a -ℤ b) *ℤ p) ≤ℤ ((a -ℤ b) *ℤ q)
gap_rises a b p q above h =
    let n = or_zero (a -ℤ b) in
    let e : a -ℤ b ≡ pos n = parts_eq (a -ℤ b) (pos n) (omega (arith, under_minus a b, le_parts above)) in
    rw e (rw (*ℤ_comm (pos n) p, *ℤ_comm (pos n) q) (times_mono n h))

cost_rises : (a b p q : ℤ) → p ≤ℤ q → (a <ℤ b → p ≡ q) → (cost_of (gap_of a b p)).0 ≤ℤ (cost_of (gap_of a b q)).0
unfolding cost_of
cost_rises a b p q h same = by (lt_z a b) refl
  where
    by : (t : Bool) → lt_z a b ≡ t → ((a -ℤ b) *ℤ p) ≤ℤ ((a -ℤ b) *ℤ q)
    by true e = subst (λ (z : ℤ). ((a -ℤ b) *ℤ p) ≤ℤ ((a -ℤ b) *ℤ z)) (same (lt_z_yes (rw e tt))) (≤ℤ_refl ((a -ℤ b) *ℤ p))
    by false e = gap_rises a b p q (lt_z_no (rw e tt)) h

-- at each place of the lists
total_cost_rises : (amounts balanced first second : List ℤ) → length first ≡ length second → PricesRaised amounts balanced first second
    → (total_cost (map cost_of (gaps_of amounts balanced first))).0 ≤ℤ (total_cost (map cost_of (gaps_of amounts balanced second))).0
total_cost_rises [] balanced first second l r = ≤ℤ_refl (pos 0)
total_cost_rises (a ∷ amounts) [] first second l r = ≤ℤ_refl (pos 0)
total_cost_rises (a ∷ amounts) (b ∷ balanced) [] [] l r = ≤ℤ_refl (pos 0)
total_cost_rises (a ∷ amounts) (b ∷ balanced) [] (q ∷ second) l r = absurd (omega arith)
total_cost_rises (a ∷ amounts) (b ∷ balanced) (p ∷ first) [] l r = absurd (omega arith)
total_cost_rises (a ∷ amounts) (b ∷ balanced) (p ∷ first) (q ∷ second) l r =
    add_rises (cost_rises a b p q (r.no_lower 0) (r.equal_below 0))
    (total_cost_rises amounts balanced first second (omega arith) (record { no_lower = λ i. r.no_lower (suc i); equal_below = λ i. r.equal_below (suc i) }))

pub corrections_rise : CorrectionsRise
unfolding money_of
corrections_rise amounts balanced first second money₁ money₂ e₁ e₂ r =
    let l : length first ≡ length second = (as_long amounts balanced first money₁ e₁).1 ∙ sym (as_long amounts balanced second money₂ e₂).1 in
    let h = total_cost_rises amounts balanced first second l r in (
      rw ((gives amounts balanced first money₁ e₁).is, (gives amounts balanced second money₂ e₂).is) (rounded_rises _ _ h),
      rw (exact_is amounts balanced first money₁ e₁, exact_is amounts balanced second money₂ e₂) h,
    )

-- ---- how large the numbers are

product_small : (a b : ℤ) (most top : ℕ) → (or_zero a ≤ most) × (under a ≤ most) → (or_zero b ≤ top) × (under b ≤ top)
    → (or_zero (a *ℤ b) ≤ most * top) × (under (a *ℤ b) ≤ most * top)
product_small a (pos n) most top h k =
    (omega (arith, or_zero_times a n, mul-le-mul h.0 k.0), omega (arith, under_times a n, mul-le-mul h.1 k.0))
product_small a (negsuc n) most top h k =
    rw (*ℤ-negsuc a n) (
      omega (arith, or_zero_neg (a *ℤ pos (suc n)), under_times a (suc n), mul-le-mul h.1 k.1),
      omega (arith, under_neg (a *ℤ pos (suc n)), or_zero_times a (suc n), mul-le-mul h.0 k.1),
    )

module _ (g : Gap) (energies : energies_allowed g ≡ true) where
  pub gap_small : (or_zero (g.amount -ℤ g.balanced) ≤ 2000000000) × (under (g.amount -ℤ g.balanced) ≤ 2000000000)
  gap_small =
      let t = both (is_energy g.amount) (is_energy g.balanced) energies in
      let a = within_signed 999999999 1000000000 g.amount t.0 in
      let b = within_signed 999999999 1000000000 g.balanced t.1 in
      (omega (arith, or_zero_minus g.amount g.balanced), omega (arith, under_minus g.amount g.balanced))

  pub cost_small : price_allowed g ≡ true → (or_zero (cost_of g).0 ≤ 2000000000000000) × (under (cost_of g).0 ≤ 2000000000000000)
  unfolding cost_of
  cost_small price =
      product_small (g.amount -ℤ g.balanced) g.price.0 2000000000 1000000 gap_small (within_signed 999999 1000000 g.price.0 price)
