-- The financial correction (02, 5; finanzieller Ausgleich, 001, 2.1.3): in each quarter the gap between the amount and the balanced energy,
-- at a price; in all whole cents, rounded down, with what is left. Energies are in Wh and prices in cents per MWh, so an energy times a price
-- is in millionths of a cent. Prices and money are types of their own, and neither is ever added to an energy.
use Rattle.std.specs.Prelude.{ℕ, ◌/◌, Bool, ◌&&◌, List, [], ◌∷◌, map, eqb, leb, ℤ, pos, negsuc, neg_ℤ, ◌+ℤ◌, ◌-ℤ◌, ◌*ℤ◌, length}
use Rattle.rules.specs.Outcome.{Outcome, refused, given, ◌>>◌, require}
use Rattle.rules.specs.Refusals.{bad_energies, bad_price, unequal_lists}
use Rattle.rules.specs.Numbers.{or_zero, within, all}
pub use Rattle.rules.specs.declared.Price.{Price}
pub use Rattle.rules.specs.declared.MillionthCent.{MillionthCent}
pub use Rattle.rules.specs.declared.Money.{Money}
pub use Rattle.rules.specs.declared.Corrected.{Corrected}

-- a number as a price, and as money
abbrev pub cents_per_megawatt_hour : ℤ → Price
cents_per_megawatt_hour z = record { 0 = z }

abbrev pub millionths : ℤ → MillionthCent
millionths z = record { 0 = z }

-- ---- ranges

-- what 20 tests of an amount and of a balanced energy: up to 1,000,000,000 Wh either way
abbrev pub is_energy : ℤ → Bool
is_energy = within (neg_ℤ (pos 1000000000)) (pos 1000000000)

-- what 21 tests: up to 1,000,000 cents per MWh either way
abbrev pub is_price : Price → Bool
is_price price = within (neg_ℤ (pos 1000000)) (pos 1000000) price.0

-- ---- quarters

-- a quarter's amount and balanced energy (bilanzieller Ausgleich), in Wh, and its price
pub record Gap : Type 0 where
  pub amount : ℤ
  pub balanced : ℤ
  pub price : Price

abbrev pub gap_of : ℤ → ℤ → ℤ → Gap
gap_of amount balanced price = record { amount = amount; balanced = balanced; price = cents_per_megawatt_hour price }

-- three lists with one place for each quarter
abbrev pub gaps_of : List ℤ → List ℤ → List ℤ → List Gap
gaps_of [] balanced prices = []
gaps_of (a ∷ amounts) [] prices = []
gaps_of (a ∷ amounts) (b ∷ balanced) [] = []
gaps_of (a ∷ amounts) (b ∷ balanced) (p ∷ prices) = gap_of a b p ∷ gaps_of amounts balanced prices

abbrev pub energies_allowed : Gap → Bool
energies_allowed g = is_energy g.amount && is_energy g.balanced

abbrev pub price_allowed : Gap → Bool
price_allowed g = is_price g.price

-- ---- exact money

-- (amount - balanced) × price, with its sign
unfoldable pub cost_of : Gap → MillionthCent
cost_of g = millionths ((g.amount -ℤ g.balanced) *ℤ g.price.0)

-- the exact products added, none of them rounded; none at all is 0
abbrev pub total_cost : List MillionthCent → MillionthCent
total_cost [] = millionths (pos 0)
total_cost (m ∷ ms) = millionths (m.0 +ℤ (total_cost ms).0)

-- ---- whole cents

-- over a number, rounded down toward minus infinity: negsuc n is -(n + 1), which is -(n / d + 1) over d
abbrev pub rounded_down : ℤ → ℕ → ℤ
rounded_down (pos n) d = pos (n / d)
rounded_down (negsuc n) d = negsuc (n / d)

-- whole cents
abbrev pub cents_of : MillionthCent → ℤ
cents_of exact = rounded_down exact.0 1000000

-- the exact sum split once: whole cents, rounded down, and what is left, which is never below zero (`CorrectionsExact` of Demands.antt)
unfoldable pub money_of : MillionthCent → Money
money_of exact = record { cents = cents_of exact; remainder = or_zero (exact.0 -ℤ cents_of exact *ℤ pos 1000000) }

-- the way back: 1,000,000 × cents + remainder
unfoldable pub exact_money : Money → MillionthCent
exact_money m = millionths (m.cents *ℤ pos 1000000 +ℤ pos m.remainder)

-- ---- the call

-- 20, then 21, each over all quarters; the sum is formed from the exact products and split once (02, 5)
unfoldable pub correction_over : List Gap → Outcome Money
correction_over gaps = do
  require (leb (length gaps) 2976 && all energies_allowed gaps) bad_energies
  require (all price_allowed gaps) bad_price
  given (money_of (total_cost (map cost_of gaps)))

-- of three lists: 22 before all else (02, 5)
unfoldable pub correction : List ℤ → List ℤ → List ℤ → Outcome Money
correction amounts balanced prices = do
  require (eqb (length balanced) (length amounts) && eqb (length prices) (length amounts)) unequal_lists
  correction_over (gaps_of amounts balanced prices)

-- what the call gives: its number, and zero for both results where it is refused
abbrev pub corrected_of : Outcome Money → Corrected
corrected_of (refused n) = record { refusal = n; money = record { cents = pos 0; remainder = 0 } }
corrected_of (given m) = record { refusal = 0; money = m }
