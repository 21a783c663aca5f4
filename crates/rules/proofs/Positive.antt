-- A measure's denominator is above zero.
use mathlib.Core.List.{List, [], ◌∷◌}
use Prim.Native.Nat.{ℕ, ◌<◌}
use lib.Dec.{ltb→lt, lit<}
use Rattle.rules.specs.Archive.{Entry}
use Rattle.rules.specs.Terms.{Technology, wind, solar, other, Variant, spitz, pauschal, Point, Before}
use Rattle.rules.specs.Reference.{denominator}
use Rattle.rules.specs.Settle.{Place, Basis, wind_basis, first_marked, solar_basis, pauschal_basis, basis_by, basis_of}
use Rattle.rules.proofs.Inversion.{Holds, holds_refused, holds_bind, holds_require, holds_given}

abbrev Positive : Basis → Type 0
Positive basis = 0 < denominator basis.reference

wind_positive : (pn : ℕ) (points : List Point) (entries : List Entry) → Holds Positive (wind_basis pn points entries)
unfolding wind_basis
wind_positive pn points entries =
    holds_require _ 9 _ (λ r. holds_require _ 11 _ (λ n. holds_require _ 12 _ (λ b. holds_given _ (ltb→lt _ _ b))))

solar_positive : (bs : List Before) (links : ℕ) → Holds Positive (solar_basis bs links)
unfolding solar_basis
solar_positive bs links =
    holds_require _ 9 _ (λ r. holds_require _ 11 _ (λ n. holds_require _ 12 _ (λ b. holds_given _ (ltb→lt _ _ b))))

first_positive : (bs : List Before) (links : ℕ) → Holds Positive (first_marked bs links)
unfolding first_marked
first_positive [] links = holds_refused 11
first_positive (b ∷ bs) links = holds_require _ 9 _ (λ r. holds_given _ (lit< tt))

pauschal_positive : (archive : List ℕ) (place : Place) → Holds Positive (pauschal_basis archive place)
pauschal_positive archive place = holds_bind _ _ (λ entries e. first_positive _ _)

by_positive : (t : Technology) (v : Variant) (archive : List ℕ) (place : Place) → Holds Positive (basis_by t v archive place)
unfolding basis_by
by_positive wind spitz archive place = holds_bind _ _ (λ points e. holds_bind _ _ (λ entries e. wind_positive _ points entries))
by_positive wind pauschal archive place = pauschal_positive archive place
by_positive solar spitz archive place = holds_bind _ _ (λ entries e. solar_positive _ _)
by_positive solar pauschal archive place = holds_given _ (lit< tt)
by_positive other spitz archive place = holds_given _ (lit< tt)
by_positive other pauschal archive place = pauschal_positive archive place

pub basis_positive : (archive : List ℕ) (place : Place) → Holds (λ basis. 0 < denominator basis.reference) (basis_of archive place)
basis_positive archive place = by_positive _ _ archive place
