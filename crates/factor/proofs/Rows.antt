-- The rows of the plant factor, in the order in which the code tests them.
use mathlib.Core.Path.{◌≡◌, refl, sym, ◌∙◌, ap}
use mathlib.Core.Bool.{Bool, true, false}
use mathlib.Core.List.{List, [], ◌∷◌, ◌++◌}
use Prim.Native.Nat.{ℕ}
use native.Mathlib.Omega.{arith}
use lib.ListN.{length}
use Rattle.std.proofs.Common.{append_assoc}
use Rattle.std.proofs.lemmas.List.{append-nil}
use Rattle.rules.specs.declared.FactorRow.{FactorRow}
use Rattle.rules.specs.Reference.{factor_rows, is_for, first_for}

-- the rows that were come to, from the last one on, and those ahead
pub record Looked (summer : Bool) (q factor : ℕ) (ahead : List FactorRow) : Type 0 where
  pub behind : List FactorRow
  pub all : ahead ++ behind ≡ factor_rows
  pub is : factor ≡ first_for summer q behind

module _ (summer : Bool) (q : ℕ) where
  pub looked_none : {ahead : List FactorRow} → ahead ≡ factor_rows → Looked summer q 0 ahead
  looked_none {ahead} e = record { behind = []; all = append-nil ahead ∙ e; is = refl }

  module _ {factor : ℕ} {ahead : List FactorRow} (l : Looked summer q factor ahead) where
    module _ (r : FactorRow) (rest : List FactorRow) (turn : ahead ≡ rest ++ (r ∷ [])) where
      all_still : rest ++ (r ∷ l.behind) ≡ factor_rows
      all_still = sym (append_assoc rest (r ∷ []) l.behind) ∙ rw turn at l.all

      pub row_taken : true ≡ is_for summer q r → Looked summer q r.factor rest
      row_taken e = record { behind = r ∷ l.behind; all = all_still; is = rw (← e) }

      pub row_left : false ≡ is_for summer q r → Looked summer q factor rest
      row_left e = record { behind = r ∷ l.behind; all = all_still; is = l.is ∙ rw (← e) }

    pub looked_all : length ahead ≡ 0 → factor ≡ first_for summer q factor_rows
    looked_all e = l.is ∙ ap (first_for summer q) (by ahead e l.all)
      where
        by : (rows : List FactorRow) → length rows ≡ 0 → rows ++ l.behind ≡ factor_rows → l.behind ≡ factor_rows
        by [] z a = a
        by (r ∷ rows) z a = absurd (omega arith)
