-- Two archives that demand 3 compares: case a, and the same with the first quarter's measured power 1 W higher.
use mathlib.Core.Path.{◌≡◌, refl, sym, ◌∙◌, ap, subst}
use mathlib.Core.Bool.{Bool, true, false}
use mathlib.Core.List.{List, [], ◌∷◌}
use Prim.Native.Nat.{ℕ}
use native.Mathlib.Decide.{ℕ_discrete}
use lib.Dec.{T}
use lib.IntN.{pos}
use lib.Signed.{le_z, le_z_yes}
use lib.ListN.{set}
use lib.Seq.{get_or-set_other}
use Rattle.rules.specs.Archive.{byte_at, field_at, record_at}
use Rattle.rules.specs.Fractions.{quarter_numbers, is_reading, Raised}
use Rattle.rules.specs.Figures.{case_a, settling, settles, settles_a}
use Rattle.rules.proofs.Lists.{at_member}
use Rattle.rules.proofs.Figures.{rules}

-- the low byte of record 4's measured power, 500,001
unfoldable pub higher : List ℕ
higher = set case_a 136 0x22

pub both_settle : (settling case_a 1 1 3 ≡ settles_a) × (settling higher 1 1 3 ≡ settles 3 (pos 224998) 6 (pos 74999 ∷ pos 75000 ∷ pos 74999 ∷ []))
unfolding rules higher
both_settle = (refl, refl)

-- the field at a byte of record n isn't lower
no_lower : ℕ → ℕ → Bool
no_lower at n = le_z (field_at (record_at case_a n) at) (field_at (record_at higher n) at)

pub raised : Raised case_a higher 1 1
unfolding rules higher no_lower quarter_numbers
raised = record {
  equally_long = refl;
  equal_elsewhere = λ i e. elsewhere i (ℕ_discrete i 136) e;
  measured_no_lower = λ n m. le_z_yes (subst T (sym (at_member (no_lower 8) (quarter_numbers case_a 1 1) n refl m)) tt);
  limit_no_lower = λ n m. le_z_yes (subst T (sym (at_member (no_lower 12) (quarter_numbers case_a 1 1) n refl m)) tt);
}
  where
    elsewhere : (i : ℕ) → Dec (i ≡ 136) → is_reading (quarter_numbers case_a 1 1) i ≡ false → byte_at case_a i ≡ byte_at higher i
    elsewhere i (yes p) e = let z : true ≡ false = ap (is_reading (quarter_numbers case_a 1 1)) (sym p) ∙ e in cc
    elsewhere i (no f) e = sym (get_or-set_other case_a 136 i 0x22 0 f)
