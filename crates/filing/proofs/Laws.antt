-- What each answer of fresh is, over plain variables.
use mathlib.Core.Path.{◌≡◌, sym, ◌∙◌, ap}
use mathlib.Core.Bool.{true, false}
use mathlib.Core.List.{List}
use Prim.Native.Nat.{ℕ, ◌+◌, ◌≤◌}
use native.Mathlib.Omega.{arith}
use lib.ListN.{length, replicate}
use Rattle.rules.specs.Outcome.{◌>>◌, require}
use Rattle.rules.specs.Refusals.{not_archive}
use Rattle.rules.specs.Archive.{is_whole}
use Rattle.rules.specs.Encoding.{put}
use Rattle.rules.specs.Filing.{fresh}
use Rattle.rules.specs.Promises.{Freshens}
use Rattle.rules.proofs.Writes.{fresh_head, fresh_written}
use Rattle.rules.proofs.Sound.{whole_length}

-- ---- fresh

module _ (archive : List ℕ) where
  pub fresh_refused : is_whole (length archive) ≡ false → Freshens archive archive not_archive
  unfolding fresh ◌>>◌ require
  fresh_refused h = record { answers = rw h; leaves = rw h }

  module _ (whole : is_whole (length archive) ≡ true) (zeros : List ℕ) where
    pub fresh_fits : length zeros ≡ length archive → 0 + 8 ≤ length zeros
    fresh_fits e = let w = whole_length (length archive) whole in omega arith

    pub fresh_done : (later : List ℕ) → zeros ≡ replicate (length archive) 0 → later ≡ put zeros 0 fresh_head → Freshens archive later 0
    unfolding fresh ◌>>◌ require
    fresh_done later e f = record {
      answers = rw whole;
      leaves = f ∙ ap (λ (l : List ℕ). put l 0 fresh_head) e ∙ fresh_written (length archive) ∙ sym (rw whole);
    }
