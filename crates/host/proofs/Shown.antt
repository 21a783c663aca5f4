-- Show's part tells where its record starts: it is empty, or it is the record's 32 bytes.
use mathlib.Core.Path.{◌≡◌, refl, sym, ◌∙◌, ap}
use mathlib.Core.Bool.{Bool, true, false, cond}
use mathlib.Core.List.{List, []}
use Prim.Native.Nat.{ℕ, ◌+◌, ◌*◌, ◌≤◌, ◌<◌, ◌^◌}
use native.Mathlib.Omega.{arith}
use native.Mathlib.Nat.{not-suc-le-zero}
use borrow.Author.Tests.{ltb-true}
use lib.ListN.{length}
use Rattle.rules.specs.Outcome.{Outcome, refused, given}
use Rattle.rules.specs.Archive.{used_of, record_at}
use Rattle.rules.specs.Filing.{is_shown, shown}
use Rattle.rules.proofs.Bytes.{record_length}
use Rattle.rules.proofs.AppendSteps.{used_within}
use Rattle.host.specs.Shown.{shown_place}

module _ (archive : List ℕ) (n : ℕ) where
  -- a record that is shown lies in the archive
  shown_within : (o : Outcome ℕ) → used_of archive ≡ o → is_shown o n ≡ true → (32 * n + 32 ≤ length archive) × (n < 65536)
  shown_within (refused k) e t = absurd (not-suc-le-zero (ltb-true n 0 t))
  shown_within (given used) e t = let w = used_within archive used e in let l = ltb-true n used t in omega arith

  module _ (part : List ℕ) (e : part ≡ shown archive n) where
    by_shown : (t : Bool) → is_shown (used_of archive) n ≡ t → part ≡ cond t (record_at archive n) []
    unfolding shown
    by_shown t q = e ∙ ap (λ (u : Bool). cond u (record_at archive n) []) q

    place_by : (t : Bool) → is_shown (used_of archive) n ≡ t → shown_place archive n ≡ cond t (32 * n) (length archive)
    unfolding shown_place
    place_by t q = ap (λ (u : Bool). cond u (32 * n) (length archive)) q

    pub shown_none : length part ≡ 0 → length archive ≡ shown_place archive n
    shown_none z = go (is_shown (used_of archive) n) refl
      where
        go : (t : Bool) → is_shown (used_of archive) n ≡ t → length archive ≡ shown_place archive n
        go true q =
            let w = shown_within (used_of archive) refl q in
            let l : length part ≡ 32 = ap (λ (x : List ℕ). length x) (by_shown true q) ∙ record_length archive n w.0 in
            absurd (omega arith)
        go false q = sym (place_by false q)

    pub shown_some : (length part ≡ 0 → ⊥) → (32 * n < 2 ^ 64) × (32 * n ≡ shown_place archive n)
    shown_some z = go (is_shown (used_of archive) n) refl
      where
        go : (t : Bool) → is_shown (used_of archive) n ≡ t → (32 * n < 2 ^ 64) × (32 * n ≡ shown_place archive n)
        go true q = let w = shown_within (used_of archive) refl q in (omega arith, sym (place_by true q))
        go false q = absurd (z (ap (λ (x : List ℕ). length x) (by_shown false q)))
