-- Taking back, one test after another: what each test that fails makes of it, and what both that pass make of it.
use mathlib.Core.Path.{◌≡◌, refl, sym, subst}
use mathlib.Core.List.{List, [], ◌∷◌, Memᴰ}
use Prim.Native.Nat.{ℕ, ◌+◌, ◌*◌, ◌-◌, ◌≤◌, ◌<◌}
use native.Mathlib.Omega.{arith}
use lib.Dec.{eqb}
use borrow.Author.Tests.{lt-ltb, le-ltb}
use Rattle.rules.specs.Outcome.{refused, given, ◌>>=◌, ◌>>◌, require}
use Rattle.rules.specs.Refusals.{last_not_named_once}
use Rattle.rules.specs.Archive.{link_at, used_of}
use Rattle.rules.specs.Links.{link_places, namers}
use Rattle.rules.specs.TakeBack.{only_place, taken_back, take_back}
use Rattle.rules.proofs.Inversion.{given_inj}
use Rattle.rules.proofs.Lists.{of_keep, apart_within}
use Rattle.rules.proofs.Places.{places_apart}

-- the one link lies in a used record
pub only_in_used : (archive : List ℕ) (used n place : ℕ) → only_place (namers archive used n) ≡ given place → place + 4 ≤ 32 * used
unfolding namers
only_in_used archive used n place e = go (namers archive used n) refl e
  where
    inside : (p : ℕ) → namers archive used n ≡ p ∷ [] → Memᴰ p (link_places archive used)
    inside p f = (of_keep (λ q. eqb (link_at archive q) n) (link_places archive used) p (subst (λ (l : List ℕ). Memᴰ p l) (sym f) (Memᴰ.head refl))).0

    go : (l : List ℕ) → namers archive used n ≡ l → only_place l ≡ given place → place + 4 ≤ 32 * used
    go [] f e = let z : ◌≡◌ {A = ℕ} 0 1 = cc in absurd (omega arith)
    go (p ∷ []) f e = omega (arith, given_inj e, apart_within (32 * used) 0 p (link_places archive used) (places_apart archive used) (inside p f))
    go (p ∷ (q ∷ l)) f e = let z : ◌≡◌ {A = ℕ} 0 1 = cc in absurd (omega arith)

module _ (archive : List ℕ) where
  pub take_back_no_head : (n : ℕ) → used_of archive ≡ refused n → take_back archive ≡ refused n
  unfolding take_back ◌>>=◌
  take_back_no_head n u = rw u

  module _ (used : ℕ) (u : used_of archive ≡ given used) where
    pub take_back_head_alone : used ≤ 1 → take_back archive ≡ refused last_not_named_once
    unfolding take_back ◌>>=◌ ◌>>◌ require
    take_back_head_alone h = rw (u, le-ltb 1 used h)

    module _ (more : 1 < used) where
      pub take_back_not_once : (n : ℕ) → only_place (namers archive used (used - 1)) ≡ refused n → take_back archive ≡ refused n
      unfolding take_back ◌>>=◌ ◌>>◌ require
      take_back_not_once n e = rw (u, lt-ltb 1 used more, e)

      pub take_back_once : (place : ℕ) → only_place (namers archive used (used - 1)) ≡ given place → take_back archive ≡ given (taken_back archive used place)
      unfolding take_back ◌>>=◌ ◌>>◌ require
      take_back_once place e = rw (u, lt-ltb 1 used more, e)
