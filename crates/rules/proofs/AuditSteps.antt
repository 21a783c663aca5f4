-- Audit, one test after another: links, records, and the whole.
use mathlib.Core.Path.{◌≡◌}
use mathlib.Core.Bool.{Bool, true, false, ◌&&◌, or-true}
use mathlib.Core.List.{List}
use mathlib.Core.Logic.{◌⊎◌, inl, inr}
use Prim.Native.Nat.{ℕ, suc}
use native.Mathlib.Omega.{arith}
use lib.Dec.{eqb, ltb}
use borrow.Author.Tests.{eq-eqb, ne_eqb}
use Rattle.rules.specs.Outcome.{Outcome, refused, given, ◌>>=◌, ◌>>◌, require}
use Rattle.rules.specs.Refusals.{wrong_kind, not_named_once}
use Rattle.rules.specs.Archive.{link_at, kind_of, record_at, used_of, Entry, follow}
use Rattle.rules.specs.Links.{Link, is_kind, links_at, stands_at}
use Rattle.rules.specs.Audit.{link_checked, links_checked, record_checked, records_checked, named_once, audit}

-- ---- links

-- a link that isn't followed is refused with a number that isn't 0
pub follow_number : (archive : List ℕ) (used kind holder l n : ℕ) → follow archive used kind holder l ≡ refused n → n ≡ 0 → ⊥
unfolding follow ◌>>◌ require
follow_number archive used kind holder l n = go (ltb holder l && ltb l used) (eqb (kind_of (record_at archive l)) kind)
  where
    met : Outcome Entry
    met = given (record { number = l; bytes = record_at archive l })

    number : (m : ℕ) → ◌≡◌ {A = Outcome Entry} (refused (suc m)) (refused n) → n ≡ 0 → ⊥
    number m e z = let i : suc m ≡ n = cc in omega arith

    go : (t u : Bool) → (require t 2 >> (require u 3 >> met)) ≡ refused n → n ≡ 0 → ⊥
    go true true e z = let y : ◌≡◌ {A = ℕ} 0 1 = cc in omega arith
    go true false e z = number 2 e z
    go false u e z = number 1 e z

module _ (archive : List ℕ) (used n : ℕ) (l : Link) where
  pub link_zero : link_at archive (stands_at n l) ≡ 0 → link_checked archive used n l ≡ given tt
  unfolding link_checked
  link_zero z = rw (eq-eqb (link_at archive (stands_at n l)) 0 z)

  pub link_stops : (k : ℕ) → (link_at archive (stands_at n l) ≡ 0 → ⊥) → follow archive used l.to n (link_at archive (stands_at n l)) ≡ refused k
      → link_checked archive used n l ≡ refused k
  unfolding link_checked ◌>>◌
  link_stops k z f = rw (ne_eqb (link_at archive (stands_at n l)) 0 z, f)

  pub link_leads : (e : Entry) → (link_at archive (stands_at n l) ≡ 0 → ⊥) → follow archive used l.to n (link_at archive (stands_at n l)) ≡ given e
      → link_checked archive used n l ≡ given tt
  unfolding link_checked ◌>>◌
  link_leads e z f = rw (ne_eqb (link_at archive (stands_at n l)) 0 z, f)

-- ---- records

module _ (archive : List ℕ) (used n : ℕ) where
  pub unknown_checked : (n ≡ 0 → ⊥) → is_kind (kind_of (record_at archive n)) ≡ false → record_checked archive used n ≡ refused wrong_kind
  unfolding record_checked ◌>>◌ require
  unknown_checked some k = rw (ne_eqb n 0 some, k)

  -- the links of the head, which has no kind, and of a record of a known kind
  pub links_checked_lem : (n ≡ 0) ⊎ (is_kind (kind_of (record_at archive n)) ≡ true) → record_checked archive used n ≡ links_checked archive used n (links_at archive n)
  unfolding record_checked ◌>>◌ require
  links_checked_lem (inl z) = rw z
  links_checked_lem (inr k) = rw (k, or-true (eqb n 0))

-- ---- the whole

module _ (archive : List ℕ) where
  pub audit_no_head : (n : ℕ) → used_of archive ≡ refused n → audit archive ≡ refused n
  unfolding audit ◌>>=◌
  audit_no_head n u = rw u

  module _ (used : ℕ) (u : used_of archive ≡ given used) where
    pub audit_stops : (n : ℕ) → records_checked archive used used ≡ refused n → audit archive ≡ refused n
    unfolding audit ◌>>=◌ ◌>>◌
    audit_stops n e = rw (u, e)

    pub audit_ends : records_checked archive used used ≡ given tt → audit archive ≡ require (named_once archive used used) not_named_once
    unfolding audit ◌>>=◌ ◌>>◌
    audit_ends e = rw (u, e)
