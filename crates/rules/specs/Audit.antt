-- Audit (01, 'Calls on the archive' and 'Refused sheets'): 1; the head's link; each record by number, kind, then links in byte order; then 17.
use Rattle.std.specs.Prelude.{ℕ, zero, suc, ◌≡◌, Bool, true, cond, ◌&&◌, ◌||◌, List, [], ◌∷◌, eqb, length}
use Rattle.rules.specs.Outcome.{Outcome, given, ◌>>=◌, ◌>>◌, require}
use Rattle.rules.specs.Refusals.{wrong_kind, not_named_once}
use Rattle.rules.specs.Archive.{link_at, kind_of, record_at, used_of, follow}
use Rattle.rules.specs.Links.{Link, is_kind, links_at, stands_at, namers}

module _ (archive : List ℕ) (used : ℕ) where
  -- a link of record n is zero or can be followed: 2, then 3
  unfoldable pub link_checked : ℕ → Link → Outcome (Unit {0})
  link_checked n l =
      cond (eqb (link_at archive (stands_at n l)) 0) (given tt) (follow archive used l.to n (link_at archive (stands_at n l)) >> given tt)

  abbrev pub links_checked : ℕ → List Link → Outcome (Unit {0})
  links_checked n [] = given tt
  links_checked n (l ∷ ls) = link_checked n l >> links_checked n ls

  -- the kind of every record but the head, then its links in byte order
  unfoldable pub record_checked : ℕ → Outcome (Unit {0})
  record_checked n = do
    require (eqb n 0 || is_kind (kind_of (record_at archive n))) wrong_kind
    links_checked n (links_at archive n)

  -- the first so many records, by number
  abbrev pub records_checked : ℕ → Outcome (Unit {0})
  records_checked zero = given tt
  records_checked (suc n) = records_checked n >> record_checked n

  -- each of the first so many records but the head is named by precisely one link
  abbrev pub named_once : ℕ → Bool
  named_once zero = true
  named_once (suc n) = named_once n && (eqb n 0 || eqb (length (namers archive used n)) 1)

unfoldable pub audit : List ℕ → Outcome (Unit {0})
audit archive = do
  used ← used_of archive
  records_checked archive used used
  require (named_once archive used used) not_named_once

abbrev pub Sound : List ℕ → Type 0
Sound archive = audit archive ≡ given tt
