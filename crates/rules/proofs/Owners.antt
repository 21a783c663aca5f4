-- The links that a record has by its kind, the test of a new record and the owner's link to it.
use mathlib.Core.Path.{◌≡◌, refl, ◌∙◌}
use mathlib.Core.Bool.{Bool, true, false, cond, not}
use mathlib.Core.List.{List, [], ◌∷◌}
use Prim.Native.Nat.{ℕ, ◌≤◌, ◌<◌}
use lib.Dec.{eqb}
use lib.ListN.{length}
use borrow.Author.Tests.{eq-eqb, ne_eqb, lt-ltb, le-ltb, eqb-true}
use Rattle.rules.specs.Outcome.{refused, ◌>>◌, require}
use Rattle.rules.specs.Refusals.{bad_owner}
use Rattle.rules.specs.Numbers.{all, keep}
use Rattle.rules.specs.Archive.{link_at, kind_of, record_at, plant_kind, point_kind, measure_kind, before_kind, quarter_kind}
use Rattle.rules.specs.Links.{Link, link, is_kind, head_links, owned_by, links_of, owned_at, links_at}
use Rattle.rules.specs.Filing.{new_allowed, offset_in, offset_for}

-- ---- links by kind

module _ (r : List ℕ) where
  pub unknown_links : is_kind (kind_of r) ≡ false → links_of r ≡ []
  unfolding links_of
  unknown_links k = rw k

  module _ (known : is_kind (kind_of r) ≡ true) where
    pub known_links : links_of r ≡ link 4 (kind_of r) ∷ owned_by r
    unfolding links_of
    known_links = rw known

    pub plant_links : kind_of r ≡ plant_kind → links_of r ≡ link 4 (kind_of r) ∷ link 8 point_kind ∷ link 12 measure_kind ∷ []
    unfolding owned_by
    plant_links e = known_links ∙ rw e

    pub measure_links : kind_of r ≡ measure_kind → links_of r ≡ link 4 (kind_of r) ∷ link 8 before_kind ∷ link 12 quarter_kind ∷ []
    unfolding owned_by
    measure_links e = known_links ∙ rw e

    pub other_links : (kind_of r ≡ plant_kind → ⊥) → (kind_of r ≡ measure_kind → ⊥) → links_of r ≡ link 4 (kind_of r) ∷ []
    unfolding owned_by
    other_links p m = known_links ∙ rw (ne_eqb (kind_of r) plant_kind p, ne_eqb (kind_of r) measure_kind m)

pub head_links_lem : (archive : List ℕ) (n : ℕ) → n ≡ 0 → links_at archive n ≡ head_links
unfolding links_at
head_links_lem archive n z = rw z

-- ---- owned links

-- not the link at byte 4, which leads on along the record's own chain
abbrev pub is_owned : Link → Bool
is_owned l = not (eqb l.at 4)

owned_of : (r : List ℕ) → keep is_owned (links_of r) ≡ owned_by r
unfolding links_of owned_by
owned_of r = go (eqb (kind_of r) plant_kind) refl (eqb (kind_of r) measure_kind) refl
  where
    go : (t : Bool) → eqb (kind_of r) plant_kind ≡ t → (u : Bool) → eqb (kind_of r) measure_kind ≡ u
        → keep is_owned (cond (is_kind (kind_of r)) (link 4 (kind_of r) ∷ owned_by r) []) ≡ owned_by r
    go true e u f = rw (eqb-true (kind_of r) plant_kind e)
    go false e true f = rw (eqb-true (kind_of r) measure_kind f)
    go false e false f = rw (e, f) (none (is_kind (kind_of r)))
      where
        none : (k : Bool) → keep is_owned (cond k (link 4 (kind_of r) ∷ []) []) ≡ []
        none true = refl
        none false = refl

pub owned_are : (archive : List ℕ) (n : ℕ) → keep is_owned (links_at archive n) ≡ owned_at archive n
unfolding links_at owned_at
owned_are archive n = go (eqb n 0)
  where
    go : (t : Bool) → keep is_owned (cond t head_links (links_of (record_at archive n))) ≡ cond t head_links (owned_by (record_at archive n))
    go true = refl
    go false = owned_of (record_at archive n)

-- ---- the new record

module _ (new : List ℕ) where
  pub new_size : (length new ≡ 32 → ⊥) → new_allowed new ≡ false
  new_size h = rw (ne_eqb (length new) 32 h)

  module _ (size : length new ≡ 32) where
    pub new_unknown : is_kind (kind_of new) ≡ false → new_allowed new ≡ false
    new_unknown k = rw (eq-eqb (length new) 32 size, k)

    -- then each of its links decides
    pub new_links : is_kind (kind_of new) ≡ true → new_allowed new ≡ all (λ l. eqb (link_at new l.at) 0) (links_of new)
    new_links known = rw (eq-eqb (length new) 32 size, known)

-- ---- the owner's link

module _ (archive : List ℕ) (used owner kind : ℕ) where
  pub offset_unused : used ≤ owner → offset_for archive used owner kind ≡ refused bad_owner
  unfolding offset_for ◌>>◌ require
  offset_unused h = rw (le-ltb owner used h)

  pub offset_among : owner < used → offset_for archive used owner kind ≡ offset_in (keep is_owned (links_at archive owner)) kind
  unfolding offset_for ◌>>◌ require
  offset_among h = rw (lt-ltb owner used h, owned_are archive owner)
