-- The tests 14 and 15 of append, link by link, over plain variables.
use Rattle.std.proofs.Common.{◌≡◌, ℕ, ◌+◌, ◌<◌, true, false, List, eqb, drop, refl, ◌∙◌}
use borrow.Author.Tests.{eq-eqb, ne_eqb, lt-ltb}
use Rattle.rules.specs.Outcome.{refused, given, ◌>>◌, require}
use Rattle.rules.specs.Refusals.{bad_owner}
use Rattle.rules.specs.Numbers.{all}
use Rattle.rules.specs.Archive.{link_at}
use Rattle.rules.specs.Links.{links_of, owned_at}
use Rattle.rules.specs.Filing.{new_allowed, offset_in, offset_for}
use Rattle.record.proofs.Linked.{Here, Past}

-- 14: the links from i on decide
pub record NewFrom (new : List ℕ) (i : ℕ) : Type 0 where
  pub is : new_allowed new ≡ all (λ l. eqb (link_at new l.at) 0) (drop i (links_of new))

module _ {new : List ℕ} {i : ℕ} (n : NewFrom new i) where
  pub new_none : Past (links_of new) i → new_allowed new ≡ true
  new_none p = n.is ∙ rw p.from

  module _ {at to : ℕ} (h : Here (links_of new) i at to) where
    pub new_linked : (link_at new at ≡ 0 → ⊥) → new_allowed new ≡ false
    new_linked f = n.is ∙ rw (h.from, ne_eqb (link_at new at) 0 f)

    pub new_on : link_at new at ≡ 0 → NewFrom new (i + 1)
    new_on z = record { is = n.is ∙ rw (h.from, eq-eqb (link_at new at) 0 z) }

-- 15: the owned links from i on decide
pub record OffsetFrom (archive : List ℕ) (used owner kind i : ℕ) : Type 0 where
  pub is : offset_for archive used owner kind ≡ offset_in (drop i (owned_at archive owner)) kind

pub offset_all : (archive : List ℕ) (used owner kind : ℕ) → owner < used → OffsetFrom archive used owner kind 0
unfolding offset_for ◌>>◌ require
offset_all archive used owner kind h = record { is = rw (lt-ltb owner used h) refl }

module _ {archive : List ℕ} {used owner kind i : ℕ} (o : OffsetFrom archive used owner kind i) where
  pub offset_none : Past (owned_at archive owner) i → offset_for archive used owner kind ≡ refused bad_owner
  offset_none p = o.is ∙ rw p.from

  module _ {at to : ℕ} (h : Here (owned_at archive owner) i at to) where
    pub offset_is : to ≡ kind → offset_for archive used owner kind ≡ given at
    offset_is e = o.is ∙ rw (h.from, eq-eqb to kind e)

    pub offset_other : (to ≡ kind → ⊥) → OffsetFrom archive used owner kind (i + 1)
    offset_other f = record { is = o.is ∙ rw (h.from, ne_eqb to kind f) }
