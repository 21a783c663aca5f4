-- The links of a record, over plain variables.
use Rattle.std.proofs.Common.{◌≡◌, ℕ, Bool, true, false, List, [], ◌∷◌, cond, length, drop, eqb, refl, sym, ◌∙◌, ap, arith}
use Rattle.std.proofs.lemmas.List.{take_all}
use borrow.Author.Tests.{ne_eqb}
use Rattle.rules.specs.Archive.{kind_of, measure_kind, before_kind, quarter_kind}
use Rattle.rules.specs.Links.{Link, link, is_kind, owned_by, links_of}
use Rattle.record.specs.declared.Link as code
use Rattle.record.specs.Linked.{listed}

-- but the one to the next record of its chain, by the record's kind
module _ (r : List ℕ) (k : ℕ) (e : kind_of r ≡ k) where
  pub owned_kind : cond (eqb k 1) (link 8 2 ∷ link 12 3 ∷ []) (cond (eqb k 3) (link 8 4 ∷ link 12 5 ∷ []) []) ≡ owned_by r
  unfolding owned_by
  owned_kind = rw e refl

  pub owned_none : (k ≡ 1 → ⊥) → (k ≡ 3 → ⊥) → [] ≡ owned_by r
  owned_none plant measure = rw (ne_eqb k 1 plant, ne_eqb k 3 measure) at owned_kind

pub owned_measure : (r : List ℕ) → kind_of r ≡ measure_kind → owned_by r ≡ link 8 before_kind ∷ link 12 quarter_kind ∷ []
owned_measure r e = sym (owned_kind r measure_kind e)

-- these are what stands behind the first of all, if there is one
module _ (r : List ℕ) where
  owned_behind : (l : Link) (rest : List Link) → l ∷ rest ≡ links_of r → rest ≡ owned_by r
  unfolding links_of
  owned_behind l rest = go (is_kind (kind_of r))
    where
      go : (known : Bool) → l ∷ rest ≡ cond known (link 4 (kind_of r) ∷ owned_by r) [] → rest ≡ owned_by r
      go true e = cc
      go false e = cc

  owned_unlinked : [] ≡ links_of r → [] ≡ owned_by r
  unfolding links_of
  owned_unlinked = go (is_kind (kind_of r)) refl
    where
      other : (k : ℕ) → is_kind k ≡ true → is_kind (kind_of r) ≡ false → kind_of r ≡ k → ⊥
      other k known unknown e = let z : true ≡ false = sym known ∙ ap is_kind (sym e) ∙ unknown in cc

      go : (known : Bool) → is_kind (kind_of r) ≡ known → [] ≡ cond known (link 4 (kind_of r) ∷ owned_by r) [] → [] ≡ owned_by r
      go true i e = cc
      go false i e = owned_none r (kind_of r) refl (other 1 refl i) (other 3 refl i)

  module _ (links : List code.Link) where
    pub owned_rest : listed links ≡ links_of r → (length links ≡ 0 → ⊥) → listed (drop 1 links) ≡ owned_by r
    owned_rest = go links
      where
        go : (links : List code.Link) → listed links ≡ links_of r → (length links ≡ 0 → ⊥) → listed (drop 1 links) ≡ owned_by r
        go [] e some = absurd (some refl)
        go (l ∷ rest) e some = owned_behind (link l.0 l.1) (listed rest) e

    pub owned_empty : listed links ≡ links_of r → length links ≡ 0 → listed links ≡ owned_by r
    owned_empty = go links
      where
        go : (links : List code.Link) → listed links ≡ links_of r → length links ≡ 0 → listed links ≡ owned_by r
        go [] e none = owned_unlinked e
        go (l ∷ rest) e none = absurd (omega (arith, none))

pub ruleset owned = (owned_measure, owned_empty, owned_rest, take_all)
