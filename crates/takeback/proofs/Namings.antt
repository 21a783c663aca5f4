-- The links that name a record, met link by link and record by record, over plain variables.
use Rattle.std.proofs.Common.{◌≡◌, ℕ, zero, suc, ◌+◌, ◌*◌, ◌-◌, ◌<◌, true, false, ◌||◌, List, [], ◌∷◌, ◌++◌, map, eqb, drop, Option, None, Some, is_some, Ok, Err, refl, sym, ◌∙◌, ap, arith}
use mathlib.Core.List.{append-nil, append_assoc}
use native.Mathlib.Numerals.{add-one}
use borrow.Author.Tests.{eq-eqb, ne_eqb}
use Rattle.rules.specs.Outcome.{refused}
use Rattle.rules.specs.Refusals.{last_not_named_once}
use Rattle.rules.specs.Archive.{link_at, record_at}
use Rattle.rules.specs.Links.{links_at, stands_at, link_places, namers}
use Rattle.rules.specs.TakeBack.{only_place}
use Rattle.rules.specs.declared.refusal.Refusal.{Refusal}
use Rattle.rules.specs.declared.refusal.Refusal.TheVariants.{LastNotNamedOnce}
use Rattle.rules.proofs.Bytes.{link_of}
use Rattle.rules.proofs.Lists.{keep_none, keep_append, of_map}
use Rattle.rules.proofs.Places.{Starts, next, first, second, at_within, at_start, neither}
use Rattle.record.proofs.Linked.{Here, Past}
use Rattle.takeback.specs.Namings.{holds_number, namers_among, namers_in, met_at, naming_of}

-- ---- a record's bytes

-- a record that doesn't hold a number has no link that names it
none_held : (archive : List ℕ) (n named : ℕ) → holds_number (record_at archive n) named ≡ false → namers_in archive n named ≡ []
unfolding namers_in namers_among holds_number
none_held archive n named h =
    keep_none (λ p. eqb (link_at archive p) named) (map (stands_at n) (links_at archive n))
    (λ q m. let w = of_map (stands_at n) (links_at archive n) m in
    let i = at_within archive n w.0 w.1 in
    ap (λ (p : ℕ). eqb (link_at archive p) named) w.2 ∙ ap (λ (v : ℕ). eqb v named) (sym (link_of archive n w.0.at i.1)) ∙ other w.0.at (at_start archive n w.0 w.1))
  where
    a : eqb (link_at (record_at archive n) 4) named ≡ false
    a = (neither (eqb (link_at (record_at archive n) 4) named) _ h).0

    rest : (eqb (link_at (record_at archive n) 8) named || eqb (link_at (record_at archive n) 12) named) ≡ false
    rest = (neither (eqb (link_at (record_at archive n) 4) named) _ h).1

    other : (at : ℕ) → Starts at → eqb (link_at (record_at archive n) at) named ≡ false
    other at (next e) = rw e a
    other at (first e) = rw e (neither (eqb (link_at (record_at archive n) 8) named) _ rest).0
    other at (second e) = rw e (neither (eqb (link_at (record_at archive n) 8) named) _ rest).1

-- ---- a record's links

met_naming : (met : Option ℕ) → Ok met ≡ naming_of (met_at met)
met_naming None = refl
met_naming (Some place) = refl

-- those from i on are still to be read
pub record Read (archive : List ℕ) (n named : ℕ) (met : Option ℕ) (i : ℕ) (place : Option ℕ) : Type 0 where
  pub is : met_at met ++ namers_in archive n named ≡ met_at place ++ namers_among archive n named (drop i (links_at archive n))

pub read_none : (archive : List ℕ) (n named : ℕ) (met : Option ℕ) → Read archive n named met 0 met
unfolding namers_in
read_none archive n named met = record { is = refl }

module _ {archive : List ℕ} {n named : ℕ} {met : Option ℕ} {i : ℕ} {place : Option ℕ} (r : Read archive n named met i place) where
  pub read_all : Past (links_at archive n) i → Ok place ≡ naming_of (met_at met ++ namers_in archive n named)
  unfolding namers_among
  read_all p = met_naming place ∙ ap naming_of (sym (r.is ∙ rw p.from (append-nil (met_at place))))

  module _ {at to value : ℕ} (h : Here (links_at archive n) i at to) (read : value ≡ link_at (record_at archive n) at) where
    stands : link_at archive (32 * n + at) ≡ value
    stands = let w = at_within archive n _ h.has in sym (read ∙ link_of archive n at w.1)

    named_here : value ≡ named → met_at met ++ namers_in archive n named ≡ met_at place ++ (32 * n + at) ∷ namers_among archive n named (drop (i + 1) (links_at archive n))
    unfolding namers_among
    named_here names = r.is ∙ rw (h.from, eq-eqb (link_at archive (32 * n + at)) named (stands ∙ names)) refl

    pub read_second : value ≡ named → is_some place ≡ true → Err LastNotNamedOnce ≡ naming_of (met_at met ++ namers_in archive n named)
    read_second names some = go place some _ _ ∙ ap naming_of (sym (named_here names))
      where
        go : (place : Option ℕ) → is_some place ≡ true → (p : ℕ) (rest : List ℕ) → Err LastNotNamedOnce ≡ naming_of (met_at place ++ p ∷ rest)
        go None e p rest = cc
        go (Some q) e p rest = refl

    -- the first that names it
    pub read_first : value ≡ named → is_some place ≡ false → Read archive n named met (i + 1) (Some (32 * n + at))
    read_first names none = record { is = named_here names ∙ go place none }
      where
        go : (place : Option ℕ) → is_some place ≡ false → {ps : List ℕ} → met_at place ++ ps ≡ ps
        go None e = refl
        go (Some p) e = cc

    pub read_other : (value ≡ named → ⊥) → Read archive n named met (i + 1) place
    unfolding namers_among
    read_other other = record { is = r.is ∙ rw (h.from, ne_eqb (link_at archive (32 * n + at)) named (λ e. other (sym stands ∙ e))) refl }

-- ---- records

namers_next : (archive : List ℕ) (n named : ℕ) → namers archive (n + 1) named ≡ namers archive n named ++ namers_in archive n named
unfolding namers link_places namers_in namers_among
namers_next archive n named = rw add-one (keep_append (λ place. eqb (link_at archive place) named) (link_places archive n) (map (stands_at n) (links_at archive n)))

-- those of the first so many records stand in front
namers_front : (archive : List ℕ) (n more named : ℕ) → (rest : List ℕ) × (namers archive (n + more) named ≡ namers archive n named ++ rest)
namers_front archive n zero named = let e : n + 0 ≡ n = omega arith in ([], ap (λ (k : ℕ). namers archive k named) e ∙ sym (append-nil (namers archive n named)))
namers_front archive n (suc more) named =
    let w = namers_front archive n more named in
    let e : n + suc more ≡ n + more + 1 = omega arith in (
      w.0 ++ namers_in archive (n + more) named,
      ap (λ (k : ℕ). namers archive k named) e ∙ namers_next archive (n + more) named
          ∙ ap (λ (l : List ℕ). l ++ namers_in archive (n + more) named) w.1
          ∙ append_assoc (namers archive n named) w.0 (namers_in archive (n + more) named),
    )

-- the links of the first n records that name it are none, or the one at a place
pub record Met (archive : List ℕ) (named n : ℕ) (met : Option ℕ) : Type 0 where
  pub is : met_at met ≡ namers archive n named

pub met_none : (archive : List ℕ) (named : ℕ) → Met archive named 0 None
unfolding namers link_places
met_none archive named = record { is = refl }

module _ {archive : List ℕ} {named n : ℕ} {met : Option ℕ} (m : Met archive named n met) where
  one_more : met_at met ++ namers_in archive n named ≡ namers archive (n + 1) named
  one_more = ap (λ (l : List ℕ). l ++ namers_in archive n named) m.is ∙ sym (namers_next archive n named)

  -- record n holds the number, and its links are read
  pub met_next : {later : Option ℕ} → Ok later ≡ naming_of (met_at met ++ namers_in archive n named) → Met archive named (n + 1) later
  met_next {later} e = record { is = go (namers archive (n + 1) named) (e ∙ ap naming_of one_more) }
    where
      go : (l : List ℕ) → Ok later ≡ naming_of l → met_at later ≡ l
      go [] g = let z : later ≡ None = cc in ap met_at z
      go (p ∷ []) g = let z : later ≡ Some p = cc in ap met_at z
      go (p ∷ (q ∷ l)) g = cc

  -- or it doesn't
  pub met_same : holds_number (record_at archive n) named ≡ false → Met archive named (n + 1) met
  met_same other = record { is = m.is ∙ sym (namers_next archive n named ∙ rw (none_held archive n named other) (append-nil (namers archive n named))) }

  pub met_second : {e : Refusal} (used : ℕ) → n < used → Err e ≡ naming_of (met_at met ++ namers_in archive n named)
      → (e ≡ LastNotNamedOnce) × (refused last_not_named_once ≡ only_place (namers archive used named))
  met_second {e} used below says = go (namers archive (n + 1) named) refl (says ∙ ap naming_of one_more)
    where
      rest : List ℕ
      rest = (namers_front archive (n + 1) (used - (n + 1)) named).0

      all : namers archive used named ≡ namers archive (n + 1) named ++ rest
      all =
          let e : used ≡ n + 1 + (used - (n + 1)) = omega arith in
          ap (λ (k : ℕ). namers archive k named) e ∙ (namers_front archive (n + 1) (used - (n + 1)) named).1

      go : (l : List ℕ) → namers archive (n + 1) named ≡ l → Err e ≡ naming_of l → (e ≡ LastNotNamedOnce) × (refused last_not_named_once ≡ only_place (namers archive used named))
      go [] f g = cc
      go (p ∷ []) f g = cc
      go (p ∷ (q ∷ l)) f g = (cc, rw (all, f) refl)
