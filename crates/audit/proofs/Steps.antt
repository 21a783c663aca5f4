-- What each step of audit does to the answer and to the marks, each by itself, as search takes it: a link, a record, one record more, one mark
-- more. `Marks` has both at once.
use Rattle.std.proofs.Common.{◌≡◌, ℕ, zero, suc, ◌+◌, ◌-◌, ◌≤◌, ◌<◌, Bool, true, false, cond, ◌&&◌, List, [], ◌∷◌, ◌++◌, map, length, take, drop, get_or, eqb, refl, sym, ◌∙◌, ap, subst, arith, length-take}
use Rattle.std.proofs.lemmas.List.{get_or-take}
use Rattle.std.proofs.lemmas.Bool.Decides.{nat_tests}
use Rattle.std.proofs.lemmas.Grind.{get_or_after_one}
use mathlib.Core.Bool.{and-true, and-false}
use mathlib.Core.Logic.{inl, inr}
use native.Mathlib.Numerals.{add-one}
use borrow.Author.Tests.{ne_eqb, eqb-true, eqb-false}
use Rattle.rules.specs.Outcome.{refused, given, ◌>>◌}
use Rattle.rules.specs.Refusals.{wrong_kind}
use Rattle.rules.specs.Archive.{link_at, kind_of, record_at}
use Rattle.rules.specs.Links.{Link, link, is_kind, links_at, stands_at, link_places}
use Rattle.rules.specs.Audit.{link_checked, links_checked, record_checked, records_checked}
use Rattle.rules.proofs.AuditSteps.{unknown_checked, links_checked_lem}
use Rattle.rules.proofs.Sound.{fine}
use Rattle.rules.proofs.Places.{at_within}
use Rattle.record.specs.declared.Link as code
use Rattle.record.specs.Linked.{listed}
use Rattle.record.proofs.Linked.{here, past}
use Rattle.audit.specs.Marks.{marked, tally, marked_once}

-- ---- the marks of some links after others

module _ (archive : List ℕ) where
  pub tally_append : (marks ps qs : List ℕ) → tally archive marks (ps ++ qs) ≡ tally archive (tally archive marks ps) qs
  unfolding tally
  tally_append marks [] qs = refl
  tally_append marks (p ∷ ps) qs = tally_append (cond (eqb (link_at archive p) 0) marks (marked marks (link_at archive p))) ps qs

  -- ---- the links of a record

  -- what is left from link i on is all that is left to answer and to mark
  pub record LinksAhead (used n : ℕ) (ls : List Link) (start : List ℕ) (i : ℕ) (marks : List ℕ) : Type 0 where
    pub checks : links_checked archive used n ls ≡ links_checked archive used n (drop i ls)
    pub tallies : tally archive start (map (stands_at n) ls) ≡ tally archive marks (map (stands_at n) (drop i ls))

  module _ (n i : ℕ) (links : List code.Link) {ls : List Link} (e : listed links ≡ ls) where
    module _ (more : i < length links) where
      abbrev l : Link
      l = let x = get_or links i (0, 0) in link x.0 x.1

      module _ (used : ℕ) where
        pub link_passes : {done : Unit {0}} → given done ≡ link_checked archive used n l
            → links_checked archive used n (drop i ls) ≡ links_checked archive used n (drop (i + 1) ls)
        unfolding ◌>>◌
        link_passes c = let h = here links e i more in rw (h.from, ← c) refl

        pub links_stop : {k : ℕ} → refused k ≡ link_checked archive used n l → links_checked archive used n (drop i ls) ≡ refused k
        unfolding ◌>>◌
        links_stop c = let h = here links e i more in rw (h.from, ← c) refl

      pub link_marks : (marks later : List ℕ) → later ≡ tally archive marks (stands_at n l ∷ [])
          → tally archive marks (map (stands_at n) (drop i ls)) ≡ tally archive later (map (stands_at n) (drop (i + 1) ls))
      unfolding tally
      link_marks marks later m = let h = here links e i more in rw (h.from, m) refl

    module _ (none : length links ≤ i) where
      pub links_pass : (used : ℕ) → links_checked archive used n (drop i ls) ≡ fine
      links_pass used = let p = past links e i none in rw p.from refl

      pub links_marked : (marks : List ℕ) → tally archive marks (map (stands_at n) (drop i ls)) ≡ marks
      unfolding tally
      links_marked marks = let p = past links e i none in rw p.from refl

  pub link_room : (n i : ℕ) (links : List code.Link) → listed links ≡ links_at archive n → i < length links → (get_or links i (0, 0)).0 + 4 ≤ 32
  link_room n i links e more =
      let h = here links e i more in
      let w = at_within archive n _ h.has in
      w.1

  -- ---- a record

  module _ (used n : ℕ) where
    pub unknown_done : 1 ≤ n → is_kind (kind_of (record_at archive n)) ≡ false → record_checked archive used n ≡ refused wrong_kind
    unknown_done some k = unknown_checked archive used n (λ z. omega arith) k

    pub record_done : is_kind (kind_of (record_at archive n)) ≡ true → record_checked archive used n ≡ links_checked archive used n (links_at archive n)
    record_done k = links_checked_lem archive used n (inr k)

  -- ---- all records

  module _ (used : ℕ) where
    -- the head, which has no kind, comes first
    pub head_passes : fine ≡ links_checked archive used 0 (links_at archive 0) → fine ≡ records_checked archive used 1
    unfolding ◌>>◌
    head_passes c = c ∙ sym (links_checked_lem archive used 0 (inl refl))

    module _ (n : ℕ) (before : fine ≡ records_checked archive used n) where
      pub records_more : fine ≡ record_checked archive used n → fine ≡ records_checked archive used (n + 1)
      unfolding ◌>>◌
      records_more here = rw (add-one n, ← before, ← here) refl

      -- a refused record refuses all
      pub records_stop : {k : ℕ} → refused k ≡ record_checked archive used n → (m : ℕ) → n < m → records_checked archive used m ≡ refused k
      unfolding ◌>>◌
      records_stop here zero h = absurd (omega arith)
      records_stop {k} here (suc m) h = go (eqb n m) refl (records_stop here m)
        where
          go : (t : Bool) → eqb n m ≡ t → (n < m → records_checked archive used m ≡ refused k) → records_checked archive used (suc m) ≡ refused k
          go true i f = subst (λ (j : ℕ). records_checked archive used (suc j) ≡ refused k) (eqb-true n m i) (rw (← before, ← here) refl)
          go false i f = rw (f (omega (arith, eqb-false n m i))) refl

    pub head_stops : {k : ℕ} → refused k ≡ links_checked archive used 0 (links_at archive 0) → (m : ℕ) → 0 < m → records_checked archive used m ≡ refused k
    head_stops c m h = records_stop 0 refl (c ∙ sym (links_checked_lem archive used 0 (inl refl))) m h

  pub head_marked : (marks later : List ℕ) → later ≡ tally archive marks (map (stands_at 0) (links_at archive 0)) → later ≡ tally archive marks (link_places archive 1)
  unfolding link_places
  head_marked marks later m = m

  pub records_marked : (n : ℕ) (start marks later : List ℕ) → marks ≡ tally archive start (link_places archive n)
      → later ≡ tally archive marks (map (stands_at n) (links_at archive n)) → later ≡ tally archive start (link_places archive (n + 1))
  unfolding link_places
  records_marked n start marks later a b = rw (add-one n) (b ∙ ap (λ (l : List ℕ). tally archive l (map (stands_at n) (links_at archive n))) a ∙ sym (tally_append start (link_places archive n) (map (stands_at n) (links_at archive n))))

pub ruleset kinds = (unknown_done, record_done)

pub ruleset links = (link_passes, links_stop, links_pass, links_marked, link_room)

pub ruleset records = (head_passes, head_stops, head_marked, records_more, records_stop, records_marked)

-- ---- the pass over the marks

pub once_none : (marks : List ℕ) → marked_once marks 1 ≡ true
unfolding marked_once
once_none marks = refl

-- mark k of those behind the head's
pub mark_behind : (marks : List ℕ) (used k : ℕ) → k < used - 1 → get_or (take (used - 1) (drop 1 marks)) k 0 ≡ get_or marks (1 + k) 0
mark_behind marks used k h = get_or-take (used - 1) (drop 1 marks) k 0 h ∙ get_or_after_one marks k 0

module _ (marks : List ℕ) (used k : ℕ) (here : k < length (take (used - 1) (drop 1 marks))) where
  more : marked_once marks (1 + (k + 1)) ≡ (marked_once marks (1 + k) && eqb (get_or (take (used - 1) (drop 1 marks)) k 0) 1)
  unfolding marked_once
  more =
      let l = length-take (used - 1) (drop 1 marks) in
      let one : 1 + k ≡ suc k = omega arith in
      let two : 1 + (k + 1) ≡ suc (suc k) = omega arith in
      rw (mark_behind marks used k (omega (arith, l, here)), two, one, ne_eqb (suc k) 0 (λ z. omega (arith, z))) refl

  pub once_more : get_or (take (used - 1) (drop 1 marks)) k 0 ≡ 1 → marked_once marks (1 + (k + 1)) ≡ marked_once marks (1 + k)
  once_more e = more ∙ rw e (and-true (marked_once marks (1 + k)))

  pub once_stop : (get_or (take (used - 1) (drop 1 marks)) k 0 ≡ 1 → ⊥) → marked_once marks (1 + (k + 1)) ≡ false
  once_stop f = more ∙ rw (ne_eqb (get_or (take (used - 1) (drop 1 marks)) k 0) 1 f) (and-false (marked_once marks (1 + k)))

pub ruleset pass = (once_none, once_more, once_stop, nat_tests)
