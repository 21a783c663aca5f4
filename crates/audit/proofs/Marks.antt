-- What each check of audit answers and the marks that it leaves, over plain variables: checks one after another, links, records, and the table
-- of marks.
use Rattle.std.proofs.Common.{◌≡◌, ℕ, zero, suc, ◌+◌, ◌*◌, ◌-◌, ◌≤◌, ◌<◌, Bool, true, false, cond, ◌&&◌, ◌||◌, List, [], ◌∷◌, ◌++◌, length, take, drop, get_or, set, eqb, MatchBool, Result, Ok, Err, refl, sym, ◌∙◌, ap, subst, arith, length-take, length-drop}
use Rattle.std.specs.List.{AllWithin, HoldsAt}
use mathlib.Core.Bool.{and-false, or-true}
use mathlib.Core.Logic.{◌⊎◌, inl, inr}
use lib.ListN.{length-set, length-replicate, get_or-replicate}
use lib.Seq.{get_or-set_same, get_or-set_other, set-get_or}
use borrow.Author.Tests.{eq-eqb, ne_eqb, eqb-true, eqb-false, lt-ltb, le-ltb}
use Rattle.rules.specs.Outcome.{Outcome, refused, ◌>>◌}
use Rattle.rules.specs.Results.{number}
use Rattle.rules.specs.Numbers.{keep}
use Rattle.rules.specs.Archive.{link_at, kind_of, record_at, follow}
use Rattle.rules.specs.Links.{Link, link, is_kind, links_at, owned_at, link_places, namers}
use Rattle.rules.specs.Audit.{link_checked, named_once}
use Rattle.rules.specs.declared.refusal.Refusal.{Refusal}
use Rattle.rules.specs.declared.refusal.Refusal.TheVariants.{WrongKind}
use Rattle.rules.proofs.Bytes.{link_of}
use Rattle.rules.proofs.AuditSteps.{link_zero, link_stops, link_leads, links_checked_lem}
use Rattle.rules.proofs.Owners.{known_links}
use Rattle.rules.proofs.Sound.{fine}
use Rattle.record.proofs.Linked.{Here, Past}
use Rattle.chains.proofs.Laws.{Met}
use Rattle.audit.specs.Marks.{capped, marked, tally, no_marks, marked_once, Checked, LinkChecked, LinksChecked, RecordChecked, RecordsChecked}
use Rattle.audit.proofs.Steps as step
use Rattle.audit.proofs.Steps.{tally_append, mark_behind}

-- ---- checks one after another

module _ (archive : List ℕ) where
  checked_refused : {o : Outcome (Unit {0})} {places marks later : List ℕ} {e : Refusal} → o ≡ refused (number e) → Checked archive o places marks later (Err e)
  checked_refused r = record { answers = sym r; marks_are = tt }

  checked_none : (marks : List ℕ) → Checked archive fine [] marks marks (Ok tt)
  unfolding tally
  checked_none marks = record { answers = refl; marks_are = refl }

  -- a check that is refused leaves the rest out
  then_stops : (o k : Outcome (Unit {0})) {n : ℕ} → o ≡ refused n → (o >> k) ≡ refused n
  unfolding ◌>>◌
  then_stops o k e = rw e refl

  -- after one that passes comes the next
  then_goes : {o k : Outcome (Unit {0})} {ps qs marks mid later : List ℕ} (r : Result (Unit {0}) Refusal) → Checked archive o ps marks mid (Ok tt)
      → Checked archive k qs mid later r → Checked archive (o >> k) (ps ++ qs) marks later r
  unfolding ◌>>◌
  then_goes {qs} {marks} (Ok done) first next = record {
    answers = rw (← first.answers) next.answers;
    marks_are = next.marks_are ∙ ap (λ (l : List ℕ). tally archive l qs) first.marks_are ∙ sym (tally_append archive marks _ qs);
  }
  then_goes (Err e) first next = record { answers = rw (← first.answers) next.answers; marks_are = tt }

  -- ---- a link

  module _ (used n at to : ℕ) (room : at + 4 ≤ 32) {v : ℕ} (read : v ≡ link_at (record_at archive n) at) where
    stands : link_at archive (32 * n + at) ≡ v
    stands = sym (read ∙ link_of archive n at room)

    pub link_none : (marks : List ℕ) → v ≡ 0 → LinkChecked archive used n (link at to) marks marks (Ok tt)
    unfolding tally
    link_none marks z =
        let e = stands ∙ z in
        record { answers = sym (link_zero archive used n (link at to) e); marks_are = sym (rw (eq-eqb (link_at archive (32 * n + at)) 0 e) refl) }

    -- one that leads to a record, which is marked
    pub link_marked : (marks : List ℕ) {m : ℕ} → Met archive used to n v m → LinkChecked archive used n (link at to) marks (marked marks m) (Ok tt)
    unfolding tally
    link_marked marks {m} met =
        let e : link_at archive (32 * n + at) ≡ m = stands ∙ met.link in
        let some : m ≡ 0 → ⊥ = λ z. omega (arith, met.rises, z) in
        record {
          answers = sym (link_leads archive used n (link at to) _ (λ z. some (sym e ∙ z)) (ap (follow archive used to n) stands ∙ met.is));
          marks_are = sym (rw (e, ne_eqb m 0 some) refl);
        }

    pub link_refused : (marks : List ℕ) {e : Refusal} → (v ≡ 0 → ⊥) × (follow archive used to n v ≡ refused (number e))
        → LinkChecked archive used n (link at to) marks marks (Err e)
    link_refused marks r =
        checked_refused (link_stops archive used n (link at to) _ (λ z. r.0 (sym stands ∙ z)) (ap (follow archive used to n) stands ∙ r.1))

  -- ---- some links of a record

  -- what is left from link i on completes the check
  pub record LinksLeft (used n : ℕ) (ls : List Link) (start : List ℕ) (i : ℕ) (marks : List ℕ) : Type 0 where
    pub then : (later : List ℕ) (r : Result (Unit {0}) Refusal) → LinksChecked archive used n (drop i ls) marks later r → LinksChecked archive used n ls start later r

  module _ {used n : ℕ} {ls : List Link} {start : List ℕ} {i : ℕ} {marks : List ℕ} (left : LinksLeft used n ls start i marks) where
    pub links_none : Past ls i → LinksChecked archive used n ls start marks (Ok tt)
    links_none p = left.then marks (Ok tt) (rw p.from (checked_none marks))

    module _ {at to : ℕ} {later : List ℕ} (h : Here ls i at to) where
      pub links_stop : {e : Refusal} → LinkChecked archive used n (link at to) marks later (Err e) → LinksChecked archive used n ls start later (Err e)
      links_stop {e} c = left.then later (Err e) (rw h.from (checked_refused (then_stops (link_checked archive used n (link at to)) _ (sym c.answers))))

      pub links_on : LinkChecked archive used n (link at to) marks later (Ok tt) → LinksLeft used n ls start (i + 1) later
      links_on c = record { then = λ last r k. left.then last r (rw h.from (then_goes r c k)) }

  -- ---- a record

  links_done : (used n : ℕ) {ls : List Link} {marks later : List ℕ} {r : Result (Unit {0}) Refusal} → links_at archive n ≡ ls
      → (n ≡ 0) ⊎ (is_kind (kind_of (record_at archive n)) ≡ true) → LinksChecked archive used n ls marks later r → RecordChecked archive used n marks later r
  links_done used n {ls} {marks} {later} {r} e k c =
      let f : LinksChecked archive used n (links_at archive n) marks later r = rw e c in
      record { answers = f.answers ∙ sym (links_checked_lem archive used n k); marks_are = f.marks_are }

  pub head_done : (used : ℕ) {marks later : List ℕ} {r : Result (Unit {0}) Refusal} → LinksChecked archive used 0 (owned_at archive 0) marks later r
      → RecordChecked archive used 0 marks later r
  unfolding links_at owned_at
  head_done used c = links_done used 0 refl (inl refl) c

  module _ (used n : ℕ) (some : 1 ≤ n) where
    pub unknown_done : {marks later : List ℕ} → is_kind (kind_of (record_at archive n)) ≡ false → RecordChecked archive used n marks later (Err WrongKind)
    unknown_done k = checked_refused (step.unknown_done archive used n some k)

    module _ {kind : ℕ} (kind_is : kind ≡ kind_of (record_at archive n)) (known : is_kind kind ≡ true) where
      known_kind : is_kind (kind_of (record_at archive n)) ≡ true
      known_kind = ap is_kind (sym kind_is) ∙ known

      links_are : links_at archive n ≡ link 4 kind ∷ owned_at archive n
      unfolding links_at owned_at
      links_are = rw (ne_eqb n 0 (λ z. omega arith), kind_is) (known_links (record_at archive n) known_kind)

      pub next_stops : {marks later : List ℕ} {e : Refusal} → LinkChecked archive used n (link 4 kind) marks later (Err e) → RecordChecked archive used n marks later (Err e)
      next_stops c = links_done used n links_are (inr known_kind) (checked_refused (then_stops (link_checked archive used n (link 4 kind)) _ (sym c.answers)))

      pub record_done : {marks mid later : List ℕ} {r : Result (Unit {0}) Refusal} → LinkChecked archive used n (link 4 kind) marks mid (Ok tt)
          → LinksChecked archive used n (owned_at archive n) mid later r → RecordChecked archive used n marks later r
      record_done {r} c rest = links_done used n links_are (inr known_kind) (then_goes r c rest)

  -- ---- all records

  pub records_none : (used : ℕ) (start : List ℕ) → RecordsChecked archive used 0 start start (Ok tt)
  unfolding link_places
  records_none used start = checked_none start

  module _ (used n : ℕ) {start marks later : List ℕ} (before : RecordsChecked archive used n start marks (Ok tt)) where
    pub records_more : RecordChecked archive used n marks later (Ok tt) → RecordsChecked archive used (n + 1) start later (Ok tt)
    records_more here = record {
      answers = step.records_more archive used n before.answers here.answers;
      marks_are = step.records_marked archive n start marks later before.marks_are here.marks_are;
    }

    -- a refused record refuses all
    pub records_stop : {e : Refusal} → RecordChecked archive used n marks later (Err e) → (m : ℕ) → n < m → RecordsChecked archive used m start later (Err e)
    records_stop here m h = checked_refused (step.records_stop archive used n before.answers here.answers m h)

-- ---- marks

pub mark_up : (marks : List ℕ) (n : ℕ) → get_or marks n 0 < 2 → set marks n (get_or marks n 0 + 1) ≡ marked marks n
unfolding marked
mark_up marks n h = rw (lt-ltb (get_or marks n 0) 2 h)

pub mark_stays : (marks : List ℕ) (n : ℕ) → 2 ≤ get_or marks n 0 → marks ≡ marked marks n
unfolding marked
mark_stays marks n h = rw (le-ltb (get_or marks n 0) 2 h) (sym (set-get_or marks n 0))

-- so many more on a mark
abbrev raised : ℕ → ℕ → ℕ
raised m zero = m
raised m (suc k) = raised (capped m) k

marked_length : (marks : List ℕ) (n : ℕ) → length (marked marks n) ≡ length marks
unfolding marked
marked_length marks n = length-set marks n (capped (get_or marks n 0))

module _ (archive : List ℕ) (n : ℕ) (some : n ≡ 0 → ⊥) where
  abbrev names : ℕ → Bool
  names p = eqb (link_at archive p) n

  -- one link more: it is zero, names record n, or names another
  one_link : (marks : List ℕ) (v k : ℕ) → n < length marks
      → raised (get_or (cond (eqb v 0) marks (marked marks v)) n 0) k ≡ raised (get_or marks n 0) (cond (eqb v n) (suc k) k)
  unfolding marked
  one_link marks v k h = go (eqb v 0) (eqb v n) refl refl
    where
      go : (t u : Bool) → eqb v 0 ≡ t → eqb v n ≡ u → raised (get_or (cond t marks (marked marks v)) n 0) k ≡ raised (get_or marks n 0) (cond u (suc k) k)
      go true true e f = absurd (some (sym (eqb-true v n f) ∙ eqb-true v 0 e))
      go true false e f = refl
      go false true e f =
          ap (λ (m : ℕ). raised m k)
          (ap (λ (x : ℕ). get_or (set marks x (capped (get_or marks x 0))) n 0) (eqb-true v n f) ∙ get_or-set_same marks n (capped (get_or marks n 0)) 0 h)
      go false false e f =
          ap (λ (m : ℕ). raised m k) (get_or-set_other marks v n (capped (get_or marks v 0)) 0 (λ i. eqb-false v n f (sym i)))

  tally_get : (marks ps : List ℕ) → n < length marks → get_or (tally archive marks ps) n 0 ≡ raised (get_or marks n 0) (length (keep names ps))
  unfolding tally
  tally_get marks [] h = refl
  tally_get marks (p ∷ ps) h =
      tally_get (cond (eqb (link_at archive p) 0) marks (marked marks (link_at archive p))) ps (long (eqb (link_at archive p) 0))
      ∙ one_link marks (link_at archive p) (length (keep names ps)) h
      ∙ ap (raised (get_or marks n 0)) (kept (names p))
    where
      long : (t : Bool) → n < length (cond t marks (marked marks (link_at archive p)))
      long true = h
      long false = rw (marked_length marks (link_at archive p)) h

      kept : (t : Bool) → cond t (suc (length (keep names ps))) (length (keep names ps)) ≡ length (cond t (p ∷ keep names ps) (keep names ps))
      kept true = refl
      kept false = refl

two_stays : (k : ℕ) → raised 2 k ≡ 2
two_stays zero = refl
two_stays (suc k) = two_stays k

raised_once : (k : ℕ) → eqb (raised 0 k) 1 ≡ eqb k 1
raised_once zero = refl
raised_once (suc zero) = refl
raised_once (suc (suc k)) = ap (λ (m : ℕ). eqb m 1) (two_stays k) ∙ sym (ne_eqb (suc (suc k)) 1 (λ e. omega arith))

pub no_marks_lem : length no_marks ≡ 65536
unfolding no_marks
no_marks_lem = length-replicate {A = ℕ} 65536 0

zero_mark : (n : ℕ) → n < 65536 → get_or no_marks n 0 ≡ 0
unfolding no_marks
zero_mark n h = get_or-replicate {A = ℕ} 65536 n 0 0 h

mark_once : (archive : List ℕ) (used n : ℕ) → (n ≡ 0 → ⊥) → n < 65536 → eqb (get_or (tally archive no_marks (link_places archive used)) n 0) 1 ≡ eqb (length (namers archive used n)) 1
unfolding namers
mark_once archive used n some h =
    ap (λ (m : ℕ). eqb m 1)
    (tally_get archive n some no_marks (link_places archive used) (rw no_marks_lem h)
    ∙ ap (λ (m : ℕ). raised m (length (keep (λ p. eqb (link_at archive p) n) (link_places archive used)))) (zero_mark n h))
    ∙ raised_once (length (keep (λ p. eqb (link_at archive p) n) (link_places archive used)))

-- a table of all links has each record marked once just where each is named once
pub once_same : (archive : List ℕ) (used k : ℕ) → k ≤ 65536 → marked_once (tally archive no_marks (link_places archive used)) k ≡ named_once archive used k
unfolding marked_once
once_same archive used zero h = refl
once_same archive used (suc k) h = rw (once_same archive used k (omega arith)) (go (eqb k 0) refl)
  where
    go : (t : Bool) → eqb k 0 ≡ t
        → (named_once archive used k && (eqb k 0 || eqb (get_or (tally archive no_marks (link_places archive used)) k 0) 1)) ≡ (named_once archive used k && (eqb k 0 || eqb (length (namers archive used k)) 1))
    go true e = rw e
    go false e = rw (mark_once archive used k (eqb-false k 0 e) (omega arith))

-- ---- the pass over the marks

once_all : (marks : List ℕ) (n : ℕ) → ((i : ℕ) → 1 ≤ i → i < n → get_or marks i 0 ≡ 1) → marked_once marks n ≡ true
unfolding marked_once
once_all marks zero h = refl
once_all marks (suc zero) h = refl
once_all marks (suc (suc n)) h =
    rw (once_all marks (suc n) (λ i k l. h i k (omega arith)), eq-eqb (get_or marks (suc n) 0) 1 (h (suc n) (omega arith) (omega arith))) (or-true (eqb (suc n) 0))

once_stop : (marks : List ℕ) (n m : ℕ) → 1 ≤ n → (get_or marks n 0 ≡ 1 → ⊥) → n < m → false ≡ marked_once marks m
unfolding marked_once
once_stop marks n zero z f h = absurd (omega arith)
once_stop marks n (suc m) z f h = go (eqb n m) refl (once_stop marks n m z f)
  where
    go : (t : Bool) → eqb n m ≡ t → (n < m → false ≡ marked_once marks m) → false ≡ (marked_once marks m && (eqb m 0 || eqb (get_or marks m 0) 1))
    go true i g =
        subst (λ (x : ℕ). false ≡ (marked_once marks x && (eqb x 0 || eqb (get_or marks x 0) 1))) (eqb-true n m i)
        (sym (rw (ne_eqb n 0 (λ e. omega arith), ne_eqb (get_or marks n 0) 1 f) (and-false (marked_once marks n))))
    go false i g = rw (← g (omega (arith, eqb-false n m i)))

module _ (marks : List ℕ) (used : ℕ) (fits : used ≤ length marks) where
  abbrev rest : List ℕ
  rest = take (used - 1) (drop 1 marks)

  size : length rest ≡ used - 1
  size = let d = length-drop 1 marks in omega (arith, length-take (used - 1) (drop 1 marks))

  at : (k : ℕ) → k < used - 1 → (i : ℕ) → 1 + k ≡ i → get_or rest k 0 ≡ get_or marks i 0
  at k h i e = mark_behind marks used k h ∙ ap (λ (i : ℕ). get_or marks i 0) e

  pub once_by : (r : Bool) → MatchBool r (AllWithin (λ m. m ≡ 1) rest 0 (length rest)) ((k : ℕ) × (k < length rest) × HoldsAt (λ m. m ≡ 1 → ⊥) rest k)
      → r ≡ marked_once marks used
  once_by true h =
      sym (once_all marks used (λ i some below. sym (at (i - 1) (omega arith) i (omega arith)) ∙ h (i - 1) 0 (omega arith) (omega (arith, size))))
  once_by false h =
      once_stop marks (1 + h.0) used (omega arith) (λ e. h.2 0 (at h.0 (omega (arith, size, h.1)) (1 + h.0) refl ∙ e)) (omega (arith, size, h.1))
