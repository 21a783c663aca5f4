-- A walk over a measure's quarters, step by step, and what it has gathered at the chain's end.
use mathlib.Core.Path.{◌≡◌, refl, sym, ◌∙◌, ap, subst}
use mathlib.Core.Bool.{Bool, true, false, cond, ◌&&◌, ◌||◌, and-true, and-false}
use mathlib.Core.List.{List, [], ◌∷◌, ◌++◌, map, append-nil}
use Prim.Native.Nat.{ℕ, suc, ◌+◌, ◌*◌, ◌-◌, ◌/◌, ◌^◌, ◌≤◌, ◌<◌}
use native.Mathlib.Numerals.{add-one}
use native.Mathlib.Nat.{mul-le-mul_right, div-le_of_le-mul}
use native.Mathlib.Omega.{arith}
use borrow.Author.Tests.{leb-true, le-leb, lt-leb}
use lib.Dec.{eqb, leb}
use lib.ListN.{length, take, set, length-set}
use lib.Seq.{take-suc-set, append_snoc}
use Rattle.rules.specs.Outcome.{Outcome, refused, given, ◌>>=◌, ◌>>◌, require}
use Rattle.rules.specs.Refusals.{bad_count, out_of_range, not_in_calendar}
use Rattle.rules.specs.Numbers.{all, map_from}
use Rattle.rules.specs.Archive.{record_at, Entry, quarter_kind, first_quarter}
use Rattle.rules.specs.Terms.{Terms, Quarter, quarter_of}
use Rattle.rules.specs.Reference as book
use Rattle.rules.specs.Reference.{denominator, exact_of}
use Rattle.rules.specs.Settle as settle
use Rattle.rules.specs.Settle.{Basis, quarter_chain, quarters_read, readable, dates_allowed, quarters_of}
use Rattle.rules.proofs.Calendar.{Order, before, same, behind, order}
use Rattle.rules.proofs.Bounds as bounds
use Rattle.rules.proofs.Bounds.{exact_small}
use Rattle.rules.proofs.Inversion.{same_given}
use Rattle.rules.proofs.Lists.{map_from_length, all_passed, all_weaker, sum_low}
use Rattle.rules.proofs.Sound.{both}
use Rattle.rules.proofs.Folds.{gathered, gathered_from}
use Rattle.chains.specs.declared.Chain.{Chain}
use Rattle.chains.specs.Steps.{Starts, Turns, Refuses}
use Rattle.chains.proofs.Walking.{Along, Walking, along_starts, along_meets, along_turns, walk_starts, walk_turns, walk_ends, walk_refused}
use Rattle.terms.specs.Meanings.{meaning}
use Rattle.place.specs.declared.Place.{Place}
use Rattle.place.specs.Places.{meant}
use Rattle.units.specs.declared.Watt.{Watt}
use Rattle.reference.specs.declared.Reference.{Reference}
use Rattle.reference.specs.declared.Reference.TheVariants.{ByFactor}
use Rattle.reference.specs.References.{Divided}
use Rattle.std.specs.Prelude.{Option, Result, Err}
use Rattle.exact.specs.Exacts.{exact_answer, quarter_answer}
use Rattle.rules.specs.Results.{number, outcome}
use Rattle.rules.specs.declared.refusal.Refusal.{Refusal}
use Rattle.quarters.specs.Walks.{is_in_range, entered, answer_at_end, WalkedBy}

-- the quarters met so far, whether every needed field of them is in range, and the sheet
pub record Gathered : Type 0 where
  pub count : ℕ
  pub fine : Bool
  pub sheet : List ℕ

abbrev pub state : ℕ → Bool → List ℕ → Gathered
state count fine sheet = record { count = count; fine = fine; sheet = sheet }

module _ (terms : Terms) (ref : book.Reference) where
  abbrev is_readable : Quarter → Bool
  is_readable = readable terms ref

  abbrev pub exact_at : ℕ → List ℕ → Option ℕ
  exact_at index r = quarter_answer terms ref (quarter_of terms index r)

  abbrev pub stepped : Gathered → Entry → Gathered
  stepped g e =
      state (g.count + 1) (is_in_range (exact_at g.count e.bytes) && g.fine) (entered g.sheet g.count (exact_at g.count e.bytes))

  abbrev read_from : ℕ → List Entry → List Quarter
  read_from count es = map_from (λ index e. quarter_of terms index e.bytes) count es

  -- ---- what is gathered from a whole chain

  count_is : (es : List Entry) (g : Gathered) → (gathered stepped g es).count ≡ g.count + length es
  count_is [] g = omega arith
  count_is (e ∷ es) g = omega (arith, count_is es (stepped g e))

  fine_is : (es : List Entry) (g : Gathered) → (gathered stepped g es).fine ≡ (all is_readable (read_from g.count es) && g.fine)
  fine_is [] g = refl
  fine_is (e ∷ es) g =
      fine_is es (stepped g e)
      ∙ go (is_readable (quarter_of terms g.count e.bytes)) (all is_readable (read_from (g.count + 1) es)) g.fine (exact_of terms ref (quarter_of terms g.count e.bytes))
    where
      go : (t u v : Bool) (m : ℕ) → (u && (is_in_range (exact_answer t m) && v)) ≡ ((t && u) && v)
      go true u v m = refl
      go false true v m = refl
      go false false v m = refl

  readable_step : (g : Gathered) (e : Entry) → is_readable (quarter_of terms g.count e.bytes) ≡ true
      → stepped g e ≡ state (g.count + 1) g.fine (set g.sheet g.count (exact_of terms ref (quarter_of terms g.count e.bytes)))
  readable_step g e r =
      ap (λ (t : Bool). let m = exact_answer t (exact_of terms ref (quarter_of terms g.count e.bytes)) in
      state (g.count + 1) (is_in_range m && g.fine) (entered g.sheet g.count m)) r

  -- the sheet has a place for each
  sheet_is : (es : List Entry) (g : Gathered) → all is_readable (read_from g.count es) ≡ true → g.count + length es ≤ length g.sheet
      → take (g.count + length es) (gathered stepped g es).sheet ≡ take g.count g.sheet ++ map (exact_of terms ref) (read_from g.count es)
  sheet_is [] g r h = let z : g.count + 0 ≡ g.count = omega arith in rw (z, append-nil)
  sheet_is (e ∷ es) g r h =
      let b = both (is_readable (quarter_of terms g.count e.bytes)) _ r in
      let m : ℕ = exact_of terms ref (quarter_of terms g.count e.bytes) in
      let k : g.count + suc (length es) ≡ g.count + 1 + length es = omega arith in
      rw k
      (ap (λ (n : Gathered). take (g.count + 1 + length es) (gathered stepped n es).sheet) (readable_step g e b.0)
      ∙ sheet_is es (state (g.count + 1) g.fine (set g.sheet g.count m)) b.1 (simp length-set (omega arith))
      ∙ rw (add-one g.count, take-suc-set g.sheet g.count m (omega arith), append_snoc))

  -- ---- at the chain's end

  -- a walk that started before its first quarter has met all of them
  pub record Ended (o : Outcome (List Entry)) (g : Gathered) : Type 0 where
    pub entries : List Entry
    pub are : o ≡ given entries
    pub count : g.count ≡ length entries
    pub fine : g.fine ≡ all is_readable (read_from 0 entries)
    pub sheet : g.fine ≡ true → length entries ≤ length g.sheet → take (length entries) g.sheet ≡ map (exact_of terms ref) (read_from 0 entries)

  ended : (o : Outcome (List Entry)) (sheet : List ℕ) (g : Gathered) → length g.sheet ≡ length sheet → gathered_from stepped (state 0 true sheet) o ≡ given g → Ended o g
  ended (refused n) sheet g h e = let z : ◌≡◌ {A = ℕ} 0 1 = cc in absurd (omega arith)
  ended (given es) sheet g h e =
      let i : gathered stepped (state 0 true sheet) es ≡ g = cc in
      let c : g.count ≡ length es = ap (λ (n : Gathered). n.count) (sym i) ∙ count_is es (state 0 true sheet) ∙ omega arith in
      let f : g.fine ≡ all is_readable (read_from 0 es) = ap (λ (n : Gathered). n.fine) (sym i) ∙ fine_is es (state 0 true sheet) ∙ and-true (all is_readable (read_from 0 es)) in
      record {
        entries = es;
        are = refl;
        count = c;
        fine = f;
        sheet = λ r k. ap (λ (n : Gathered). take (length es) n.sheet) (sym i) ∙ sheets es sheet (sym f ∙ r) (omega arith);
      }
    where
      sheets : (es : List Entry) (sheet : List ℕ) → all is_readable (read_from 0 es) ≡ true → length es ≤ length sheet
          → take (length es) (gathered stepped (state 0 true sheet) es).sheet ≡ map (exact_of terms ref) (read_from 0 es)
      sheets es sheet r k = let z : 0 + length es ≡ length es = omega arith in rw z at (sheet_is es (state 0 true sheet) r (omega arith))

-- ---- the sum of all magnitudes, in whole Wh

total_fits : (total count d : ℕ) → count ≤ 2976 → total ≤ count * (200000000000000 * d) → total / (4 * d) < 2 ^ 63
total_fits total count d c h =
    let m : count * (200000000000000 * d) ≤ 2976 * (200000000000000 * d) = mul-le-mul_right (200000000000000 * d) c in
    let q : total / (4 * d) ≤ 148800000000000000 = div-le_of_le-mul (4 * d) (omega arith) in
    omega arith

-- ---- what settle's rule says of the quarters

module _ (archive : List ℕ) (place : settle.Place) (basis : Basis) where
  walked_refused : (sheet : List ℕ) (r : Result ℕ Refusal) (n : ℕ) → quarters_of archive place basis ≡ refused n → outcome r ≡ refused n
      → WalkedBy archive place basis sheet r
  unfolding ◌>>=◌
  walked_refused sheet r n e a = record {
    answers = a ∙ rw e refl;
    writes = λ quarters i k. cc;
    fits = λ quarters i. cc;
  }

  pub walked_chain : (sheet : List ℕ) (e : Refusal) → quarter_chain archive place ≡ refused (number e) → WalkedBy archive place basis sheet (Err e)
  unfolding quarters_of ◌>>=◌
  walked_chain sheet e c = walked_refused sheet (Err e) (number e) (rw c) refl

  module _ (g : Gathered) (h : Ended place.terms basis.reference (quarter_chain archive place) g) (r : Result ℕ Refusal) where
    walked_uncounted : (leb 1 g.count && leb g.count 2976) ≡ false → outcome r ≡ refused bad_count → WalkedBy archive place basis g.sheet r
    unfolding quarters_of ◌>>=◌ ◌>>◌ require
    walked_uncounted k a = walked_refused g.sheet r bad_count (rw (h.are, ← h.count, k)) a

    module _ (counted : (leb 1 g.count && leb g.count 2976) ≡ true) where
      walked_unreadable : g.fine ≡ false → outcome r ≡ refused out_of_range → WalkedBy archive place basis g.sheet r
      unfolding quarters_of ◌>>=◌ ◌>>◌ require
      walked_unreadable f a = walked_refused g.sheet r out_of_range (rw (h.are, ← h.count, counted, ← h.fine, f)) a

      walked_late : g.fine ≡ true → dates_allowed place.terms g.count ≡ false → outcome r ≡ refused not_in_calendar → WalkedBy archive place basis g.sheet r
      unfolding quarters_of ◌>>=◌ ◌>>◌ require
      walked_late f l a = walked_refused g.sheet r not_in_calendar (rw (h.are, ← h.count, counted, ← h.fine, f, l)) a

      quarters_read_lem : g.fine ≡ true → dates_allowed place.terms g.count ≡ true → quarters_of archive place basis ≡ given (quarters_read place h.entries)
      unfolding quarters_of ◌>>=◌ ◌>>◌ require
      quarters_read_lem f l = rw (h.are, ← h.count, counted, ← h.fine, f, l)

      few : length h.entries ≤ 2976
      few = omega (arith, leb-true g.count 2976 (both (leb 1 g.count) _ counted).1, h.count)

      walked_given : g.fine ≡ true → dates_allowed place.terms g.count ≡ true → bounds.Bounded basis.reference → outcome r ≡ given g.count
          → WalkedBy archive place basis g.sheet r
      unfolding ◌>>=◌
      walked_given f l bounded a =
          let size : length (quarters_read place h.entries) ≡ length h.entries = map_from_length _ 0 h.entries in
          let is = quarters_read_lem f l in
          record {
            answers = a ∙ rw (is, size) (ap given h.count);
            writes = λ quarters i k.
                let e = same_given i is in rw (e, size) (h.sheet f (omega (arith, k, ap (λ (qs : List Quarter). length qs) e, size)));
            fits = λ quarters i. rw (same_given i is)
                (total_fits _ (length h.entries) (denominator basis.reference) few
                (rw (← size) (sum_low _ _ (quarters_read place h.entries) (all_weaker _ (λ q e. exact_small place.terms basis.reference q bounded e) (all_passed (readable place.terms basis.reference) _ (sym h.fine ∙ f))))));
          }

    pub walked_ended : bounds.Bounded basis.reference → outcome r ≡ answer_at_end place.terms g.count g.fine → WalkedBy archive place basis g.sheet r
    unfolding answer_at_end
    walked_ended bounded = by (leb 1 g.count && leb g.count 2976) g.fine (dates_allowed place.terms g.count) refl refl refl
      where
        by : (counted fine allowed : Bool) → (leb 1 g.count && leb g.count 2976) ≡ counted → g.fine ≡ fine → dates_allowed place.terms g.count ≡ allowed
            → outcome r
            ≡ cond counted (cond fine (cond allowed (given g.count) (refused not_in_calendar)) (refused out_of_range)) (refused bad_count)
            → WalkedBy archive place basis g.sheet r
        by false fine allowed c f l a = walked_uncounted c a
        by true false allowed c f l a = walked_unreadable c f a
        by true true false c f l a = walked_late c f l a
        by true true true c f l a = walked_given c f l bounded a

-- ---- the walk of the code

-- it stands where the iterator does, with a sheet that was `start`: for each reference that is meant, the law of walking
pub record Going (archive : List ℕ) (used measure first : ℕ) (terms : Terms) (means : book.Reference → Type 0) (start : List ℕ) (at : Chain) (g : Gathered) : Type 0 where
  pub along : Along archive used quarter_kind at
  pub below : at.last < used
  pub walking : (ref : book.Reference) → means ref → Walking (stepped terms ref) archive used quarter_kind measure first (state 0 true start) at g
  pub counted : g.count ≤ at.last
  pub size : length g.sheet ≡ length start

module _ {archive : List ℕ} {used measure first : ℕ} (terms : Terms) (means : book.Reference → Type 0) (start : List ℕ) where
  pub going_starts : {at : Chain} → Starts archive used quarter_kind measure first at → measure < used → Going archive used measure first terms means start at (state 0 true start)
  going_starts s below = record {
    along = along_starts s;
    below = rw s.last_is below;
    walking = λ ref m. walk_starts _ _ _ _ _ _ _ s below;
    counted = omega arith;
    size = refl;
  }

  module _ {at : Chain} {g : Gathered} (h : Going archive used measure first terms means start at g) where
    pub going_on : {n : ℕ} {then : Chain} {fine : Bool} {sheet : List ℕ} (magnitude : Option ℕ) → Turns at n then
        → ((ref : book.Reference) → means ref → magnitude ≡ exact_at terms ref g.count (record_at archive n))
        → fine ≡ (is_in_range magnitude && g.fine) → sheet ≡ entered g.sheet g.count magnitude → length sheet ≡ length g.sheet
        → Going archive used measure first terms means start then (state (g.count + 1) fine sheet)
    going_on magnitude t i f w k =
        let met = along_meets h.along t in
        record {
          along = along_turns h.along t;
          below = rw t.last_is met.below;
          walking = λ ref m. walk_turns _ _ _ _ _ _ _ (h.walking ref m) t (rw (f, w, i ref m) refl);
          counted = omega (arith, h.counted, met.rises, t.last_is);
          size = k ∙ h.size;
        }

module _ (archive : List ℕ) (place : Place) {first : ℕ} (starts : first ≡ first_quarter (record_at archive place.measure))
    (means : book.Reference → Type 0) {start : List ℕ} {at : Chain} {g : Gathered}
    (h : Going archive place.used place.measure first (meaning place.terms) means start at g) (basis : Basis) (m : means basis.reference) where
  pub walks_refused : {e : Refusal} → Refuses at e → WalkedBy archive (meant archive place) basis g.sheet (Err e)
  walks_refused {e} r =
      walked_chain archive (meant archive place) basis g.sheet e (rw starts at (walk_refused _ _ _ _ _ _ _ (h.walking basis.reference m) r))

  pub walks_ended : at.link ≡ 0 → (r : Result ℕ Refusal) → outcome r ≡ answer_at_end (meaning place.terms) g.count g.fine → bounds.Bounded basis.reference
      → WalkedBy archive (meant archive place) basis g.sheet r
  walks_ended end r e bounded =
      walked_ended archive (meant archive place) basis g
      (ended (meaning place.terms) basis.reference _ start g h.size (rw starts at (walk_ends _ _ _ _ _ _ _ (h.walking basis.reference m) end))) r bounded e

-- ---- the calendar's end

-- the last quarter isn't past the end where the first leaves room for the others
pub dates_allowed_lem : (terms : Terms) (count : ℕ) → 1 ≤ count → count ≤ 2976
    → (eqb terms.first 0 || leb terms.first (3506400 - (count - 1))) ≡ dates_allowed terms count
unfolding dates_allowed
dates_allowed_lem terms count some few = ap (λ (t : Bool). eqb terms.first 0 || t) (by (order (terms.first + (count - 1)) 3506401))
  where
    past : 3506401 ≤ terms.first + (count - 1)
        → leb terms.first (3506400 - (count - 1)) ≡ (leb (terms.first + 0) 3506400 && leb (terms.first + (count - 1)) 3506400)
    past h =
        rw (lt-leb terms.first (3506400 - (count - 1)) (omega arith), lt-leb (terms.first + (count - 1)) 3506400 (omega arith)) (sym (and-false (leb (terms.first + 0) 3506400)))

    by : Order (terms.first + (count - 1)) 3506401
        → leb terms.first (3506400 - (count - 1)) ≡ (leb (terms.first + 0) 3506400 && leb (terms.first + (count - 1)) 3506400)
    by (before b) =
        rw (le-leb terms.first (3506400 - (count - 1)) (omega arith), le-leb (terms.first + 0) 3506400 (omega arith), le-leb (terms.first + (count - 1)) 3506400 (omega arith))
    by (same e) = past (omega arith)
    by (behind b) = past (omega arith)

-- so many quarters were counted
pub counted_from : (count : ℕ) → (leb 1 count && leb count 2976) ≡ true → (1 ≤ count) × (count ≤ 2976)
counted_from count e = let b = both (leb 1 count) (leb count 2976) e in (leb-true 1 count b.0, leb-true count 2976 b.1)
