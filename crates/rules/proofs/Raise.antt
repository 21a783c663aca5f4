-- Demand 3 of two calls: where some measured powers or limits of a measure's quarters are higher, no running total is.
use mathlib.Core.Path.{◌≡◌, refl, sym, ◌∙◌, ap, subst}
use mathlib.Core.Bool.{Bool, true, false, cond, ◌&&◌, ◌||◌, and-false, or-true}
use mathlib.Core.List.{List, [], ◌∷◌, map}
use Prim.Native.Nat.{ℕ, zero, suc, ◌+◌, ◌≤◌, ◌<◌}
use native.Mathlib.Omega.{arith}
use borrow.Author.Tests.{eqb-true, eq-eqb, lt-leb}
use lib.Dec.{T, eqb, leb, ltb, eqb→eq, lit<}
use lib.IntN.{ℤ}
use lib.Signed.{◌≤ℤ◌}
use lib.ListN.{length, take, drop}
use lib.Seq.{take-append-le}
use Rattle.rules.specs.Outcome.{Outcome, given, ◌>>=◌, ◌>>◌, require}
use Rattle.rules.specs.Refusals.{settle_refusals}
use Rattle.rules.specs.Numbers.{sumℤ, member, map_from}
use Rattle.rules.specs.Archive.{byte_at, link_at, twos, field_at, record_at, kind_of, next_of, is_text, used_of, Entry, entry_at, follow, chain_from, chain}
use Rattle.rules.specs.Calendar.{date_of, day_of, quarter_of_day}
use Rattle.rules.specs.Terms.{Terms, number_at, month_of, quarter_of_day_of, reading_at, Quarter, quarter_of}
use Rattle.rules.specs.Settle.{Place, place_of, Basis, quarter_chain, quarters_read, measure_denominator, Settlement, settlement_of, settle, Answer, answer_of, list_after}
use Rattle.rules.specs.Fractions.{quarter_numbers, Raised}
use Rattle.rules.specs.Promises.{Settles}
use Rattle.rules.specs.Demands.{RunningTotalsFall}
use Rattle.rules.proofs.Inversion.{Holds, holds_cond, holds_bind, holds_refused, holds_require, holds_given, holds_anyway, same_given, All, none, more}
use Rattle.rules.proofs.Positive.{basis_positive}
use Rattle.rules.proofs.Refusals.{given_by_number, number_is, every_call_answers}
use Rattle.rules.proofs.Settled.{MadeFrom, made_from, ReadFrom, read_from_lem, count_is}
use Rattle.rules.proofs.Monotone.{Higher, Along, done, then, running_falls}
use Rattle.rules.proofs.Agree.{elsewhere, Agree, agree, kind_same, next_same, place_same, basis_same}

-- ---- records met on a chain

pub record Entered (a : List ℕ) (kind : ℕ) (e : Entry) : Type 0 where
  pub bytes_are : e.bytes ≡ record_at a e.number
  pub kind_is : kind_of (record_at a e.number) ≡ kind

pub follow_entered : (a : List ℕ) (used kind holder link : ℕ) → Holds (Entered a kind) (follow a used kind holder link)
unfolding follow
follow_entered a used kind holder link =
    holds_require _ 2 _ (λ t. holds_require _ 3 _ (λ t. holds_given _ (record { bytes_are = refl; kind_is = eqb→eq _ kind t })))

chain_from_entered : (a : List ℕ) (used kind steps holder link : ℕ) → Holds (All (Entered a kind)) (chain_from a used kind steps holder link)
chain_from_entered a used kind zero holder link = holds_cond (eqb link 0) (holds_given _ none) (holds_refused 2)
chain_from_entered a used kind (suc steps) holder link =
    holds_cond (eqb link 0) (holds_given _ none)
    (holds_bind _ _ (λ e h. holds_bind _ _ (λ es k.
    holds_given _ (more ((follow_entered a used kind holder link).of e h) ((chain_from_entered a used kind steps e.number (next_of e.bytes)).of es k)))))

-- ---- the same chain in another archive that has the same kinds and next links

abbrev moved : List ℕ → Entry → Entry
moved b e = entry_at b e.number

twice : (t u : Bool) (x : Entry) (f : Entry → Entry)
    → Holds (λ e. (require t 2 >> (require u 3 >> given (f x))) ≡ given (f e)) (require t 2 >> (require u 3 >> given x))
unfolding ◌>>◌ require
twice true true x f = holds_given x refl
twice true false x f = holds_refused 3
twice false u x f = holds_refused 2

chain_step : (t : Bool) {x y : Outcome (List Entry)} (b : List ℕ)
    → Holds (λ es. y ≡ given (map (moved b) es)) x → Holds (λ es. cond t (given []) y ≡ given (map (moved b) es)) (cond t (given []) x)
chain_step true b h = holds_given [] refl
chain_step false b h = h

module _ (a b : List ℕ) (g : Agree a b) (used kind : ℕ) where
  follow_moved : (holder link : ℕ) → Holds (λ e. follow b used kind holder link ≡ given (moved b e)) (follow a used kind holder link)
  unfolding follow
  follow_moved holder link =
      rw (← kind_same a b g link)
      (twice (ltb holder link && ltb link used) (eqb (kind_of (record_at a link)) kind) (entry_at a link) (moved b))

  chain_from_moved : (steps holder link : ℕ)
      → Holds (λ es. chain_from b used kind steps holder link ≡ given (map (moved b) es)) (chain_from a used kind steps holder link)
  unfolding ◌>>=◌
  chain_from_moved zero holder link = chain_step (eqb link 0) b (holds_refused 2)
  chain_from_moved (suc steps) holder link =
      chain_step (eqb link 0) b
      (holds_bind (follow a used kind holder link) _ (λ e h. holds_bind (chain_from a used kind steps e.number (next_of e.bytes)) _ (λ es k.
      holds_given (e ∷ es) (rw ((follow_moved holder link).of e h, ← next_same a b g e.number, ← ((follow_entered a used kind holder link).of e h).bytes_are, (chain_from_moved steps e.number (next_of e.bytes)).of es k)))))

-- ---- the readings of the same quarter in both

behind_limit : (i : ℕ) → 15 < i → T (elsewhere i)
behind_limit i h = rw (lt-leb i 15 h, and-false (leb 8 i)) tt

here : (n : ℕ) (ns : List ℕ) → member n (n ∷ ns) ≡ true
here n ns = rw (eq-eqb n n refl)

there : (n m : ℕ) (ns : List ℕ) → member n ns ≡ true → member n (m ∷ ns) ≡ true
there n m ns k = rw k (or-true (eqb n m))

module _ (a b : List ℕ) (p k : ℕ) (g : Agree a b) (raised : Raised a b p k) (terms : Terms) where
  -- four bytes behind measured power and limit
  word_same : (n at : ℕ) → 15 < at → at < 29 → link_at (record_at a n) at ≡ link_at (record_at b n) at
  unfolding link_at
  word_same n at low high = rw (same at low (omega arith), same (at + 1) (omega arith) (omega arith), same (at + 2) (omega arith) (omega arith), same (at + 3) (omega arith) (omega arith))
    where
      same : (i : ℕ) → 15 < i → i < 32 → byte_at (record_at a n) i ≡ byte_at (record_at b n) i
      same i l h = g.outside n i h (behind_limit i l)

  field_same : (n at : ℕ) → 15 < at → at < 29 → field_at (record_at a n) at ≡ field_at (record_at b n) at
  unfolding field_at
  field_same n at low high = ap twos (word_same n at low high)

  reading_same : (n at : ℕ) → 15 < at → at < 29 → reading_at (record_at a n) at ≡ reading_at (record_at b n) at
  unfolding reading_at
  reading_same n at low high = rw (word_same n at low high, field_same n at low high)

  quarter_higher : (n index : ℕ) → member n (quarter_numbers a p k) ≡ true → Higher (quarter_of terms index (record_at a n)) (quarter_of terms index (record_at b n))
  unfolding quarter_of month_of quarter_of_day_of
  quarter_higher n index m = record {
    month = ap (λ (b : ℕ). cond (eqb terms.first 0) b (date_of (day_of (number_at terms index))).month) (g.outside n 1 (lit< tt) tt);
    quarter_of_day = ap (λ (b : ℕ). cond (eqb terms.first 0) b (quarter_of_day (number_at terms index))) (g.outside n 2 (lit< tt) tt);
    weather = field_same n 16 (lit< tt) (lit< tt);
    planned = field_same n 20 (lit< tt) (lit< tt);
    nonavailability = reading_same n 24 (lit< tt) (lit< tt);
    market_adjustment = reading_same n 28 (lit< tt) (lit< tt);
    measured = raised.measured_no_lower n m;
    limit = raised.limit_no_lower n m;
  }

  entry_higher : (e : Entry) (index : ℕ) → Entered a 5 e → member e.number (quarter_numbers a p k) ≡ true
      → Higher (quarter_of terms index e.bytes) (quarter_of terms index (record_at b e.number))
  entry_higher e index h m = rw h.bytes_are (quarter_higher e.number index m)

  abbrev read : ℕ → List Entry → List Quarter
  read index es = map_from (λ i e. quarter_of terms i e.bytes) index es

  quarters_higher : (es : List Entry) (index : ℕ) → All (Entered a 5) es
      → ((n : ℕ) → member n (map (λ e. e.number) es) ≡ true → member n (quarter_numbers a p k) ≡ true)
      → Along Higher (read index es) (read index (map (moved b) es))
  quarters_higher [] index none within = done
  quarters_higher (e ∷ es) index (more h rest) within =
      then (entry_higher e index h (within e.number (here e.number (map (λ x. x.number) es))))
      (quarters_higher es (index + 1) rest (λ n m. within n (there n e.number (map (λ x. x.number) es) m)))

-- ---- what is read before the quarters

-- record 0 isn't of kind 5
first_of_four : (t u v w : Bool) → T (t && u && v && w) → T t
first_of_four true u v w h = tt
first_of_four false u v w h = h

text_first : (r : List ℕ) → T (is_text r) → kind_of r ≡ 65
text_first r t = eqb→eq (byte_at r 0) 65 (first_of_four (eqb (byte_at r 0) 65) (eqb (byte_at r 1) 65) (eqb (byte_at r 2) 82) (eqb (byte_at r 3) 66) t)

used_text : (archive : List ℕ) → Holds (λ (u : ℕ). kind_of (record_at archive 0) ≡ 65) (used_of archive)
unfolding used_of
used_text archive = holds_require _ 1 _ (λ t. holds_require _ 1 _ (λ t. holds_anyway _ (text_first (record_at archive 0) t)))

head_text : (archive : List ℕ) (p k : ℕ) → Holds (λ (place : Place). kind_of (record_at archive 0) ≡ 65) (place_of archive p k)
unfolding place_of
head_text archive p k = holds_bind _ _ (λ used e. holds_anyway _ ((used_text archive).of used e))

kinds_of : (a : List ℕ) (es : List Entry) → All (Entered a 5) es → (n : ℕ) → member n (map (λ e. e.number) es) ≡ true → kind_of (record_at a n) ≡ 5
kinds_of a [] none n m = cc
kinds_of a (e ∷ es) (more h rest) n m = go (kinds_of a es rest n) (eqb n e.number) refl m
  where
    go : (member n (map (λ e. e.number) es) ≡ true → kind_of (record_at a n) ≡ 5)
        → (t : Bool) → eqb n e.number ≡ t → (t || member n (map (λ e. e.number) es)) ≡ true → kind_of (record_at a n) ≡ 5
    go rec true q m' = rw (eqb-true n e.number q) h.kind_is
    go rec false q m' = rec m'

-- ---- two archives

record Compared (s₁ s₂ : Settlement) : Type 0 where
  counts : length s₂.amounts ≡ length s₁.amounts
  falls : (n : ℕ) → sumℤ (take n s₂.amounts) ≤ℤ sumℤ (take n s₁.amounts)

along_length : {A B : Type 0} {R : A → B → Type 0} {xs : List A} {ys : List B} → Along R xs ys → length ys ≡ length xs
along_length done = refl
along_length (then h t) = ap suc (along_length t)

module _ (first second : List ℕ) (p k : ℕ) (place : Place) (es : List Entry) (is : place_of first p k ≡ given place) (are : quarter_chain first place ≡ given es)
    (raised : Raised first second p k) where
  entered : All (Entered first 5) es
  unfolding chain
  entered = (chain_from_entered first place.used 5 place.used place.measure.number (link_at place.measure.bytes 12)).of es are

  numbers_are : quarter_numbers first p k ≡ map (λ e. e.number) es
  unfolding quarter_numbers ◌>>=◌
  numbers_are = rw (is, are)

  agreed : Agree first second
  agreed = agree first second p k raised (λ n m. kinds_of first es entered n (ap (member n) (sym numbers_are) ∙ m))

  place_too : place_of second p k ≡ given place
  place_too =
      sym (place_same first second agreed (agreed.others 0 (ap (λ (x : ℕ). eqb x 5) ((head_text first p k).of place is))) p k) ∙ is

  chain_too : quarter_chain second place ≡ given (map (moved second) es)
  unfolding chain
  chain_too = (chain_from_moved first second agreed place.used 5 place.used place.measure.number (link_at place.measure.bytes 12)).of es are

  quarters_too : (qs₂ : List Quarter) → ReadFrom second place qs₂ → Along Higher (quarters_read place es) qs₂
  quarters_too qs₂ found =
      subst (Along Higher (quarters_read place es)) (ap (quarters_read place) (same_given chain_too found.are) ∙ sym found.read)
      (quarters_higher first second p k agreed raised place.terms es 0 entered (λ n m. ap (member n) numbers_are ∙ m))

  compare : (basis : Basis) (qs₂ : List Quarter) → 0 < measure_denominator basis → ReadFrom second place qs₂
      → Compared (settlement_of place basis (quarters_read place es)) (settlement_of place basis qs₂)
  compare basis qs₂ positive found = record {
    counts = count_is place basis qs₂ ∙ along_length (quarters_too qs₂ found) ∙ sym (count_is place basis (quarters_read place es));
    falls = running_falls place.terms basis.reference (measure_denominator basis) positive (quarters_too qs₂ found);
  }

compared : (first second : List ℕ) (p k : ℕ) {s₁ s₂ : Settlement} (x : MadeFrom first p k s₁) (y : MadeFrom second p k s₂)
    → ReadFrom first x.place x.quarters → Raised first second p k → Compared s₁ s₂
compared first second p k x y w raised =
    let places : y.place ≡ x.place = same_given y.place_is (place_too first second p k x.place w.entries x.place_is w.are raised) in
    let bases : y.basis ≡ x.basis =
    same_given (rw places at y.basis_is)
    (sym (basis_same first second (agreed first second p k x.place w.entries x.place_is w.are raised) x.place) ∙ x.basis_is) in
    let positive : 0 < measure_denominator x.basis = omega (arith, (basis_positive first x.place).of x.basis x.basis_is) in
    let found : ReadFrom second x.place y.quarters = rw places at ((read_from_lem second y.place y.basis).of y.quarters y.quarters_are) in
    rw (x.is, y.is, places, bases, w.read)
    (compare first second p k x.place w.entries x.place_is w.are raised x.basis y.quarters positive found)

-- a call that returns 0, with what it gave and left
record Gave (archive : List ℕ) (p k : ℕ) (later : List ℤ) (answer : Answer) : Type 0 where
  s : Settlement
  made : MadeFrom archive p k s
  count : answer.count ≡ length s.amounts
  first_places : (n : ℕ) → n ≤ length s.amounts → take n later ≡ take n s.amounts

gave : (archive : List ℕ) (p k : ℕ) (list later : List ℤ) (answer : Answer) → Settles archive p k list later answer → answer.number ≡ 0 → Gave archive p k later answer
gave archive p k list later answer h z =
    let g = given_by_number settle_refusals refl (settle archive p k (length list)) (every_call_answers.settles archive p k (length list))
    (sym (number_is (settle archive p k (length list)) h.answers) ∙ z) in
    record {
      s = g.0;
      made = (made_from archive p k (length list)).of g.0 g.1;
      count = ap (λ a. a.count) (h.answers ∙ ap answer_of g.1);
      first_places = λ n le. ap (take n) (h.leaves ∙ ap (λ o. list_after o list) g.1) ∙ take-append-le n g.0.amounts (drop (length g.0.amounts) list) le;
    }

pub running_totals_fall : RunningTotalsFall
running_totals_fall first second p k list₁ later₁ list₂ later₂ answer₁ answer₂ h₁ h₂ z₁ z₂ raised =
    let x = gave first p k list₁ later₁ answer₁ h₁ z₁ in
    let y = gave second p k list₂ later₂ answer₂ h₂ z₂ in
    let c : Compared x.s y.s = compared first second p k x.made y.made ((read_from_lem first x.made.place x.made.basis).of x.made.quarters x.made.quarters_are) raised in (
      y.count ∙ c.counts ∙ sym x.count,
      λ n le. rw (x.first_places n (omega (arith, le, x.count)), y.first_places n (omega (arith, le, x.count, c.counts))) (c.falls n),
    )
