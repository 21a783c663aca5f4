-- Taking back: it takes an append back, a sound archive stays sound, and filings are taken back one by one (02, 2).
use mathlib.Core.Path.{◌≡◌, refl, sym, ◌∙◌, ap, ap₂, subst}
use mathlib.Core.Bool.{Bool, true, false}
use mathlib.Core.List.Memᴰ
use mathlib.Core.List.{List, [], ◌∷◌, ◌++◌, map, append-nil, Memᴰ}
use mathlib.Core.Logic.{inr}
use Prim.Native.Nat.{ℕ, zero, suc, ◌+◌, ◌*◌, ◌-◌, ◌≤◌, ◌<◌}
use native.Mathlib.Omega.{arith}
use native.Mathlib.Numerals.{add-one}
use lib.Dec.{eqb}
use lib.ListN.{length, take, drop, replicate, length-drop, get_or-replicate, take-append-drop}
use lib.Seq.{ext_get_or}
use borrow.Author.Tests.{eqb-true, eqb-false, eq-eqb, ne_eqb}
use Rattle.rules.specs.Outcome.{Outcome, refused, given, ◌>>=◌}
use Rattle.rules.specs.Numbers.{keep}
use Rattle.rules.specs.Archive.{byte_at, link_at, kind_of, record_at, is_whole, used_of}
use Rattle.rules.specs.Encoding.{word}
use Rattle.rules.specs.Links.{Link, is_kind, links_at, stands_at, link_places, namers}
use Rattle.rules.specs.Filing.{fresh_bytes, append_after, append}
use Rattle.rules.specs.Audit.{Sound}
use Rattle.rules.specs.ReadBack.{Filing, file_all}
use Rattle.rules.specs.TakeBack.{taken_back, take_back, take_back_times}
use Rattle.rules.specs.Demands.{TakesAppendBack, TakesBackSoundly, TakesFilingsBack}
use Rattle.rules.proofs.Inversion.{given_inj}
use Rattle.rules.proofs.Bytes.{byte_of, record_length}
use Rattle.rules.proofs.Lists.{keep_same, keep_none, keep_append, in_keep, of_keep, sole, of_map}
use Rattle.rules.proofs.Places.{stands_in, in_stands, Stands}
use Rattle.rules.proofs.Sound.{bind_both, Head, head_used, head_room, Leads, ends, leads, Stored, Well, well_sound, sound_well}
use Rattle.rules.proofs.Write.{written, Wrote, wrote, written_again, count_written, place_above, place_below, text_kept, kind_kept, links_kept, places_kept, link_kept}
use Rattle.rules.proofs.Append.{Appending, append_says, link_place, place_zero, room, writing, named_after, well_after}
use Rattle.rules.proofs.TakeBackSteps.{take_back_once}
use Rattle.rules.proofs.ReadBack.{rep_zero, fresh_well, start_is}

abbrev zeros : List ℕ
zeros = replicate 32 0

-- not refused: one link names the last record
takes_back : (archive : List ℕ) (used last place : ℕ) → used ≡ last + 1 → 0 < last → Head archive used → namers archive used last ≡ place ∷ []
    → take_back archive ≡ given (written archive last place zeros 0 last)
unfolding taken_back
takes_back archive used last place is some h e =
    let d : used - 1 ≡ last = omega arith in
    take_back_once archive used (head_used archive used h) (omega arith) place (rw (d, e)) ∙ rw d

-- ---- a sound archive stays sound

module _ (archive : List ℕ) (used last : ℕ) (is : used ≡ last + 1) (some : 0 < last) (well : Well archive used) (named-at : ℕ)
    (one-namer : namers archive used last ≡ named-at ∷ []) where
  naming : Memᴰ named-at (link_places archive used) × (eqb (link_at archive named-at) last ≡ true)
  unfolding namers
  naming =
      of_keep (λ place. eqb (link_at archive place) last) (link_places archive used) named-at
      (subst (λ (l : List ℕ). Memᴰ named-at l) (sym one-namer) (Memᴰ.head refl))

  only_namer : (q : ℕ) → Memᴰ q (link_places archive used) → link_at archive q ≡ last → q ≡ named-at
  unfolding namers
  only_namer q m e =
      Memᴰ.eq_of_singleton (subst (λ (l : List ℕ). Memᴰ q l) one-namer
      (in_keep (λ place. eqb (link_at archive place) last) (link_places archive used) q m (eq-eqb (link_at archive q) last e)))

  -- it stands in an earlier record
  stands : Stands archive last named-at
  stands = let s = in_stands archive used named-at naming.0 in
      record { holder = s.holder; of = s.of; below = earlier s ((well.stored s.holder s.below).links s.of s.has); has = s.has; is = s.is }
    where
      named : (s : Stands archive used named-at) → link_at archive (stands_at s.holder s.of) ≡ last
      named s = ap (link_at archive) (sym s.is) ∙ eqb-true (link_at archive named-at) last naming.1

      earlier : (s : Stands archive used named-at) → Leads archive used s.holder s.of → s.holder < last
      earlier s (ends z) = absurd (omega (arith, named s))
      earlier s (leads above below kind) = omega (arith, named s)

  abbrev later : List ℕ
  later = written archive last named-at zeros 0 last

  wrote_back : Wrote archive last named-at zeros 0 last later
  wrote_back =
      let r = head_room archive used well.head in
      wrote archive last named-at zeros 0 last refl stands (omega arith) (omega arith) (omega arith)

  head_later : Head later last
  head_later =
      let r = well.head.room in
      record {
        whole = rw wrote_back.long well.head.whole;
        text = text_kept wrote_back well.head.text;
        count = wrote_back.counted;
        some = some;
        room = rw wrote_back.long (omega arith);
      }

  -- a link of an earlier record that isn't the one keeps what it names, which isn't the last record
  leads_later : (n : ℕ) (l : Link) → n < last → Memᴰ l (links_at archive n) → Leads later last n l
  leads_later n l h m = go (eqb (stands_at n l) named-at) refl ((well.stored n (omega arith)).links l m)
    where
      kept : (stands_at n l ≡ named-at → ⊥) → link_at later (stands_at n l) ≡ link_at archive (stands_at n l)
      kept d = link_kept wrote_back (stands_at n l) (stands_in archive last n l h m) d

      go : (t : Bool) → eqb (stands_at n l) named-at ≡ t → Leads archive used n l → Leads later last n l
      go true e x = ends (ap (link_at later) (eqb-true (stands_at n l) named-at e) ∙ wrote_back.named)
      go false e (ends z) = ends (kept (eqb-false (stands_at n l) named-at e) ∙ z)
      go false e (leads x y k) =
          let d = eqb-false (stands_at n l) named-at e in
          let v = kept d in
          let other : link_at archive (stands_at n l) ≡ last → ⊥ = λ i. d (only_namer (stands_at n l) (stands_in archive used n l (omega arith) m) i) in
          let below : link_at archive (stands_at n l) < last = omega (arith, other) in
          leads (omega arith) (omega arith) (ap (λ (j : ℕ). kind_of (record_at later j)) v ∙ kind_kept wrote_back (link_at archive (stands_at n l)) below ∙ k)

  stored_later : (n : ℕ) → n < last → Stored later last n
  stored_later n h = record {
    kind = λ z. ap is_kind (kind_kept wrote_back n h) ∙ (well.stored n (omega arith)).kind z;
    links = λ l m. leads_later n l h (subst (λ ls. Memᴰ l ls) (links_kept wrote_back n h) m);
  }

  -- the last record's own links name nothing
  none_last : (n : ℕ) → 0 < n → keep (λ p. eqb (link_at archive p) n) (map (stands_at last) (links_at archive last)) ≡ []
  none_last n z = keep_none (λ p. eqb (link_at archive p) n) _ (λ q m. zero_there q (of_map (stands_at last) (links_at archive last) m))
    where
      ends_there : (l : Link) → Leads archive used last l → link_at archive (stands_at last l) ≡ 0
      ends_there l (ends e) = e
      ends_there l (leads above below kind) = absurd (omega arith)

      zero_there : (q : ℕ) → (l : Link) × Memᴰ l (links_at archive last) × (q ≡ stands_at last l) → eqb (link_at archive q) n ≡ false
      zero_there q w =
          let e : link_at archive q ≡ 0 = ap (link_at archive) w.2 ∙ ends_there w.0 ((well.stored last (omega arith)).links w.0 w.1) in
          ne_eqb (link_at archive q) n (λ i. omega arith)

  namers_before : (n : ℕ) → 0 < n → namers archive used n ≡ keep (λ p. eqb (link_at archive p) n) (link_places archive last)
  unfolding namers link_places
  namers_before n z =
      rw (is, add-one last, keep_append (λ p. eqb (link_at archive p) n) (link_places archive last) (map (stands_at last) (links_at archive last)), none_last n z)
      (append-nil _)

  named_later : (n : ℕ) → 0 < n → n < last → length (namers later last n) ≡ 1
  unfolding namers
  named_later n z h =
      rw (
        places_kept wrote_back last (omega arith),
        keep_same (λ p. eqb (link_at later p) n) (λ p. eqb (link_at archive p) n) (link_places archive last) (λ q m. same q m (eqb q named-at) refl),
      )
      (ap length (sym (namers_before n z)) ∙ well.named n z (omega arith))
    where
      same : (q : ℕ) → Memᴰ q (link_places archive last) → (t : Bool) → eqb q named-at ≡ t → eqb (link_at later q) n ≡ eqb (link_at archive q) n
      same q m true e =
          let p = eqb-true q named-at e in
          let v : link_at later q ≡ 0 = ap (link_at later) p ∙ wrote_back.named in
          let u : link_at archive q ≡ last = ap (link_at archive) p ∙ eqb-true (link_at archive named-at) last naming.1 in
          ne_eqb (link_at later q) n (λ i. omega arith) ∙ sym (ne_eqb (link_at archive q) n (λ i. omega arith))
      same q m false e = ap (λ (x : ℕ). eqb x n) (link_kept wrote_back q m (eqb-false q named-at e))

  soundly_back : (after : List ℕ) × (take_back archive ≡ given after) × (used_of after ≡ given last) × Sound after
  soundly_back = (
    later,
    takes_back archive used last named-at is some well.head one-namer,
    head_used later last head_later,
    well_sound later last (record { head = head_later; stored = stored_later; named = named_later }),
  )

pub takes_back_soundly : TakesBackSoundly
takes_back_soundly archive used s u more =
    let well = sound_well archive used u s in
    let one = sole (namers archive used (used - 1)) (well.named (used - 1) (omega arith) (omega arith)) in
    soundly_back archive used (used - 1) (omega arith) (omega arith) well one.0 one.1

-- ---- an append is taken back

module _ (archive : List ℕ) (owner : ℕ) (new after : List ℕ) (a : Appending archive owner new after) (well : Well archive a.used) where
  abbrev place : ℕ
  place = link_place archive owner new after a

  wrote_new : Wrote archive a.used place new a.used (a.used + 1) after
  wrote_new = writing archive owner new after a

  -- of the later archive's links the last one of the new record's chain names it, and no other
  stands_after : Stands after a.used place
  stands_after =
      let s = wrote_new.stands in
      record { holder = s.holder; of = s.of; below = s.below; has = subst (λ ls. Memᴰ s.of ls) (sym (links_kept wrote_new s.holder s.below)) s.has; is = s.is }

  new_namers : namers after (a.used + 1) a.used ≡ place ∷ []
  unfolding namers
  new_namers =
      let o = sole (namers after (a.used + 1) a.used) (named_after archive owner new after a well a.used a.head.some (omega arith)) in
      o.1 ∙ ap (λ (p : ℕ). p ∷ []) (sym (Memᴰ.eq_of_singleton (subst (λ (l : List ℕ). Memᴰ place l) o.1 inside)))
    where
      inside : Memᴰ place (keep (λ p. eqb (link_at after p) a.used) (link_places after (a.used + 1)))
      inside = in_keep (λ p. eqb (link_at after p) a.used) (link_places after (a.used + 1)) place
          (Memᴰ.cast stands_after.is (stands_in after (a.used + 1) stands_after.holder stands_after.of (omega (arith, stands_after.below)) stands_after.has))
          (eq-eqb (link_at after place) a.used wrote_new.named)

  module _ (count_bytes : (i : ℕ) → i < 4 → byte_at archive (4 + i) ≡ byte_at (word a.used) i) (empty : record_at archive a.used ≡ zeros) where
    pub takes_new_back : take_back after ≡ given archive
    unfolding append_after
    takes_new_back =
        takes_back after (a.used + 1) a.used place refl a.head.some (well_after archive owner new after a well).head new_namers
        ∙ ap given (
        ap₂ (λ (x : List ℕ) (old : List ℕ). written x a.used place old 0 a.used) (sym a.after_is) (sym empty)
        ∙ written_again archive a.used place new a.used (a.used + 1) a.fresh_new.size (place_above wrote_new) (place_below wrote_new)
        (room archive owner new after a).0 (place_zero archive owner new after a) count_bytes)

pub takes_append_back : TakesAppendBack
takes_append_back archive later used owner new bytes s u empty e =
    let a = append_says archive owner new later e in
    let same : used ≡ a.used = given_inj (sym u ∙ head_used archive a.used a.head) in
    takes_new_back archive owner new later a (sound_well archive a.used (head_used archive a.used a.head) s)
    (count_written archive a.used bytes a.head.count) (rw (← same) empty)

-- ---- filings are taken back one by one

-- sound, U as every call writes it, every unused byte zero
record Clean (archive : List ℕ) (used : ℕ) : Type 0 where
  pub well : Well archive used
  pub count_bytes : (i : ℕ) → i < 4 → byte_at archive (4 + i) ≡ byte_at (word used) i
  pub unused : (i : ℕ) → 32 * used ≤ i → byte_at archive i ≡ 0

fresh_clean : (size : ℕ) → is_whole size ≡ true → Clean (fresh_bytes size) 1
unfolding word
fresh_clean size whole = record { well = fresh_well size whole; count_bytes = λ i h. at i h; unused = λ i h. behind i h }
  where
    at : (i : ℕ) → i < 4 → byte_at (fresh_bytes size) (4 + i) ≡ byte_at (word 1) i
    at zero h = refl
    at (suc zero) h = refl
    at (suc (suc zero)) h = refl
    at (suc (suc (suc zero))) h = refl
    at (suc (suc (suc (suc i)))) h = absurd (omega arith)

    behind : (i : ℕ) → 32 * 1 ≤ i → byte_at (fresh_bytes size) i ≡ 0
    behind i h =
        let e : i ≡ suc (suc (suc (suc (suc (suc (suc (suc (i - 8)))))))) = omega arith in
        ap (byte_at (fresh_bytes size)) e ∙ rep_zero size whole (size - 8) (i - 8)

module _ (archive : List ℕ) (f : Filing) (after : List ℕ) (a : Appending archive f.owner f.bytes after) (c : Clean archive a.used) where
  wrote_filing : Wrote archive a.used (link_place archive f.owner f.bytes after a) f.bytes a.used (a.used + 1) after
  wrote_filing = writing archive f.owner f.bytes after a

  clean_after : Clean after (a.used + 1)
  clean_after = record {
    well = well_after archive f.owner f.bytes after a c.well;
    count_bytes = wrote_filing.count_bytes;
    unused = λ i h. wrote_filing.bytes i (inr (omega (arith, a.head.some))) (inr (omega (arith, place_below wrote_filing))) (inr (omega arith)) ∙ c.unused i (omega arith);
  }

  clean_back : take_back after ≡ given archive
  clean_back = takes_new_back archive f.owner f.bytes after a c.well c.count_bytes
      (ext_get_or 0 (record_at archive a.used) zeros long (λ i h. at i (omega (arith, long))))
    where
      long : length (record_at archive a.used) ≡ 32
      long = record_length archive a.used (room archive f.owner f.bytes after a).0

      at : (i : ℕ) → i < 32 → byte_at (record_at archive a.used) i ≡ byte_at zeros i
      at i h = byte_of archive a.used i h ∙ c.unused (32 * a.used + i) (omega arith) ∙ sym (get_or-replicate {A = ℕ} 32 i 0 0 h)

-- what so many filings leave is clean, and as many takings back give the archive before them
filed_back : (fs : List Filing) (archive end : List ℕ) (used : ℕ) → Clean archive used → file_all fs archive ≡ given end
    → (last : ℕ) × Clean end last × (take_back_times (length fs) end ≡ given archive)
unfolding file_all ◌>>=◌
filed_back [] archive end used c e = (used, subst (λ (x : List ℕ). Clean x used) (given_inj e) c, ap given (sym (given_inj e)))
filed_back (f ∷ fs) archive end used c e =
    let b = bind_both (append archive f.owner f.bytes) _ e in
    let a = append_says archive f.owner f.bytes b.0 b.1 in
    let u : used ≡ a.used = sym c.well.head.count ∙ a.head.count in
    let k : Clean archive a.used = subst (λ (n : ℕ). Clean archive n) u c in
    let w = filed_back fs b.0 end (a.used + 1) (clean_after archive f b.0 a k) b.2 in
    (w.0, w.1, rw w.2 (clean_back archive f b.0 a k))

filed_on_from : (fs gs : List Filing) (archive : List ℕ) → file_all (fs ++ gs) archive ≡ (file_all fs archive >>= λ middle. file_all gs middle)
unfolding file_all ◌>>=◌
filed_on_from [] gs archive = refl
filed_on_from (f ∷ fs) gs archive = go (append archive f.owner f.bytes) (λ next. filed_on_from fs gs next)
  where
    go : (o : Outcome (List ℕ)) → ((next : List ℕ) → file_all (fs ++ gs) next ≡ (file_all fs next >>= λ middle. file_all gs middle))
        → (o >>= λ next. file_all (fs ++ gs) next) ≡ ((o >>= λ next. file_all fs next) >>= λ middle. file_all gs middle)
    go (refused n) rest = refl
    go (given next) rest = rest next

pub takes_filings_back : TakesFilingsBack
takes_filings_back archive start end filings times e f h =
    let s = start_is archive start e in
    let c : Clean start 1 = subst (λ (x : List ℕ). Clean x 1) s.1 (fresh_clean (length archive) s.0) in
    let fs = take (length filings - times) filings in
    let gs = drop (length filings - times) filings in
    let b = bind_both (file_all fs start) (λ middle. file_all gs middle)
    (sym (filed_on_from fs gs start) ∙ ap (λ (l : List Filing). file_all l start) (take-append-drop (length filings - times) filings) ∙ f) in
    let m = filed_back fs start b.0 1 c b.1 in
    let w = filed_back gs b.0 end m.0 m.1 b.2 in
    let n : length gs ≡ times = length-drop (length filings - times) filings ∙ omega arith in
    sym (ap (λ (k : ℕ). take_back_times k end) n) ∙ w.2 ∙ sym b.1
