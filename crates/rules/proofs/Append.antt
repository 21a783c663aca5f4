-- Append: what a call that isn't refused met and wrote; on a sound archive it leaves a sound one.
use mathlib.Core.Path.{◌≡◌, refl, sym, ◌∙◌, ap, ap₂, subst}
use mathlib.Core.Bool.{Bool, true, false, cond}
use mathlib.Core.List.Memᴰ
use mathlib.Core.List.{List, [], ◌∷◌, ◌++◌, map, Memᴰ}
use Prim.Native.Nat.{ℕ, ◌+◌, ◌*◌, ◌/◌, ◌≤◌, ◌<◌}
use native.Mathlib.Omega.{arith}
use native.Mathlib.Numerals.{add-one}
use lib.Dec.{eqb, ltb}
use lib.ListN.{length}
use borrow.Author.Tests.{eqb-true, eqb-false, eq-eqb, ne_eqb, ltb-true}
use Rattle.rules.specs.Outcome.{given}
use Rattle.rules.specs.Numbers.{keep, all}
use Rattle.rules.specs.Archive.{link_at, kind_of, record_at, used_of, chain}
use Rattle.rules.specs.Links.{Link, link, is_kind, links_of, owned_at, links_at, stands_at, link_places, namers}
use Rattle.rules.specs.Filing.{new_allowed, offset_in, offset_for, last_place, append_after, append}
use Rattle.rules.proofs.Bytes.{link_of}
use Rattle.rules.proofs.Lists.{keep_same, keep_none, keep_append, apart_once, of_map}
use Rattle.rules.proofs.Places.{places_apart, at_within, owned_in, one_place, next_in, stands_in, in_stands, Stands}
use Rattle.rules.proofs.Inversion.{given_inj}
use Rattle.rules.proofs.Sound.{bind_both, required, both, Head, used_head, whole_length, Leads, ends, leads, Stored, Well}
use Rattle.rules.proofs.Runs.{Runs, last_at, last_is, chain_runs, last_ends}
use Rattle.rules.proofs.Write.{Wrote, wrote, place_in, text_kept, kind_kept, links_kept, places_kept, link_kept}

-- ---- the new record

pub record New (new : List ℕ) : Type 0 where
  pub size : length new ≡ 32
  pub known : is_kind (kind_of new) ≡ true
  pub zero_links : (l : Link) → Memᴰ l (links_of new) → link_at new l.at ≡ 0

all_of : {A : Type 0} (f : A → Bool) (l : List A) (a : A) → all f l ≡ true → Memᴰ a l → f a ≡ true
all_of f [] a e m = absurd (Memᴰ.not-nil m)
all_of f (b ∷ l) a e (Memᴰ.head i) = ap f i ∙ (both (f b) (all f l) e).0
all_of f (b ∷ l) a e (Memᴰ.tail m) = all_of f l a (both (f b) (all f l) e).1 m

pub allowed_new : (new : List ℕ) → new_allowed new ≡ true → New new
allowed_new new e =
    let a = both (eqb (length new) 32) _ e in
    let b = both (is_kind (kind_of new)) _ a.1 in
    record {
      size = eqb-true (length new) 32 a.0;
      known = b.0;
      zero_links = λ l m. eqb-true (link_at new l.at) 0 (all_of (λ l. eqb (link_at new l.at) 0) (links_of new) l b.1 m);
    }

-- ---- the owner's link

offset_in_lem : (ls : List Link) (kind offset : ℕ) → offset_in ls kind ≡ given offset → Memᴰ (link offset kind) ls
offset_in_lem [] kind offset e = let z : ◌≡◌ {A = ℕ} 0 1 = cc in absurd (omega arith)
offset_in_lem (l ∷ ls) kind offset e = go (eqb l.to kind) refl e (offset_in_lem ls kind offset)
  where
    go : (t : Bool) → eqb l.to kind ≡ t → cond t (given l.at) (offset_in ls kind) ≡ given offset → (offset_in ls kind ≡ given offset → Memᴰ (link offset kind) ls)
        → Memᴰ (link offset kind) (l ∷ ls)
    go true i e f = let a : l.at ≡ offset = cc in Memᴰ.head (ap₂ link (sym a) (sym (eqb-true l.to kind i)))
    go false i e f = Memᴰ.tail (f e)

pub record Owned (archive : List ℕ) (used owner kind offset : ℕ) : Type 0 where
  pub below : owner < used
  pub has : Memᴰ (link offset kind) (owned_at archive owner)

pub offset_owned : (archive : List ℕ) (used owner kind offset : ℕ) → offset_for archive used owner kind ≡ given offset → Owned archive used owner kind offset
unfolding offset_for
offset_owned archive used owner kind offset e =
    let a = required (ltb owner used) 15 (offset_in (owned_at archive owner) kind) e in
    record { below = ltb-true owner used a.0; has = offset_in_lem (owned_at archive owner) kind offset a.1 }

-- ---- what an append that isn't refused met

pub record Appending (archive : List ℕ) (owner : ℕ) (new after : List ℕ) : Type 0 where
  pub used : ℕ
  pub offset : ℕ
  pub passed : List ℕ
  pub head : Head archive used
  pub fresh_new : New new
  pub offset_is : offset_for archive used owner (kind_of new) ≡ given offset
  pub runs : Runs archive used (kind_of new) owner (32 * owner + offset) passed
  pub free : used < length archive / 32
  pub after_is : append_after archive used (last_at (32 * owner + offset) passed) new ≡ after

pub append_says : (archive : List ℕ) (owner : ℕ) (new after : List ℕ) → append archive owner new ≡ given after → Appending archive owner new after
unfolding append
append_says archive owner new after e =
    let a = bind_both (used_of archive) _ e in
    let b = required (new_allowed new) 14 _ a.2 in
    let c = bind_both (offset_for archive a.0 owner (kind_of new)) _ b.1 in
    let d = bind_both (chain archive a.0 (kind_of new) owner (link_at archive (32 * owner + c.0))) _ c.2 in
    let f = required (ltb a.0 (length archive / 32)) 16 _ d.2 in
    let r = chain_runs archive a.0 (kind_of new) owner (32 * owner + c.0) d.0 d.1 in
    record {
      used = a.0;
      offset = c.0;
      passed = r.0;
      head = used_head archive a.0 a.1;
      fresh_new = allowed_new new b.0;
      offset_is = c.1;
      runs = r.1;
      free = ltb-true a.0 (length archive / 32) f.0;
      after_is = ap (λ (p : ℕ). append_after archive a.0 p new) (sym (last_is archive (32 * owner + c.0) r.0) ∙ ap (last_place (32 * owner + c.0)) (sym r.2)) ∙ given_inj f.1;
    }

-- the last link of the chain, as a link of the archive
pub record Last (archive : List ℕ) (used kind place : ℕ) : Type 0 where
  pub stands : Stands archive used place
  pub to : stands.of.to ≡ kind

last_link : (archive : List ℕ) (used kind holder : ℕ) (l : Link) (ns : List ℕ) → is_kind kind ≡ true → holder < used → Memᴰ l (links_at archive holder) → l.to ≡ kind
    → Runs archive used kind holder (stands_at holder l) ns → Last archive used kind (last_at (stands_at holder l) ns)
last_link archive used kind holder l [] k h m e r = record { stands = record { holder = holder; of = l; below = h; has = m; is = refl }; to = e }
last_link archive used kind holder l (n ∷ ns) k h m e r =
    let above = r.1 in
    last_link archive used kind n (link 4 (kind_of (record_at archive n))) ns k r.2 (next_in archive n (omega arith) (ap is_kind r.3 ∙ k)) r.3 r.4

module _ (archive : List ℕ) (owner : ℕ) (new after : List ℕ) (a : Appending archive owner new after) where
  abbrev pub used_before : ℕ
  used_before = a.used

  abbrev pub start_place : ℕ
  start_place = 32 * owner + a.offset

  abbrev pub link_place : ℕ
  link_place = last_at start_place a.passed

  pub owned : Owned archive used_before owner (kind_of new) a.offset
  owned = offset_owned archive used_before owner (kind_of new) a.offset a.offset_is

  pub last : Last archive used_before (kind_of new) link_place
  last =
      last_link archive used_before (kind_of new) owner (link a.offset (kind_of new)) a.passed a.fresh_new.known owned.below
      (owned_in archive owner (link a.offset (kind_of new)) owned.has) refl a.runs

  pub place_zero : link_at archive link_place ≡ 0
  place_zero = last_ends archive used_before (kind_of new) owner start_place a.passed a.runs

  pub room : (32 * used_before + 32 ≤ length archive) × (used_before < 65535)
  room =
      let w = whole_length (length archive) a.head.whole in
      let f = a.free in
      omega arith

  pub writing : Wrote archive used_before link_place new used_before (used_before + 1) after
  unfolding append_after
  writing =
      subst (λ (x : List ℕ). Wrote archive used_before link_place new used_before (used_before + 1) x) a.after_is
      (wrote archive used_before link_place new used_before (used_before + 1) a.fresh_new.size last.stands room.0
      (omega (arith, room)) (omega (arith, room)))

  -- ---- the new record's own links

  new_links : links_at after used_before ≡ links_of new
  unfolding links_at
  new_links = let s = a.head.some in rw (ne_eqb used_before 0 (λ z. omega arith), writing.filed)

  pub new_zero : (l : Link) → Memᴰ l (links_at after used_before) → link_at after (stands_at used_before l) ≡ 0
  new_zero l m =
      let w = at_within after used_before l m in
      sym (link_of after used_before l.at w.1) ∙ ap (λ r. link_at r l.at) writing.filed ∙ a.fresh_new.zero_links l (subst (λ ls. Memᴰ l ls) new_links m)

  -- ---- a sound archive stays sound

  head_after : Head after (used_before + 1)
  head_after =
      let f = a.free in
      record {
        whole = rw writing.long a.head.whole;
        text = text_kept writing a.head.text;
        count = writing.counted;
        some = omega arith;
        room = rw writing.long (omega arith);
      }

  module _ (well : Well archive used_before) where
    leads_after : (n : ℕ) (l : Link) → n < used_before → Memᴰ l (links_at archive n) → Leads after (used_before + 1) n l
    leads_after n l h m = go (eqb (stands_at n l) link_place) refl ((well.stored n h).links l m)
      where
        kept : (stands_at n l ≡ link_place → ⊥) → link_at after (stands_at n l) ≡ link_at archive (stands_at n l)
        kept d = link_kept writing (stands_at n l) (stands_in archive used_before n l h m) d

        go : (t : Bool) → eqb (stands_at n l) link_place ≡ t → Leads archive used_before n l → Leads after (used_before + 1) n l
        go true e x =
            let p = eqb-true (stands_at n l) link_place e in
            let o = one_place archive n last.stands.holder l last.stands.of m last.stands.has (p ∙ last.stands.is) in
            let v : link_at after (stands_at n l) ≡ used_before = ap (link_at after) p ∙ writing.named in
            leads (omega arith) (omega arith) (ap (λ (k : ℕ). kind_of (record_at after k)) v ∙ ap kind_of writing.filed ∙ sym last.to ∙ ap (λ k. k.to) (sym o.1))
        go false e (ends z) = ends (kept (eqb-false (stands_at n l) link_place e) ∙ z)
        go false e (leads x y k) =
            let v = kept (eqb-false (stands_at n l) link_place e) in
            leads (omega arith) (omega arith) (ap (λ (k : ℕ). kind_of (record_at after k)) v ∙ kind_kept writing (link_at archive (stands_at n l)) y ∙ k)

    stored_after : (n : ℕ) → n < used_before + 1 → Stored after (used_before + 1) n
    stored_after n h = go (eqb n used_before) refl
      where
        old : n < used_before → Stored after (used_before + 1) n
        old h = record {
          kind = λ z. ap is_kind (kind_kept writing n h) ∙ (well.stored n h).kind z;
          links = λ l m. leads_after n l h (subst (λ ls. Memᴰ l ls) (links_kept writing n h) m);
        }

        newest : Stored after (used_before + 1) used_before
        newest = record { kind = λ z. ap (λ r. is_kind (kind_of r)) writing.filed ∙ a.fresh_new.known; links = λ l m. ends (new_zero l m) }

        go : (t : Bool) → eqb n used_before ≡ t → Stored after (used_before + 1) n
        go true e = subst (λ (k : ℕ). Stored after (used_before + 1) k) (sym (eqb-true n used_before e)) newest
        go false e = old (omega (arith, eqb-false n used_before e))

    places_after : link_places after (used_before + 1) ≡ link_places archive used_before ++ map (stands_at used_before) (links_at after used_before)
    unfolding link_places
    places_after = rw (add-one, places_kept writing used_before (omega arith))

    -- the new record's links name nothing
    none_new : (n : ℕ) → 0 < n → keep (λ p. eqb (link_at after p) n) (map (stands_at used_before) (links_at after used_before)) ≡ []
    none_new n z = keep_none (λ p. eqb (link_at after p) n) _ (λ q m. zero_there q (of_map (stands_at used_before) (links_at after used_before) m))
      where
        zero_there : (q : ℕ) → (l : Link) × Memᴰ l (links_at after used_before) × (q ≡ stands_at used_before l) → eqb (link_at after q) n ≡ false
        zero_there q w = let e : link_at after q ≡ 0 = ap (link_at after) w.2 ∙ new_zero w.0 w.1 in ne_eqb (link_at after q) n (λ i. omega arith)

    namers_after : (n : ℕ) → 0 < n → namers after (used_before + 1) n ≡ keep (λ p. eqb (link_at after p) n) (link_places archive used_before)
    unfolding namers
    namers_after n z =
        rw (places_after, keep_append (λ p. eqb (link_at after p) n) (link_places archive used_before) (map (stands_at used_before) (links_at after used_before)), none_new n z)
        (mathlib.Core.List.append-nil _)

    pub named_after : (n : ℕ) → 0 < n → n < used_before + 1 → length (namers after (used_before + 1) n) ≡ 1
    unfolding namers
    named_after n z h = ap length (namers_after n z) ∙ go (eqb n used_before) refl
      where
        below : (q : ℕ) → Memᴰ q (link_places archive used_before) → link_at archive q < used_before
        below q m = let s = in_stands archive used_before q m in at_most s ((well.stored s.holder s.below).links s.of s.has)
          where
            at_most : (s : Stands archive used_before q) → Leads archive used_before s.holder s.of → link_at archive q < used_before
            at_most s (ends e) = let i : link_at archive q ≡ 0 = ap (link_at archive) s.is ∙ e in let b = s.below in omega arith
            at_most s (leads x y k) = rw s.is y

        old : (n ≡ used_before → ⊥) → (q : ℕ) → Memᴰ q (link_places archive used_before) → eqb (link_at after q) n ≡ eqb (link_at archive q) n
        old d q m = by (eqb q link_place) refl
          where
            by : (t : Bool) → eqb q link_place ≡ t → eqb (link_at after q) n ≡ eqb (link_at archive q) n
            by true e =
                let p = eqb-true q link_place e in
                let v : link_at after q ≡ used_before = ap (link_at after) p ∙ writing.named in
                let w : link_at archive q ≡ 0 = ap (link_at archive) p ∙ place_zero in
                ne_eqb (link_at after q) n (λ i. d (sym i ∙ v)) ∙ sym (ne_eqb (link_at archive q) n (λ i. omega arith))
            by false e = ap (λ (x : ℕ). eqb x n) (link_kept writing q m (eqb-false q link_place e))

        newest : n ≡ used_before → (q : ℕ) → Memᴰ q (link_places archive used_before) → eqb (link_at after q) n ≡ eqb q link_place
        newest d q m = by (eqb q link_place) refl
          where
            by : (t : Bool) → eqb q link_place ≡ t → eqb (link_at after q) n ≡ t
            by true e = eq-eqb (link_at after q) n (ap (link_at after) (eqb-true q link_place e) ∙ writing.named ∙ sym d)
            by false e = let k = link_kept writing q m (eqb-false q link_place e) in let b = below q m in ne_eqb (link_at after q) n (λ i. omega arith)

        go : (t : Bool) → eqb n used_before ≡ t → length (keep (λ p. eqb (link_at after p) n) (link_places archive used_before)) ≡ 1
        go true e =
            ap length (keep_same (λ p. eqb (link_at after p) n) (λ p. eqb p link_place) (link_places archive used_before) (newest (eqb-true n used_before e)))
            ∙ apart_once (32 * used_before) 0 link_place (link_places archive used_before) (places_apart archive used_before) (place_in writing)
        go false e =
            ap length (keep_same (λ p. eqb (link_at after p) n) (λ p. eqb (link_at archive p) n) (link_places archive used_before) (old (eqb-false n used_before e)))
            ∙ was (well.named n z (omega (arith, eqb-false n used_before e)))
          where
            was : length (namers archive used_before n) ≡ 1 → length (keep (λ p. eqb (link_at archive p) n) (link_places archive used_before)) ≡ 1
            was e = e

    pub well_after : Well after (used_before + 1)
    well_after = record { head = head_after; stored = stored_after; named = named_after }
