-- What audit finds sound: kinds, links and names as facts, and back.
use mathlib.Core.Path.{◌≡◌, refl, sym, ◌∙◌, ap, subst}
use mathlib.Core.Bool.{Bool, true, false, cond, ◌&&◌, ◌||◌}
use mathlib.Core.List.Memᴰ
use mathlib.Core.List.{List, [], ◌∷◌, Memᴰ}
use Prim.Native.Nat.{ℕ, zero, suc, ◌*◌, ◌/◌, ◌%◌, ◌≤◌, ◌<◌}
use native.Mathlib.Omega.{arith}
use lib.Dec.{eqb, leb, ltb}
use lib.ListN.{length}
use borrow.Author.Tests.{eqb-true, eqb-false, eq-eqb, ne_eqb, leb-true, le-leb, ltb-true, lt-ltb}
use Rattle.rules.specs.Outcome.{Outcome, refused, given, ◌>>=◌, ◌>>◌, require}
use Rattle.rules.specs.Archive.{link_at, kind_of, record_at, is_text, is_whole, used_of, follow}
use Rattle.rules.specs.Links.{Link, is_kind, links_at, stands_at, namers}
use Rattle.rules.specs.Audit.{link_checked, links_checked, record_checked, records_checked, named_once, audit, Sound}
use Rattle.rules.proofs.Inversion.{given_inj}
use Rattle.rules.proofs.Bytes.{link_of}

-- ---- outcomes taken apart

pub then_both : {A B : Type 0} {b : B} (m : Outcome A) (k : Outcome B) → (m >> k) ≡ given b → ((a : A) × (m ≡ given a)) × (k ≡ given b)
unfolding ◌>>◌
then_both (refused n) k e = let z : ◌≡◌ {A = ℕ} 0 1 = cc in absurd (omega arith)
then_both (given a) k e = ((a, refl), e)

pub bind_both : {A B : Type 0} {b : B} (m : Outcome A) (f : A → Outcome B) → (m >>= f) ≡ given b → (a : A) × (m ≡ given a) × (f a ≡ given b)
unfolding ◌>>=◌
bind_both (refused n) f e = let z : ◌≡◌ {A = ℕ} 0 1 = cc in absurd (omega arith)
bind_both (given a) f e = (a, refl, e)

pub required : {B : Type 0} {b : B} (t : Bool) (n : ℕ) (k : Outcome B) → (require t n >> k) ≡ given b → (t ≡ true) × (k ≡ given b)
unfolding ◌>>◌ require
required true n k e = (refl, e)
required false n k e = let z : ◌≡◌ {A = ℕ} 0 1 = cc in absurd (omega arith)

pub passed : (t : Bool) (n : ℕ) → require t n ≡ given tt → t ≡ true
unfolding require
passed true n e = refl
passed false n e = let z : ◌≡◌ {A = ℕ} 0 1 = cc in absurd (omega arith)

pub both : (t u : Bool) → (t && u) ≡ true → (t ≡ true) × (u ≡ true)
both true u e = (refl, e)
both false u e = let z : ◌≡◌ {A = ℕ} 0 1 = cc in absurd (omega arith)

-- ---- the head

pub record Head (archive : List ℕ) (used : ℕ) : Type 0 where
  pub whole : is_whole (length archive) ≡ true
  pub text : is_text (record_at archive 0) ≡ true
  pub count : link_at archive 4 ≡ used
  pub some : 1 ≤ used
  pub room : used ≤ length archive / 32

pub used_head : (archive : List ℕ) (used : ℕ) → used_of archive ≡ given used → Head archive used
unfolding used_of
used_head archive used e =
    let a = required _ 1 _ e in
    let b = required _ 1 _ a.1 in
    let c = required _ 1 _ b.1 in
    let count : link_at (record_at archive 0) 4 ≡ used = given_inj c.1 in
    let d = both (leb 1 (link_at (record_at archive 0) 4)) _ c.0 in
    record {
      whole = a.0;
      text = b.0;
      count = sym (link_of archive 0 4 (omega arith)) ∙ count;
      some = leb-true 1 used (ap (λ (n : ℕ). leb 1 n) (sym count) ∙ d.0);
      room = leb-true used (length archive / 32) (ap (λ (n : ℕ). leb n (length archive / 32)) (sym count) ∙ d.1);
    }

pub head_used : (archive : List ℕ) (used : ℕ) → Head archive used → used_of archive ≡ given used
unfolding used_of ◌>>◌ require
head_used archive used h =
    let e : link_at (record_at archive 0) 4 ≡ used = link_of archive 0 4 (omega arith) ∙ h.count in
    rw (h.whole, h.text, e, le-leb 1 used h.some, le-leb used (length archive / 32) h.room)

pub whole_length : (n : ℕ) → is_whole n ≡ true → (n ≡ 32 * (n / 32)) × (n / 32 ≤ 65535) × (1 ≤ n / 32)
whole_length n e =
    let a = both (eqb (n % 32) 0 && leb 1 (n / 32)) _ e in
    let b = both (eqb (n % 32) 0) _ a.0 in
    let z = eqb-true (n % 32) 0 b.0 in
    let l = leb-true 1 (n / 32) b.1 in
    let u = leb-true (n / 32) 65535 a.1 in
    omega arith

pub head_room : (archive : List ℕ) (used : ℕ) → Head archive used → (32 * used ≤ length archive) × (used ≤ 65535)
head_room archive used h = let w = whole_length (length archive) h.whole in let r = h.room in omega arith

-- ---- links

abbrev pub fine : Outcome (Unit {0})
fine = given tt

module _ (archive : List ℕ) (used : ℕ) where
  -- a link is zero, or above its holder, below U and to the right kind
  pub data Leads (n : ℕ) (l : Link) : Type 0 where
    ends : link_at archive (stands_at n l) ≡ 0 → Leads n l
    leads : n < link_at archive (stands_at n l) → link_at archive (stands_at n l) < used → kind_of (record_at archive (link_at archive (stands_at n l))) ≡ l.to → Leads n l

  pub checked_leads : (n : ℕ) (l : Link) → link_checked archive used n l ≡ given tt → Leads n l
  unfolding link_checked follow
  checked_leads n l = go (eqb (link_at archive (stands_at n l)) 0) refl
    where
      go : (t : Bool) → eqb (link_at archive (stands_at n l)) 0 ≡ t
          → cond t fine (follow archive used l.to n (link_at archive (stands_at n l)) >> fine) ≡ fine → Leads n l
      go true z e = ends (eqb-true (link_at archive (stands_at n l)) 0 z)
      go false z e =
          let a = then_both (follow archive used l.to n (link_at archive (stands_at n l))) (given tt) e in
          let b = required _ 2 _ a.0.1 in
          let c = required _ 3 _ b.1 in
          let d = both (ltb n (link_at archive (stands_at n l))) _ b.0 in
          leads (ltb-true n (link_at archive (stands_at n l)) d.0) (ltb-true (link_at archive (stands_at n l)) used d.1) (eqb-true _ l.to c.0)

  pub leads_checked : (n : ℕ) (l : Link) → Leads n l → link_checked archive used n l ≡ given tt
  unfolding link_checked follow ◌>>◌ require
  leads_checked n l (ends z) = rw (eq-eqb (link_at archive (stands_at n l)) 0 z)
  leads_checked n l (leads above below kind) =
      rw (ne_eqb (link_at archive (stands_at n l)) 0 (λ z. omega arith), lt-ltb n (link_at archive (stands_at n l)) above, lt-ltb (link_at archive (stands_at n l)) used below, eq-eqb _ l.to kind)

  links_checked_lem : (n : ℕ) (ls : List Link) → links_checked archive used n ls ≡ given tt → (l : Link) → Memᴰ l ls → Leads n l
  links_checked_lem n [] e l m = absurd (Memᴰ.not-nil m)
  links_checked_lem n (k ∷ ks) e l (Memᴰ.head h) =
      let a = then_both (link_checked archive used n k) (links_checked archive used n ks) e in
      subst (λ x. Leads n x) (sym h) (checked_leads n k a.0.1)
  links_checked_lem n (k ∷ ks) e l (Memᴰ.tail m) =
      links_checked_lem n ks (then_both (link_checked archive used n k) (links_checked archive used n ks) e).1 l m

  checked_links : (n : ℕ) (ls : List Link) → ((l : Link) → Memᴰ l ls → Leads n l) → links_checked archive used n ls ≡ given tt
  unfolding ◌>>◌
  checked_links n [] h = refl
  checked_links n (k ∷ ks) h = rw (leads_checked n k (h k (Memᴰ.head refl)), checked_links n ks (λ l m. h l (Memᴰ.tail m)))

  pub record Stored (n : ℕ) : Type 0 where
    pub kind : 0 < n → is_kind (kind_of (record_at archive n)) ≡ true
    pub links : (l : Link) → Memᴰ l (links_at archive n) → Leads n l

  record_stored : (n : ℕ) → record_checked archive used n ≡ given tt → Stored n
  unfolding record_checked
  record_stored n e =
      let a = required _ 3 _ e in
      record { kind = λ h. known h a.0; links = links_checked_lem n (links_at archive n) a.1 }
    where
      known : 0 < n → (eqb n 0 || is_kind (kind_of (record_at archive n))) ≡ true → is_kind (kind_of (record_at archive n)) ≡ true
      known h t = rw (ne_eqb n 0 (λ z. omega arith)) at t

  stored_record : (n : ℕ) → Stored n → record_checked archive used n ≡ given tt
  unfolding record_checked ◌>>◌ require
  stored_record n s = go (eqb n 0) refl
    where
      go : (t : Bool) → eqb n 0 ≡ t → (require (eqb n 0 || is_kind (kind_of (record_at archive n))) 3 >> links_checked archive used n (links_at archive n)) ≡ given tt
      go true z = rw z (checked_links n (links_at archive n) s.links)
      go false z = rw (z, s.kind (above z)) (checked_links n (links_at archive n) s.links)
        where
          above : eqb n 0 ≡ false → 0 < n
          above z = omega (arith, eqb-false n 0 z)

  all_stored : (k : ℕ) → records_checked archive used k ≡ given tt → (n : ℕ) → n < k → Stored n
  all_stored zero e n h = absurd (omega arith)
  all_stored (suc k) e n h = go (eqb n k) refl (all_stored k (a.0.1 ∙ ap given refl) n)
    where
      a : ((x : Unit {0}) × (records_checked archive used k ≡ given x)) × (record_checked archive used k ≡ given tt)
      a = then_both (records_checked archive used k) (record_checked archive used k) e

      go : (t : Bool) → eqb n k ≡ t → (n < k → Stored n) → Stored n
      go true z f = subst Stored (sym (eqb-true n k z)) (record_stored k a.1)
      go false z f = f (omega (arith, eqb-false n k z))

  stored_all : (k : ℕ) → ((n : ℕ) → n < k → Stored n) → records_checked archive used k ≡ given tt
  unfolding ◌>>◌
  stored_all zero h = refl
  stored_all (suc k) h = rw (stored_all k (λ n i. h n (omega arith))) (stored_record k (h k (omega arith)))

  all_named : (k : ℕ) → named_once archive used k ≡ true → (n : ℕ) → 0 < n → n < k → length (namers archive used n) ≡ 1
  all_named zero e n z h = absurd (omega arith)
  all_named (suc k) e n z h = go (eqb n k) refl (all_named k a.0 n z)
    where
      a : (named_once archive used k ≡ true) × ((eqb k 0 || eqb (length (namers archive used k)) 1) ≡ true)
      a = both (named_once archive used k) _ e

      at_k : n ≡ k → (eqb k 0 || eqb (length (namers archive used k)) 1) ≡ true → length (namers archive used n) ≡ 1
      at_k i t = ap (λ (m : ℕ). length (namers archive used m)) i ∙ eqb-true _ 1 (rw (ne_eqb k 0 (λ y. omega arith)) at t)

      go : (t : Bool) → eqb n k ≡ t → (n < k → length (namers archive used n) ≡ 1) → length (namers archive used n) ≡ 1
      go true i f = at_k (eqb-true n k i) a.1
      go false i f = f (omega (arith, eqb-false n k i))

  named_all : (k : ℕ) → ((n : ℕ) → 0 < n → n < k → length (namers archive used n) ≡ 1) → named_once archive used k ≡ true
  named_all zero h = refl
  named_all (suc k) h = rw (named_all k (λ n z i. h n z (omega arith))) (go (eqb k 0) refl)
    where
      go : (t : Bool) → eqb k 0 ≡ t → (eqb k 0 || eqb (length (namers archive used k)) 1) ≡ true
      go true e = rw e
      go false e = rw (e, h k (omega (arith, eqb-false k 0 e)) (omega arith))

-- ---- a sound archive

pub record Well (archive : List ℕ) (used : ℕ) : Type 0 where
  pub head : Head archive used
  pub stored : (n : ℕ) → n < used → Stored archive used n
  pub named : (n : ℕ) → 0 < n → n < used → length (namers archive used n) ≡ 1

pub well_sound : (archive : List ℕ) (used : ℕ) → Well archive used → Sound archive
unfolding audit ◌>>=◌ ◌>>◌ require
well_sound archive used w = rw (head_used archive used w.head, stored_all archive used used w.stored, named_all archive used used w.named)

pub sound_well : (archive : List ℕ) (used : ℕ) → used_of archive ≡ given used → Sound archive → Well archive used
unfolding audit ◌>>=◌
sound_well archive used u s =
    let e = rw u at s in
    let a = then_both (records_checked archive used used) (require (named_once archive used used) 17) e in
    record {
      head = used_head archive used u;
      stored = all_stored archive used used a.0.1;
      named = all_named archive used used (passed (named_once archive used used) 17 a.1);
    }
