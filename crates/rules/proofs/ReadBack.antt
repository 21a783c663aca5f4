-- Records filed one by one into a fresh archive are read again along their chains, in that order, each as filed but for its links.
use mathlib.Core.Path.{◌≡◌, refl, sym, ◌∙◌, ap, subst}
use mathlib.Core.Bool.{Bool, true, false, cond, ◌&&◌}
use mathlib.Core.List.Memᴰ
use mathlib.Core.List.{List, [], ◌∷◌, ◌++◌, map, append-nil, append_assoc, Memᴰ}
use mathlib.Core.Logic.{◌⊎◌, inl, inr}
use Prim.Native.Nat.{ℕ, zero, suc, ◌+◌, ◌*◌, ◌-◌, ◌/◌, ◌≤◌, ◌<◌}
use native.Mathlib.Omega.{arith}
use lib.Dec.{eqb}
use lib.ListN.{length, get_or, replicate, length-replicate}
use borrow.Author.Tests.{lt-ltb}
use Rattle.rules.specs.Outcome.{Outcome, refused, given, ◌>>=◌, ◌>>◌, require}
use Rattle.rules.specs.Archive.{byte_at, link_at, kind_of, record_at, is_whole, Entry, entry_at}
use Rattle.rules.specs.Links.{Link, links_of, is_link_byte, links_at}
use Rattle.rules.specs.Filing.{fresh_bytes, fresh, offset_for, last_place, append_after, append}
use Rattle.rules.specs.ReadBack.{Filing, file_all, filed_under, unlinked, but_links, read_under, read_back, no_filing}
use Rattle.rules.specs.Demands.{ReadAgain, StaysSound, Files}
use Rattle.rules.proofs.Bytes.{record_length}
use Rattle.rules.proofs.Places.{links_within, link_bytes}
use Rattle.rules.proofs.Unlinked.{unlinked_byte}
use Rattle.rules.proofs.Inversion.{given_inj}
use Rattle.rules.proofs.Sound.{bind_both, head_room, required, whole_length, Head, head_used, Leads, ends, Stored, Well, well_sound, sound_well}
use Rattle.rules.proofs.Runs.{Runs, runs_chain}
use Rattle.rules.proofs.Append.{Appending, append_says, offset_owned, writing, well_after}
use Rattle.rules.proofs.Read.{reads, read_runs, listed, listed_none, listed_runs, new_unlinked, unlinked_kept, offset_kept, filed_here, listed_after}

-- ---- a fresh archive

module _ (size : ℕ) (whole : is_whole size ≡ true) where
  pub rep_zero : (n i : ℕ) → byte_at (replicate n 0) i ≡ 0
  rep_zero zero i = refl
  rep_zero (suc n) zero = refl
  rep_zero (suc n) (suc i) = rep_zero n i

  fresh_size : length (fresh_bytes size) ≡ size
  fresh_size = let w = whole_length size whole in rw (length-replicate {A = ℕ} (size - 8) 0) (omega arith)

  fresh_first : link_at (fresh_bytes size) 8 ≡ 0
  unfolding link_at
  fresh_first = rw (rep_zero (size - 8) 0, rep_zero (size - 8) 1, rep_zero (size - 8) 2, rep_zero (size - 8) 3)

  fresh_count : link_at (fresh_bytes size) 4 ≡ 1
  unfolding link_at
  fresh_count = refl

  fresh_head_lem : Head (fresh_bytes size) 1
  unfolding record_at
  fresh_head_lem =
      let w = whole_length size whole in
      record { whole = rw fresh_size whole; text = refl; count = fresh_count; some = omega arith; room = rw fresh_size (omega arith) }

  pub fresh_well : Well (fresh_bytes size) 1
  unfolding links_at
  fresh_well = record { head = fresh_head_lem; stored = λ n h. at n h; named = λ n z h. absurd (omega arith) }
    where
      first : (l : Link) → Memᴰ l (links_at (fresh_bytes size) 0) → Leads (fresh_bytes size) 1 0 l
      first l m = subst (λ (k : Link). Leads (fresh_bytes size) 1 0 k) (sym (Memᴰ.eq_of_singleton m)) (ends fresh_first)

      at : (n : ℕ) → n < 1 → Stored (fresh_bytes size) 1 n
      at zero h = record { kind = λ z. absurd (omega arith); links = first }
      at (suc n) h = absurd (omega arith)

-- an archive with the head alone has no records to list
pub none_listed : (archive : List ℕ) → Well archive 1 → (own kind : ℕ) → listed archive 1 own kind ≡ []
none_listed archive well own kind = go (offset_for archive 1 own kind) refl
  where
    short : (offset : ℕ) (ns : List ℕ) → offset_for archive 1 own kind ≡ given offset → Runs archive 1 kind own (32 * own + offset) ns → listed archive 1 own kind ≡ []
    short offset [] e r = listed_runs archive 1 own kind offset [] e r
    short offset (n ∷ ns) e r = let a = r.1 in let b = r.2 in absurd (omega arith)

    go : (o : Outcome ℕ) → offset_for archive 1 own kind ≡ o → listed archive 1 own kind ≡ []
    go (refused n) e = listed_none archive 1 own kind n e
    go (given offset) e = let w = reads archive 1 well own kind offset e in short offset w.0 e w.1

-- ---- one by one

-- an archive of so many used records, and what it is after these filings
pub record Grown (archive : List ℕ) (used : ℕ) (filings : List Filing) (end : List ℕ) (last : ℕ) : Type 0 where
  pub well : Well end last
  pub chains : (own kind : ℕ) → listed end last own kind ≡ listed archive used own kind ++ filed_under used own kind filings
  pub older : (n : ℕ) → 0 < n → n < used → unlinked (record_at end n) ≡ unlinked (record_at archive n)
  pub newer : (i : ℕ) → i < length filings → unlinked (record_at end (used + i)) ≡ (get_or filings i no_filing).bytes
  pub offsets : (own kind offset : ℕ) → offset_for archive used own kind ≡ given offset → offset_for end last own kind ≡ given offset
  pub owners : (s : Filing) → Memᴰ s filings → (offset : ℕ) × (offset_for end last s.owner (kind_of s.bytes) ≡ given offset)

nothing_filed : (archive : List ℕ) (used : ℕ) → Well archive used → Grown archive used [] archive used
unfolding filed_under
nothing_filed archive used well = record {
  well = well;
  chains = λ own kind. sym (append-nil (listed archive used own kind));
  older = λ n z h. refl;
  newer = λ i h. absurd (omega arith);
  offsets = λ own kind offset e. e;
  owners = λ s m. absurd (Memᴰ.not-nil m);
}

one_more : (archive next end : List ℕ) (s : Filing) (filings : List Filing) (last : ℕ) (a : Appending archive s.owner s.bytes next) → Well archive a.used
    → Grown next (a.used + 1) filings end last → Grown archive a.used (s ∷ filings) end last
unfolding filed_under
one_more archive next end s filings last a well g = record {
  well = g.well;
  chains = λ own kind. g.chains own kind ∙ ap (λ l. l ++ filed_under (a.used + 1) own kind filings) (listed_after archive s.owner s.bytes next a well own kind)
      ∙ append_assoc (listed archive a.used own kind) (filed_here archive s.owner s.bytes next a own kind) (filed_under (a.used + 1) own kind filings)
      ∙ ap (λ l. listed archive a.used own kind ++ l) (split (eqb s.owner own && eqb (kind_of s.bytes) kind) (record { number = a.used; bytes = s.bytes }) (filed_under (a.used + 1) own kind filings));
  older = λ n z h. g.older n z (omega arith) ∙ unlinked_kept archive s.owner s.bytes next a n z h;
  newer = λ i h. at i h;
  offsets = kept;
  owners = λ x m. owner_of x m;
}
  where
    split : (t : Bool) (e : Entry) (l : List Entry) → cond t (e ∷ []) [] ++ l ≡ cond t (e ∷ l) l
    split true e l = refl
    split false e l = refl

    kept : (own kind offset : ℕ) → offset_for archive a.used own kind ≡ given offset → offset_for end last own kind ≡ given offset
    kept own kind offset e = g.offsets own kind offset (offset_kept archive s.owner s.bytes next a own kind (offset_owned archive a.used own kind offset e).below ∙ e)

    at : (i : ℕ) → i < length (s ∷ filings) → unlinked (record_at end (a.used + i)) ≡ (get_or (s ∷ filings) i no_filing).bytes
    at zero h =
        let z : a.used + 0 ≡ a.used = omega arith in
        ap (λ (n : ℕ). unlinked (record_at end n)) z
        ∙ g.older a.used a.head.some (omega arith)
        ∙ ap unlinked (writing archive s.owner s.bytes next a).filed ∙ new_unlinked archive s.owner s.bytes next a
    at (suc i) h =
        let z : a.used + suc i ≡ a.used + 1 + i = omega arith in
        ap (λ (n : ℕ). unlinked (record_at end n)) z ∙ g.newer i (omega arith)

    owner_of : (x : Filing) → Memᴰ x (s ∷ filings) → (offset : ℕ) × (offset_for end last x.owner (kind_of x.bytes) ≡ given offset)
    owner_of x m = go (Memᴰ.cases_cons m)
      where
        go : (x ≡ s) ⊎ Memᴰ x filings → (offset : ℕ) × (offset_for end last x.owner (kind_of x.bytes) ≡ given offset)
        go (inl e) = (a.offset, ap (λ y. offset_for end last y.owner (kind_of y.bytes)) e ∙ kept s.owner (kind_of s.bytes) a.offset a.offset_is)
        go (inr m) = g.owners x m

pub filed_on : (filings : List Filing) (archive end : List ℕ) (used : ℕ) → Well archive used → file_all filings archive ≡ given end → Grown archive used filings end (used + length filings)
unfolding file_all
filed_on [] archive end used well e =
    let z : used ≡ used + 0 = omega arith in
    subst (λ (x : List ℕ). Grown archive used [] x (used + 0)) (given_inj e) (subst (λ (n : ℕ). Grown archive used [] archive n) z (nothing_filed archive used well))
filed_on (s ∷ filings) archive end used well e =
    let b = bind_both (append archive s.owner s.bytes) _ e in
    let a = append_says archive s.owner s.bytes b.0 b.1 in
    let u : a.used ≡ used = sym a.head.count ∙ well.head.count in
    let w : Well archive a.used = subst (λ (n : ℕ). Well archive n) (sym u) well in
    let z : a.used + 1 + length filings ≡ used + suc (length filings) = omega arith in
    subst (λ (n : ℕ). Grown archive n (s ∷ filings) end (used + suc (length filings))) u
    (subst (λ (n : ℕ). Grown archive a.used (s ∷ filings) end n) z
    (one_more archive b.0 end s filings (a.used + 1 + length filings) a w
    (filed_on filings b.0 end (a.used + 1) (well_after archive s.owner s.bytes b.0 a w) b.2)))

-- ---- demand 2

pub start_is : (archive start : List ℕ) → fresh archive ≡ given start → (is_whole (length archive) ≡ true) × (fresh_bytes (length archive) ≡ start)
unfolding fresh
start_is archive start e = let a = required (is_whole (length archive)) 1 _ e in (a.0, given_inj a.1)

-- what is listed is what is read back, wherever the owner has the chain
listed_back : (archive : List ℕ) (used : ℕ) → Well archive used → (own kind : ℕ) (l : List Entry) → listed archive used own kind ≡ l
    → read_back archive used own kind ≡ offset_for archive used own kind >> given l
unfolding read_back read_under ◌>>=◌ ◌>>◌
listed_back archive used well own kind l e = go (offset_for archive used own kind) refl
  where
    from : (o : Outcome ℕ) (offset : ℕ) (ns : List ℕ) → offset_for archive used own kind ≡ given offset → Runs archive used kind own (32 * own + offset) ns
        → read_back archive used own kind ≡ given l
    from o offset ns i r =
        ap (λ (x : Outcome (List Entry)). x >>= λ es. given (map but_links es)) (read_runs archive used own kind offset ns i r)
        ∙ ap given (sym (listed_runs archive used own kind offset ns i r) ∙ e)

    go : (o : Outcome ℕ) → offset_for archive used own kind ≡ o → read_back archive used own kind ≡ offset_for archive used own kind >> given l
    go (refused n) i = rw i
    go (given offset) i = let w = reads archive used well own kind offset i in from (given offset) offset w.0 i w.1 ∙ sym (rw i)

-- a record whose links zeroed give these bytes has them outside its links
as_filed : (r filed : List ℕ) (at : ℕ) → length r ≡ 32 → unlinked r ≡ filed → is_link_byte filed at ≡ false → byte_at r at ≡ byte_at filed at
unfolding is_link_byte
as_filed r filed at size e h = sym (unlinked_byte r at fit (link_bytes r at (kind_too h))) ∙ ap (λ (x : List ℕ). byte_at x at) e
  where
    fit : (l : Link) → Memᴰ l (links_of r) → l.at + 4 ≤ length r
    fit l m = let w = links_within r l m in omega (arith, size)

    first : (l : Link) → Memᴰ l (links_of r) → (0 < l.at) ⊎ (l.at + 4 ≤ 0)
    first l m = let w = links_within r l m in inl (omega arith)

    same_kind : kind_of filed ≡ kind_of r
    same_kind = ap kind_of (sym e) ∙ unlinked_byte r 0 fit first

    kind_too : is_link_byte filed at ≡ false → is_link_byte r at ≡ false
    kind_too h = rw (← same_kind) h

pub read_again : ReadAgain
read_again archive start end filings e f =
    let s = start_is archive start e in
    let w : Well start 1 = subst (λ (x : List ℕ). Well x 1) s.1 (fresh_well (length archive) s.0) in
    let g = filed_on filings start end 1 w f in
    record {
      used = head_used end (1 + length filings) g.well.head;
      stored = g.newer;
      bytes = λ i at h k t. as_filed (record_at end (1 + i)) (get_or filings i no_filing).bytes at
          (record_length end (1 + i) (fits i h (head_room end (1 + length filings) g.well.head).0)) (g.newer i h) t;
      chains = λ own kind. listed_back end (1 + length filings) g.well own kind (filed_under 1 own kind filings)
          (g.chains own kind ∙ ap (λ l. l ++ filed_under 1 own kind filings) (none_listed start w own kind));
      owners = g.owners;
      sound = well_sound end (1 + length filings) g.well;
    }
  where
    fits : (i : ℕ) → i < length filings → 32 * (1 + length filings) ≤ length end → 32 * (1 + i) + 32 ≤ length end
    fits i h r = omega arith

-- append on a sound archive keeps it sound
pub stays_sound : StaysSound
stays_sound archive later owner new s e =
    let a = append_says archive owner new later e in
    well_sound later (a.used + 1) (well_after archive owner new later a (sound_well archive a.used (head_used archive a.used a.head) s))

pub files : Files
unfolding append ◌>>=◌ ◌>>◌ require
files archive used owner offset new s u n o h =
    let w = reads archive used (sound_well archive used u s) owner (kind_of new) offset o in
    (append_after archive used (last_place (32 * owner + offset) (map (entry_at archive) w.0)) new, rw (u, n, o, runs_chain archive used (kind_of new) owner (32 * owner + offset) w.0 w.1, lt-ltb used (length archive / 32) h))
