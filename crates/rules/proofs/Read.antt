-- After an append to a sound archive every chain reads as before, but for its links; the new record ends the chain that it was filed on.
use mathlib.Core.Path.{◌≡◌, refl, sym, ◌∙◌, ap, ap₂, subst}
use mathlib.Core.Bool.{Bool, true, false, cond, ◌&&◌}
use mathlib.Core.List.{List, [], ◌∷◌, ◌++◌, map, append-nil, Memᴰ}
use Prim.Native.Nat.{ℕ, ◌+◌, ◌*◌, ◌≤◌, ◌<◌}
use native.Mathlib.Omega.{arith}
use lib.Dec.{eqb, ltb}
use lib.ListN.{length}
use borrow.Author.Tests.{eqb-true, eqb-false, eq-eqb, ne_eqb, ltb-true, ltb-false, lt-ltb}
use Rattle.rules.specs.Outcome.{Outcome, refused, given, ◌>>=◌}
use Rattle.rules.specs.Archive.{link_at, kind_of, record_at, Entry, entry_at}
use Rattle.rules.specs.Links.{Link, link, links_of, links_at}
use Rattle.rules.specs.Filing.{offset_for}
use Rattle.rules.specs.ReadBack.{unlinked, but_links, read_under}
use Rattle.rules.proofs.Bytes.{record_length}
use Rattle.rules.proofs.Places.{links_same, links_within, links_at_lem, owned_at_lem, owned_in, one_place, next_in, stands_in}
use Rattle.rules.proofs.Sound.{head_room, Well}
use Rattle.rules.proofs.Runs.{Runs, last_at, runs_chain, last_above, Reach, here, step, last_reached, reach_in, Starts, one_chain, link_runs}
use Rattle.rules.proofs.Owners.{offset_unused}
use Rattle.rules.proofs.Write.{byte_kept, start_kept, kind_kept, links_kept, owned_kept, link_kept}
use Rattle.rules.proofs.Append.{Owned, offset_owned, Appending, owned, writing, new_zero, well_after}
use Rattle.rules.proofs.Unlinked.{unlinked_zero, unlinked_same}

pub map_append : {A B : Type 0} (f : A → B) (l m : List A) → map f (l ++ m) ≡ map f l ++ map f m
map_append f [] m = refl
map_append f (a ∷ l) m = rw (map_append f l m)

-- ---- reading a sound archive

-- an owned link starts a chain
pub owned_starts : (archive : List ℕ) (used : ℕ) (well : Well archive used) (owner kind offset : ℕ) → Owned archive used owner kind offset → Starts archive used well (32 * owner + offset)
owned_starts archive used well owner kind offset o =
    let w = owned_at_lem archive owner (link offset kind) o.has in
    record {
      stands = stands_in archive used owner (link offset kind) o.below (owned_in archive owner (link offset kind) o.has);
      first = λ n e. apart n e w;
    }
  where
    apart : (n : ℕ) → 32 * owner + offset ≡ 32 * n + 4 → (8 ≤ offset) × (offset + 4 ≤ 32) → ⊥
    apart n e w = omega arith

pub read_runs : (archive : List ℕ) (used owner kind offset : ℕ) (ns : List ℕ) → offset_for archive used owner kind ≡ given offset → Runs archive used kind owner (32 * owner + offset) ns
    → read_under archive used owner kind ≡ given (map (entry_at archive) ns)
unfolding read_under ◌>>=◌
read_runs archive used owner kind offset ns o r = rw o (runs_chain archive used kind owner (32 * owner + offset) ns r)

-- in a sound archive every chain of an owner is read to its end
pub reads : (archive : List ℕ) (used : ℕ) (well : Well archive used) (owner kind offset : ℕ) → offset_for archive used owner kind ≡ given offset
    → (ns : List ℕ) × Runs archive used kind owner (32 * owner + offset) ns
reads archive used well owner kind offset o =
    let h = offset_owned archive used owner kind offset o in
    link_runs archive used well used owner (link offset kind) (omega arith) h.below (owned_in archive owner (link offset kind) h.has)

-- what is read, but for links; nothing where the owner has no such chain
abbrev pub entries_of : Outcome (List Entry) → List Entry
entries_of (refused n) = []
entries_of (given es) = map but_links es

pub listed : List ℕ → ℕ → ℕ → ℕ → List Entry
listed archive used owner kind = entries_of (read_under archive used owner kind)

pub listed_none : (archive : List ℕ) (used owner kind n : ℕ) → offset_for archive used owner kind ≡ refused n → listed archive used owner kind ≡ []
unfolding listed read_under ◌>>=◌
listed_none archive used owner kind n e = rw e

pub listed_runs : (archive : List ℕ) (used owner kind offset : ℕ) (ns : List ℕ) → offset_for archive used owner kind ≡ given offset → Runs archive used kind owner (32 * owner + offset) ns
    → listed archive used owner kind ≡ map but_links (map (entry_at archive) ns)
unfolding listed
listed_runs archive used owner kind offset ns o r = ap entries_of (read_runs archive used owner kind offset ns o r)

module _ (archive : List ℕ) (owner : ℕ) (new after : List ℕ) (a : Appending archive owner new after) where
  -- ---- records

  pub new_unlinked : unlinked new ≡ new
  new_unlinked = unlinked_zero new (λ l m. (a.fresh_new.zero_links l m, within l m))
    where
      within : (l : Link) → Memᴰ l (links_of new) → l.at + 4 ≤ length new
      within l m = let w = links_within new l m in let e = a.fresh_new.size in omega arith

  pub unlinked_kept : (n : ℕ) → 0 < n → n < a.used → unlinked (record_at after n) ≡ unlinked (record_at archive n)
  unlinked_kept n z h =
      unlinked_same (record_at after n) (record_at archive n) (links_same (record_at after n) (record_at archive n) (start_kept (writing archive owner new after a) n h))
      (long₁ ∙ sym long₀) (λ l m. within l (links_within (record_at after n) l m))
      (λ i k o. byte_kept (writing archive owner new after a) n i h (below i k) (λ e. absurd (omega arith)) (λ e. o (writing archive owner new after a).stands.of (held e)))
    where
      room₀ : (32 * a.used ≤ length archive) × (a.used ≤ 65535)
      room₀ = head_room archive a.used a.head

      long₀ : length (record_at archive n) ≡ 32
      long₀ = record_length archive n (omega (arith, room₀))

      long₁ : length (record_at after n) ≡ 32
      long₁ = record_length after n (omega (arith, room₀, (writing archive owner new after a).long))

      within : (l : Link) → (4 ≤ l.at) × (l.at + 4 ≤ 32) → l.at + 4 ≤ length (record_at after n)
      within l w = omega (arith, long₁)

      below : (i : ℕ) → i < length (record_at after n) → i < 32
      below i k = omega (arith, long₁)

      held : n ≡ (writing archive owner new after a).stands.holder → Memᴰ (writing archive owner new after a).stands.of (links_of (record_at after n))
      held e =
          subst (λ ls. Memᴰ (writing archive owner new after a).stands.of ls)
          (ap (links_at archive) (sym e) ∙ sym (links_kept (writing archive owner new after a) n h) ∙ links_at_lem after n z) (writing archive owner new after a).stands.has

  entries_kept : (kind holder place : ℕ) (ns : List ℕ) → Runs archive a.used kind holder place ns → map but_links (map (entry_at after) ns) ≡ map but_links (map (entry_at archive) ns)
  entries_kept kind holder place [] r = refl
  entries_kept kind holder place (n ∷ ns) r =
      let p = r.1 in
      rw (unlinked_kept n (omega arith) r.2, entries_kept kind n (32 * n + 4) ns r.4)

  -- ---- chains

  runs_kept : (kind from holder place : ℕ) (ns : List ℕ) → Reach archive from place → ((q : ℕ) → Reach archive from q → link_at after q ≡ link_at archive q)
      → Runs archive a.used kind holder place ns → Runs after (a.used + 1) kind holder place ns
  runs_kept kind from holder place [] R same r = same place R ∙ r
  runs_kept kind from holder place (n ∷ ns) R same r =
      let p = r.1 in
      let b = r.2 in (
        same place R ∙ r.0,
        r.1,
        omega arith,
        kind_kept (writing archive owner new after a) n r.2 ∙ r.3,
        runs_kept kind from n (32 * n + 4) ns (step place n R r.0 (omega arith) refl) same r.4,
      )

  runs_grown : (kind from holder place : ℕ) (ns : List ℕ) → Reach archive from place → place + 4 ≤ 32 * holder + 32 → holder < a.used
      → ((q : ℕ) → Reach archive from q → (q ≡ last_at place ns → ⊥) → link_at after q ≡ link_at archive q) → link_at after (last_at place ns) ≡ a.used
      → kind_of (record_at after a.used) ≡ kind → link_at after (32 * a.used + 4) ≡ 0
      → Runs archive a.used kind holder place ns → Runs after (a.used + 1) kind holder place (ns ++ a.used ∷ [])
  runs_grown kind from holder place [] R p h same e k z r = (e, h, omega arith, k, z)
  runs_grown kind from holder place (n ∷ ns) R p h same e k z r =
      let b = r.1 in
      let c = r.2 in
      let l = last_above archive a.used kind n ns r.4 in (
        same place R (λ i. omega arith) ∙ r.0,
        r.1,
        omega arith,
        kind_kept (writing archive owner new after a) n r.2 ∙ r.3,
        runs_grown kind from n (32 * n + 4) ns (step place n R r.0 (omega arith) refl) (omega arith) r.2 same e k z r.4,
      )

  -- ---- owners

  pub offset_kept : (own kind : ℕ) → own < a.used → offset_for after (a.used + 1) own kind ≡ offset_for archive a.used own kind
  unfolding offset_for
  offset_kept own kind h = rw (lt-ltb own a.used h, lt-ltb own (a.used + 1) (omega arith), owned_kept (writing archive owner new after a) own h)

  abbrev pub filed_here : ℕ → ℕ → List Entry
  filed_here own kind = cond (eqb owner own && eqb (kind_of new) kind) (record { number = a.used; bytes = new } ∷ []) []

  module _ (well : Well archive a.used) where
    next_zero : link_at after (32 * a.used + 4) ≡ 0
    next_zero =
        let s = a.head.some in
        let w = well_after archive owner new after a well in
        new_zero archive owner new after a (link 4 (kind_of (record_at after a.used)))
        (next_in after a.used s ((w.stored a.used (omega arith)).kind s))

    -- the chain that was appended to
    grown : listed after (a.used + 1) owner (kind_of new) ≡ listed archive a.used owner (kind_of new) ++ (record { number = a.used; bytes = new } ∷ [])
    grown =
        let o = owned archive owner new after a in
        let w = owned_at_lem archive owner (link a.offset (kind_of new)) o.has in
        let p = 32 * owner + a.offset in
        let r = runs_grown (kind_of new) p owner p a.passed (here refl) (omega arith) o.below
        (λ q R d. link_kept (writing archive owner new after a) q (reach_in archive a.used well p q (owned_starts archive a.used well owner (kind_of new) a.offset o).stands R) d)
        (writing archive owner new after a).named (ap kind_of (writing archive owner new after a).filed) next_zero a.runs in
        listed_runs after (a.used + 1) owner (kind_of new) a.offset (a.passed ++ a.used ∷ []) (offset_kept owner (kind_of new) o.below ∙ a.offset_is) r
        ∙ ap (map but_links) (map_append (entry_at after) a.passed (a.used ∷ []))
        ∙ map_append but_links (map (entry_at after) a.passed) (map (entry_at after) (a.used ∷ []))
        ∙ ap₂ ◌++◌ (entries_kept (kind_of new) owner p a.passed a.runs ∙ sym (listed_runs archive a.used owner (kind_of new) a.offset a.passed a.offset_is a.runs))
        (ap (λ (r : List ℕ). record { number = a.used; bytes = r } ∷ []) (ap unlinked (writing archive owner new after a).filed ∙ new_unlinked))

    -- any other chain of a used owner
    kept : (own kind offset : ℕ) → offset_for archive a.used own kind ≡ given offset → (32 * own + offset ≡ 32 * owner + a.offset → ⊥) → listed after (a.used + 1) own kind ≡ listed archive a.used own kind
    kept own kind offset e d =
        let o = offset_owned archive a.used own kind offset e in
        let p = 32 * own + offset in
        let q₀ = 32 * owner + a.offset in
        let r = reads archive a.used well own kind offset e in
        let s = owned_starts archive a.used well own kind offset o in
        let t = owned_starts archive a.used well owner (kind_of new) a.offset (owned archive owner new after a) in
        let l = last_reached archive a.used (kind_of new) q₀ owner q₀ a.passed (here refl) a.runs in
        let k = runs_kept kind p own p r.0 (here refl)
        (λ q R. link_kept (writing archive owner new after a) q (reach_in archive a.used well p q s.stands R)
        (λ i. d (one_chain archive a.used well p q₀ q s t R (subst (λ (x : ℕ). Reach archive q₀ x) (sym i) l)))) r.1 in
        listed_runs after (a.used + 1) own kind offset r.0 (offset_kept own kind o.below ∙ e) k
        ∙ entries_kept kind own p r.0 r.1
        ∙ sym (listed_runs archive a.used own kind offset r.0 e r.1)

    -- the new record owns nothing yet
    newest : (kind offset : ℕ) → offset_for after (a.used + 1) a.used kind ≡ given offset → listed after (a.used + 1) a.used kind ≡ []
    newest kind offset e =
        let o = offset_owned after (a.used + 1) a.used kind offset e in
        listed_runs after (a.used + 1) a.used kind offset [] e (new_zero archive owner new after a (link offset kind) (owned_in after a.used (link offset kind) o.has))

    -- every owner and kind
    pub listed_after : (own kind : ℕ) → listed after (a.used + 1) own kind ≡ listed archive a.used own kind ++ filed_here own kind
    listed_after own kind = go (ltb own a.used) refl
      where
        Goal : Type 0
        Goal = listed after (a.used + 1) own kind ≡ listed archive a.used own kind ++ filed_here own kind

        nothing : (eqb owner own && eqb (kind_of new) kind) ≡ false → listed after (a.used + 1) own kind ≡ listed archive a.used own kind → Goal
        nothing f e = rw f (e ∙ sym (append-nil (listed archive a.used own kind)))

        not_own : a.used ≤ own → (eqb owner own && eqb (kind_of new) kind) ≡ false
        not_own h = rw (ne_eqb owner own (λ e. omega (arith, (owned archive owner new after a).below)))

        unused : a.used ≤ own → (o : Outcome ℕ) → offset_for after (a.used + 1) own kind ≡ o → listed after (a.used + 1) own kind ≡ []
        unused h (refused n) e = listed_none after (a.used + 1) own kind n e
        unused h (given offset) e =
            let b = (offset_owned after (a.used + 1) own kind offset e).below in
            let i : own ≡ a.used = omega arith in
            ap (λ (n : ℕ). listed after (a.used + 1) n kind) i ∙ newest kind offset (ap (λ (n : ℕ). offset_for after (a.used + 1) n kind) (sym i) ∙ e)

        one : (offset : ℕ) → offset_for archive a.used own kind ≡ given offset → 32 * own + offset ≡ 32 * owner + a.offset → (own ≡ owner) × (kind ≡ kind_of new)
        one offset e i =
            let o = offset_owned archive a.used own kind offset e in
            let w = one_place archive own owner (link offset kind) (link a.offset (kind_of new)) (owned_in archive own (link offset kind) o.has)
            (owned_in archive owner (link a.offset (kind_of new)) (owned archive owner new after a).has) i in
            (w.0, ap (λ l. l.to) w.1)

        both : eqb owner own ≡ true → eqb (kind_of new) kind ≡ true → Goal
        both f g =
            let i = eqb-true owner own f in
            let j = eqb-true (kind_of new) kind g in
            subst (λ (n : ℕ). listed after (a.used + 1) n kind ≡ listed archive a.used n kind ++ filed_here n kind) i
            (subst (λ (k : ℕ). listed after (a.used + 1) owner k ≡ listed archive a.used owner k ++ filed_here owner k) j
            (rw (eq-eqb owner owner refl, eq-eqb (kind_of new) (kind_of new) refl) grown))

        used : own < a.used → (o : Outcome ℕ) → offset_for archive a.used own kind ≡ o → (s t : Bool) → eqb owner own ≡ s → eqb (kind_of new) kind ≡ t → Goal
        used h (refused n) e true true f g = both f g
        used h (given offset) e true true f g = both f g
        used h (refused n) e true false f g = nothing (rw (f, g)) (listed_none after (a.used + 1) own kind n (offset_kept own kind h ∙ e) ∙ sym (listed_none archive a.used own kind n e))
        used h (refused n) e false t f g = nothing (rw f) (listed_none after (a.used + 1) own kind n (offset_kept own kind h ∙ e) ∙ sym (listed_none archive a.used own kind n e))
        used h (given offset) e true false f g = nothing (rw (f, g)) (kept own kind offset e (λ i. eqb-false (kind_of new) kind g (sym (one offset e i).1)))
        used h (given offset) e false t f g = nothing (rw f) (kept own kind offset e (λ i. eqb-false owner own f (sym (one offset e i).0)))

        go : (t : Bool) → ltb own a.used ≡ t → Goal
        go true e = used (ltb-true own a.used e) (offset_for archive a.used own kind) refl (eqb owner own) (eqb (kind_of new) kind) refl refl
        go false e =
            let h = ltb-false own a.used e in
            nothing (not_own h) (unused h (offset_for after (a.used + 1) own kind) refl ∙ sym (listed_none archive a.used own kind 15 (offset_unused archive a.used own kind h)))
