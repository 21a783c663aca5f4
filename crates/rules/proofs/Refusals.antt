-- Demand 1: every call gives an answer or a refusal with one of its own numbers, and a refused call changes nothing.
use mathlib.Core.Path.{◌≡◌, refl, sym, ◌∙◌, ap, subst}
use mathlib.Core.Bool.{Bool, true, false, cond, ◌||◌, false≢true, true≢false}
use mathlib.Core.List.{List, [], ◌∷◌}
use Prim.Native.Nat.{ℕ, zero, suc, ◌-◌}
use borrow.Author.Tests.{eqb-true}
use lib.Dec.{eqb}
use lib.IntN.{ℤ}
use lib.ListN.{length}
use Rattle.rules.specs.Outcome.{Outcome, refused, given, ◌>>=◌, ◌>>◌, require, number_of, after}
use Rattle.rules.specs.Refusals.{not_archive, bad_link, wrong_kind, settle_refusals, append_refusals, audit_refusals, take_back_refusals, preview_refusals, delivery_day_refusals, correction_refusals}
use Rattle.rules.specs.Numbers.{member, all}
use Rattle.rules.specs.Calendar.{delivery_day}
use Rattle.rules.specs.Archive.{link_at, used_of, next_of, Entry, follow, at_place, chain_from, chain}
use Rattle.rules.specs.Terms.{Technology, wind, solar, other, Variant, spitz, pauschal, Point, Before}
use Rattle.rules.specs.Settle.{Place, Basis, admitted, place_of, points_of, befores_of, wind_basis, first_marked, solar_basis, pauschal_basis, basis_by, quarters_of, Settlement, settled, settle, Answer, answer_of}
use Rattle.rules.specs.Host.{host_settle}
use Rattle.rules.specs.Links.{Link, owned_at, links_at, stands_at, namers}
use Rattle.rules.specs.Filing.{fresh, offset_in, offset_for, append}
use Rattle.rules.specs.Audit.{link_checked, links_checked, record_checked, records_checked, audit}
use Rattle.rules.specs.TakeBack.{only_place, take_back}
use Rattle.rules.specs.Preview.{preview, host_preview}
use Rattle.rules.specs.Correction.{correction_over, correction}
use Rattle.rules.specs.Demands.{RefusedWithin, EveryCallAnswers, RefusalsChangeNothing}
use Rattle.rules.proofs.Lists.{at_member}

-- ---- along the parts of a definition

module _ {ns : List ℕ} where
  within_refused : {A : Type 0} (n : ℕ) → member n ns ≡ true → RefusedWithin {A = A} ns (refused n)
  within_refused n m = record { of = λ k e. let same : n ≡ k = cc in subst (λ (x : ℕ). member x ns ≡ true) same m }

  within_given : {A : Type 0} (a : A) → RefusedWithin ns (given a)
  within_given {A} a = record { of = λ n e. absurd (subst IsGiven e tt) }
    where
      IsGiven : Outcome A → Type 0
      IsGiven (refused n) = ⊥
      IsGiven (given a) = Unit {0}

  within_bind : {A B : Type 0} (m : Outcome A) (f : A → Outcome B) → RefusedWithin ns m → ((a : A) → RefusedWithin ns (f a)) → RefusedWithin ns (m >>= f)
  unfolding ◌>>=◌
  within_bind (refused n) f h k = within_refused n (h.of n refl)
  within_bind (given a) f h k = k a

  within_then : {A B : Type 0} (m : Outcome A) (b : Outcome B) → RefusedWithin ns m → RefusedWithin ns b → RefusedWithin ns (m >> b)
  unfolding ◌>>◌
  within_then (refused n) b h k = within_refused n (h.of n refl)
  within_then (given a) b h k = k

  within_require : (t : Bool) (n : ℕ) → member n ns ≡ true → RefusedWithin ns (require t n)
  unfolding require
  within_require true n m = within_given tt
  within_require false n m = within_refused n m

  within_cond : {A : Type 0} (t : Bool) {x y : Outcome A} → RefusedWithin ns x → RefusedWithin ns y → RefusedWithin ns (cond t x y)
  within_cond true h k = h
  within_cond false h k = k

  -- a test, and then the rest
  within_test : {B : Type 0} (t : Bool) (n : ℕ) (b : Outcome B) → member n ns ≡ true → RefusedWithin ns b → RefusedWithin ns (require t n >> b)
  within_test t n b m k = within_then (require t n) b (within_require t n m) k

  within_used : member 1 ns ≡ true → (archive : List ℕ) → RefusedWithin ns (used_of archive)
  unfolding used_of
  within_used m archive = within_test _ 1 _ m (within_test _ 1 _ m (within_test _ 1 _ m (within_given _)))

  -- a link's refusals are 2 and 3
  module _ (two : member bad_link ns ≡ true) (three : member wrong_kind ns ≡ true) (archive : List ℕ) (used kind : ℕ) where
    within_follow : (holder link : ℕ) → RefusedWithin ns (follow archive used kind holder link)
    unfolding follow
    within_follow holder link = within_test _ 2 _ two (within_test _ 3 _ three (within_given _))

    within_place : (missing : ℕ) → member missing ns ≡ true → (place holder link : ℕ) → RefusedWithin ns (at_place archive used kind missing place holder link)
    within_place missing m zero holder link = within_refused missing m
    within_place missing m (suc zero) holder link = within_cond (eqb link 0) (within_refused missing m) (within_follow holder link)
    within_place missing m (suc (suc place)) holder link =
        within_cond (eqb link 0) (within_refused missing m)
        (within_bind _ _ (within_follow holder link) (λ e. within_place missing m (suc place) e.number (next_of e.bytes)))

    within_steps : (steps holder link : ℕ) → RefusedWithin ns (chain_from archive used kind steps holder link)
    within_steps zero holder link = within_cond (eqb link 0) (within_given _) (within_refused 2 two)
    within_steps (suc steps) holder link =
        within_cond (eqb link 0) (within_given _)
        (within_bind _ _ (within_follow holder link) (λ e.
        within_bind _ _ (within_steps steps e.number (next_of e.bytes)) (λ es. within_given _)))

    within_chain : (holder link : ℕ) → RefusedWithin ns (chain archive used kind holder link)
    unfolding chain
    within_chain holder link = within_steps used holder link

-- a refused head is 1
pub used_refused : (archive : List ℕ) (n : ℕ) → used_of archive ≡ refused n → n ≡ not_archive
used_refused archive n e = go (eqb n not_archive) refl ((within_used {ns = not_archive ∷ []} refl archive).of n e)
  where
    go : (t : Bool) → eqb n not_archive ≡ t → (t || false) ≡ true → n ≡ not_archive
    go true q m = eqb-true n not_archive q
    go false q m = absurd (false≢true m)

-- ---- settle

admitted_within : (plant measure : List ℕ) → RefusedWithin settle_refusals (admitted plant measure)
unfolding admitted
admitted_within plant measure = within_test _ 6 _ refl (within_test _ 7 _ refl (within_given _))

place_within : (archive : List ℕ) (p k : ℕ) → RefusedWithin settle_refusals (place_of archive p k)
unfolding place_of
place_within archive p k =
    within_bind _ _ (within_used refl archive) (λ used.
    within_bind _ _ (within_place refl refl archive used 1 4 refl p 0 _) (λ plant.
    within_bind _ _ (within_place refl refl archive used 3 5 refl k plant.number _) (λ measure.
    within_bind _ _ (admitted_within plant.bytes measure.bytes) (λ terms. within_given _))))

points_within : (archive : List ℕ) (place : Place) → RefusedWithin settle_refusals (points_of archive place)
unfolding points_of
points_within archive place =
    within_bind _ _ (within_chain refl refl archive _ 2 _ _) (λ entries. within_test _ 9 _ refl (within_test _ 10 _ refl (within_given _)))

befores_within : (archive : List ℕ) (place : Place) → RefusedWithin settle_refusals (befores_of archive place)
unfolding befores_of
befores_within archive place =
    within_bind _ _ (within_chain refl refl archive _ 4 _ _) (λ entries. within_test _ 8 _ refl (within_test _ 9 _ refl (within_given _)))

wind_within : (pn : ℕ) (points : List Point) (entries : List Entry) → RefusedWithin settle_refusals (wind_basis pn points entries)
unfolding wind_basis
wind_within pn points entries = within_test _ 9 _ refl (within_test _ 11 _ refl (within_test _ 12 _ refl (within_given _)))

solar_within : (bs : List Before) (links : ℕ) → RefusedWithin settle_refusals (solar_basis bs links)
unfolding solar_basis
solar_within bs links = within_test _ 9 _ refl (within_test _ 11 _ refl (within_test _ 12 _ refl (within_given _)))

first_within : (bs : List Before) (links : ℕ) → RefusedWithin settle_refusals (first_marked bs links)
unfolding first_marked
first_within [] links = within_refused 11 refl
first_within (b ∷ bs) links = within_test _ 9 _ refl (within_given _)

pauschal_within : (archive : List ℕ) (place : Place) → RefusedWithin settle_refusals (pauschal_basis archive place)
pauschal_within archive place = within_bind _ _ (befores_within archive place) (λ entries. first_within _ _)

by_within : (t : Technology) (v : Variant) (archive : List ℕ) (place : Place) → RefusedWithin settle_refusals (basis_by t v archive place)
unfolding basis_by
by_within wind spitz archive place =
    within_bind _ _ (points_within archive place) (λ points. within_bind _ _ (befores_within archive place) (λ entries. wind_within _ points entries))
by_within wind pauschal archive place = pauschal_within archive place
by_within solar spitz archive place = within_bind _ _ (befores_within archive place) (λ entries. solar_within _ _)
by_within solar pauschal archive place = within_given _
by_within other spitz archive place = within_given _
by_within other pauschal archive place = pauschal_within archive place

quarters_within : (archive : List ℕ) (place : Place) (basis : Basis) → RefusedWithin settle_refusals (quarters_of archive place basis)
unfolding quarters_of
quarters_within archive place basis =
    within_bind _ _ (within_chain refl refl archive _ 5 _ _) (λ entries. within_test _ 8 _ refl (within_test _ 9 _ refl (within_test _ 18 _ refl (within_given _))))

settled_within : (archive : List ℕ) (p k : ℕ) → RefusedWithin settle_refusals (settled archive p k)
unfolding settled
settled_within archive p k =
    within_bind _ _ (place_within archive p k) (λ place. within_bind _ _ (by_within _ _ archive place) (λ basis.
    within_bind _ _ (quarters_within archive place basis) (λ quarters. within_given _)))

-- with or without a list, 13 comes last
room_within : {o : Outcome Settlement} (test : Settlement → Bool) → RefusedWithin settle_refusals o
    → RefusedWithin settle_refusals (o >>= λ s. require (test s) 13 >> given s)
room_within test h = within_bind _ _ h (λ s. within_test _ 13 _ refl (within_given _))

settle_within : (archive : List ℕ) (p k places : ℕ) → RefusedWithin settle_refusals (settle archive p k places)
unfolding settle
settle_within archive p k places = room_within _ (settled_within archive p k)

host_within : (archive : List ℕ) (p k list_bytes result_bytes : ℕ) → RefusedWithin settle_refusals (host_settle archive p k list_bytes result_bytes)
unfolding host_settle
host_within archive p k list_bytes result_bytes = room_within _ (settled_within archive p k)

-- ---- append and audit

offset_within : (archive : List ℕ) (used owner kind : ℕ) → RefusedWithin append_refusals (offset_for archive used owner kind)
unfolding offset_for
offset_within archive used owner kind = within_test _ 15 _ refl (among (owned_at archive owner))
  where
    among : (ls : List Link) → RefusedWithin append_refusals (offset_in ls kind)
    among [] = within_refused 15 refl
    among (l ∷ ls) = within_cond (eqb l.to kind) (within_given _) (among ls)

append_within : (archive : List ℕ) (owner : ℕ) (new : List ℕ) → RefusedWithin append_refusals (append archive owner new)
unfolding append
append_within archive owner new =
    within_bind _ _ (within_used refl archive) (λ used. within_test _ 14 _ refl
    (within_bind _ _ (offset_within archive used owner _) (λ offset.
    within_bind _ _ (within_chain refl refl archive used _ owner _) (λ entries. within_test _ 16 _ refl (within_given _)))))

module _ (archive : List ℕ) (used : ℕ) where
  link_within : (n : ℕ) (l : Link) → RefusedWithin audit_refusals (link_checked archive used n l)
  unfolding link_checked
  link_within n l =
      within_cond (eqb (link_at archive (stands_at n l)) 0) (within_given tt)
      (within_then _ _ (within_follow refl refl archive used l.to n (link_at archive (stands_at n l))) (within_given tt))

  links_within : (n : ℕ) (ls : List Link) → RefusedWithin audit_refusals (links_checked archive used n ls)
  links_within n [] = within_given tt
  links_within n (l ∷ ls) = within_then _ _ (link_within n l) (links_within n ls)

  record_within : (n : ℕ) → RefusedWithin audit_refusals (record_checked archive used n)
  unfolding record_checked
  record_within n = within_test _ 3 _ refl (links_within n (links_at archive n))

  records_within : (n : ℕ) → RefusedWithin audit_refusals (records_checked archive used n)
  records_within zero = within_given tt
  records_within (suc n) = within_then _ _ (records_within n) (record_within n)

audit_within : (archive : List ℕ) → RefusedWithin audit_refusals (audit archive)
unfolding audit
audit_within archive =
    within_bind _ _ (within_used refl archive) (λ used. within_then _ _ (records_within archive used used) (within_require _ 17 refl))

only_within : (places : List ℕ) → RefusedWithin take_back_refusals (only_place places)
only_within [] = within_refused 19 refl
only_within (place ∷ []) = within_given place
only_within (place ∷ (another ∷ rest)) = within_refused 19 refl

take_back_within : (archive : List ℕ) → RefusedWithin take_back_refusals (take_back archive)
unfolding take_back
take_back_within archive =
    within_bind _ _ (within_used refl archive) (λ used. within_test _ 19 _ refl
    (within_bind _ _ (only_within (namers archive used (used - 1))) (λ place. within_given _)))

-- the numbers of one list are among those of another
within_more : {A : Type 0} {ns ms : List ℕ} {o : Outcome A} → all (λ n. member n ms) ns ≡ true → RefusedWithin ns o → RefusedWithin ms o
within_more {ns = ns} {ms = ms} more h = record { of = λ n e. at_member (λ n. member n ms) ns n more (h.of n e) }

-- append's numbers, and then settle's
preview_within : {B : Type 0} (archive : List ℕ) (owner : ℕ) (new : List ℕ) {then : List ℕ → Outcome B} → ((appended : List ℕ) → RefusedWithin settle_refusals (then appended))
    → RefusedWithin preview_refusals (append archive owner new >>= then)
preview_within archive owner new h = within_bind _ _ (within_more refl (append_within archive owner new)) (λ appended. within_more refl (h appended))

previews_within : (archive : List ℕ) (owner : ℕ) (new : List ℕ) (p k places : ℕ) → RefusedWithin preview_refusals (preview archive owner new p k places)
unfolding preview
previews_within archive owner new p k places = preview_within archive owner new (λ appended. settle_within appended p k places)

host_previews_within : (archive : List ℕ) (owner : ℕ) (new : List ℕ) (p k list_bytes result_bytes : ℕ)
    → RefusedWithin preview_refusals (host_preview archive owner new p k list_bytes result_bytes)
unfolding host_preview
host_previews_within archive owner new p k list_bytes result_bytes = preview_within archive owner new (λ appended. host_within appended p k list_bytes result_bytes)

delivers_within : (quarter : ℕ) (holidays : List ℕ) → RefusedWithin delivery_day_refusals (delivery_day quarter holidays)
unfolding delivery_day
delivers_within quarter holidays = within_test _ 18 _ refl (within_given _)

corrects_within : (amounts balanced prices : List ℤ) → RefusedWithin correction_refusals (correction amounts balanced prices)
unfolding correction correction_over
corrects_within amounts balanced prices = within_test _ 22 _ refl (within_test _ 20 _ refl (within_test _ 21 _ refl (within_given _)))

pub every_call_answers : EveryCallAnswers
unfolding fresh
every_call_answers = record {
  settles = settle_within;
  host_settles = host_within;
  freshens = λ archive. within_test _ 1 _ refl (within_given _);
  appends = append_within;
  audits = audit_within;
  takes_back = take_back_within;
  previews = previews_within;
  host_previews = host_previews_within;
  delivers = delivers_within;
  corrects = corrects_within;
}

-- ---- a refused call changes nothing

-- no refusal has the number 0, so a call that returns 0 gave its answer
pub given_by_number : {A : Type 0} (ns : List ℕ) → member 0 ns ≡ false → (o : Outcome A) → RefusedWithin ns o → number_of o ≡ 0 → (a : A) × (o ≡ given a)
given_by_number ns none (refused n) h e =
    absurd (true≢false (sym (h.of n refl) ∙ ap (λ (x : ℕ). member x ns) e ∙ none))
given_by_number ns none (given a) h e = (a, refl)

-- every later content is `after` an outcome, whatever the call
kept : {A B : Type 0} (o : Outcome A) (later : A → B) (was : B) (number : ℕ) → number ≡ number_of o → (number ≡ 0 → ⊥) → after o later was ≡ was
kept (refused n) later was number e f = refl
kept (given a) later was number e f = absurd (f e)

pub number_is : {answer : Answer} (o : Outcome Settlement) → answer ≡ answer_of o → answer.number ≡ number_of o
number_is (refused n) e = ap (λ a. a.number) e
number_is (given s) e = ap (λ a. a.number) e

pub refusals_change_nothing : RefusalsChangeNothing
refusals_change_nothing = record {
  settles = λ archive p k list later answer s f. s.leaves ∙ kept (settle archive p k (length list)) _ list answer.number (number_is (settle archive p k (length list)) s.answers) f;
  host_settles = λ archive p k list later_list result later_result number h f.
      let o = host_settle archive p k (length list) (length result) in
      (h.leaves_list ∙ kept o _ list number h.answers f, h.leaves_result ∙ kept o _ result number h.answers f);
  freshens = λ archive later number h f. h.leaves ∙ kept (fresh archive) _ archive number h.answers f;
  appends = λ archive owner new later number h f. h.leaves ∙ kept (append archive owner new) _ archive number h.answers f;
  takes_back = λ archive later number h f. h.leaves ∙ kept (take_back archive) _ archive number h.answers f;
  previews = λ archive owner new p k list later_list later answer h f.
      let o = preview archive owner new p k (length list) in
      (h.leaves_list ∙ kept o _ list answer.number (number_is o h.answers) f, h.leaves_archive);
  host_previews = λ archive owner new p k list later_list result later_result later_archive number h f.
      let o = host_preview archive owner new p k (length list) (length result) in
      (h.leaves_list ∙ kept o _ list number h.answers f, h.leaves_result ∙ kept o _ result number h.answers f, h.leaves_archive);
  delivers = λ quarter holidays was day number h f. h.leaves ∙ kept (delivery_day quarter holidays) _ was number h.answers f;
  corrects = λ amounts balanced prices was cents rest remainder number h f.
      let o = correction amounts balanced prices in
      (h.leaves_cents ∙ kept o _ was number h.answers f, h.leaves_remainder ∙ kept o _ rest number h.answers f);
}
