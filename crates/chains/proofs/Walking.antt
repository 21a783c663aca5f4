-- One law of walking a whole chain, over any state: a walk starts, turns at a link that leads to a record, ends at a zero link, or is
-- refused by any other. What it gathers from where it stands is what is gathered from the chain's start.
use Rattle.std.proofs.Common.{◌≡◌, ℕ, ◌*◌, ◌≤◌, ◌<◌, List, length, refl, sym, ◌∙◌, ap}
use Rattle.rules.specs.Outcome.{refused, given}
use Rattle.rules.specs.Results.{number}
use Rattle.rules.specs.Archive.{next_of, record_at, Entry, entry_at, chain, follow}
use Rattle.rules.specs.declared.refusal.Refusal.{Refusal}
use Rattle.rules.proofs.Chains.{chain_ends}
use Rattle.rules.proofs.Folds.{gathered_from, gather_turn, gather_refused, gather_done, gathered_refused}
use Rattle.rules.proofs.Walks.{chain_on, chain_refused}
use Rattle.chains.specs.declared.Chain.{Chain}
use Rattle.chains.specs.Steps.{Lies, Starts, Turns, Refuses}
use Rattle.chains.proofs.Laws.{Met, met_record}

-- a walk along a chain of this kind in this archive
pub record Along (archive : List ℕ) (used kind : ℕ) (walk : Chain) : Type 0 where
  pub archive_is : walk.archive.now ≡ archive
  pub used_is : walk.used ≡ used
  pub kind_is : walk.kind ≡ kind

module _ {archive : List ℕ} {used kind : ℕ} {walk : Chain} where
  pub along_starts : {holder first : ℕ} → Starts archive used kind holder first walk → Along archive used kind walk
  along_starts b = record { archive_is = b.archive_is; used_is = b.used_is; kind_is = b.kind_is }

  pub lies_starts : {holder first : ℕ} → Starts archive used kind holder first walk → 32 * used ≤ length archive → Lies walk
  lies_starts b h = rw (b.used_is, b.archive_is) h

  module _ (w : Along archive used kind walk) where
    pub along_turns : {n : ℕ} {then : Chain} → Turns walk n then → Along archive used kind then
    along_turns t = record { archive_is = t.archive_stays ∙ w.archive_is; used_is = t.used_stays ∙ w.used_is; kind_is = t.kind_stays ∙ w.kind_is }

    pub along_meets : {n : ℕ} {then : Chain} → Turns walk n then → Met archive used kind walk.last walk.link n
    along_meets {n} t = met_record archive used kind walk.last walk.link n (rw (w.archive_is, w.used_is, w.kind_is) at t.is)

    pub along_link : {n : ℕ} {then : Chain} → Turns walk n then → then.link ≡ next_of (record_at archive n)
    along_link {n} t = t.link_is ∙ ap (λ (a : List ℕ). next_of (record_at a n)) w.archive_is

    pub along_refused : {e : Refusal} → Refuses walk e → follow archive used kind walk.last walk.link ≡ refused (number e)
    along_refused r = rw (w.archive_is, w.used_is, w.kind_is) at r.is

module _ {S : Type 0} (step : S → Entry → S) (archive : List ℕ) (used kind holder first : ℕ) (start : S) where
  -- from the link `first` of `holder` on, which it met with `start`, a walk stands where the iterator does and holds s
  pub record Walking (walk : Chain) (s : S) : Type 0 where
    pub along : Along archive used kind walk
    pub gathers : gathered_from step start (chain archive used kind holder first) ≡ gathered_from step s (chain archive used kind walk.last walk.link)
    pub below : walk.last < used

  pub walk_starts : {walk : Chain} → Starts archive used kind holder first walk → holder < used → Walking walk start
  walk_starts b below = record { along = along_starts b; gathers = rw (b.last_is, b.link_is) refl; below = rw b.last_is below }

  module _ {walk : Chain} {s : S} (w : Walking walk s) where
    pub walk_meets : {n : ℕ} {then : Chain} → Turns walk n then → Met archive used kind walk.last walk.link n
    walk_meets t = along_meets w.along t

    pub walk_turns : {n : ℕ} {then : Chain} {t : S} → Turns walk n then → t ≡ step s (entry_at archive n) → Walking then t
    walk_turns {n} {then} {t} m f =
        let met = along_meets w.along m in
        record {
          along = along_turns w.along m;
          gathers =
              w.gathers
              ∙ gather_turn step s _ _ (entry_at archive n)
              (rw (m.last_is, along_link w.along m) (chain_on archive used kind walk.last walk.link (entry_at archive n) met.is))
              ∙ ap (λ (x : S). gathered_from step x (chain archive used kind then.last then.link)) (sym f);
          below = rw m.last_is met.below;
        }

    pub walk_ends : walk.link ≡ 0 → gathered_from step start (chain archive used kind holder first) ≡ given s
    walk_ends z = w.gathers ∙ gather_done step s _ (chain_ends archive used kind walk.last walk.link z)

    pub walk_refused : {e : Refusal} → Refuses walk e → chain archive used kind holder first ≡ refused (number e)
    walk_refused {e} r =
        gathered_refused step start _ _
        (w.gathers ∙ gather_refused step s _ _ (chain_refused archive used kind walk.last walk.link (number e) r.some (along_refused w.along r)))
