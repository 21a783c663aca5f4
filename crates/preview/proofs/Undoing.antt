-- Append for now, undoing and preview, over plain variables.
use Rattle.std.proofs.Common.{◌≡◌, ℕ, ◌+◌, ℤ, List, length, sym, ◌∙◌, ap}
use Rattle.rules.specs.Outcome.{Outcome, refused, given}
use Rattle.rules.specs.Archive.{record_at}
use Rattle.rules.specs.Settle.{Settlement, Answer, answer_of, list_after}
use Rattle.rules.specs.Filing.{append, append_after}
use Rattle.rules.specs.Preview.{undone}
use Rattle.rules.specs.Promises.{Settles, Previews}
use Rattle.rules.specs.Demands.{AreBytes}
use Rattle.rules.proofs.Bytes.{record_length}
use Rattle.rules.proofs.Write.{written_long}
use Rattle.rules.proofs.Preview.{undone_appended, preview_refused, preview_settled}
use Rattle.filing.specs.Destinations.{HasRoom, EndsAt}
use Rattle.preview.specs.Undoing.{CanUndo}

-- ---- append for now

module _ {archive : List ℕ} {used place : ℕ} {new : List ℕ} (r : HasRoom archive used place new) (s : EndsAt archive used place) where
  -- what was kept before the record was written undoes that
  pub undoes : AreBytes archive → {later before : List ℕ} → later ≡ append_after archive used place new → before ≡ record_at archive used
      → CanUndo later used place before × (undone later used place before ≡ archive)
  unfolding append_after
  undoes bytes {later} {before} is kept =
      let long : length later ≡ length archive = ap length is ∙ written_long archive used place new used (used + 1) r.size s.low s.high r.free in (
        record { size = ap length kept ∙ record_length archive used r.free; free = rw long r.free; link = rw long r.link; few = r.few },
        rw (is, kept) (undone_appended archive used place new bytes s.counted r.size s.low s.high r.free s.was_zero),
      )

-- ---- preview

module _ {archive : List ℕ} {owner : ℕ} {new appended : List ℕ} (p k : ℕ) (list : List ℤ) where
  pub not_previewed : {n : ℕ} → append archive owner new ≡ refused n → appended ≡ archive → Previews archive owner new p k list list appended (answer_of (refused n))
  not_previewed {n} e l =
      let r = preview_refused archive owner new p k (length list) n e in
      record { answers = ap answer_of (sym r); leaves_list = ap (λ (o : Outcome Settlement). list_after o list) (sym r); leaves_archive = l }

  pub previewed : append archive owner new ≡ given appended → {later_list : List ℤ} {answer : Answer} → Settles appended p k list later_list answer
      → {later : List ℕ} → later ≡ archive → Previews archive owner new p k list later_list later answer
  previewed e s l =
      let r = preview_settled archive owner new p k (length list) appended e in
      record {
        answers = s.answers ∙ ap answer_of (sym r);
        leaves_list = s.leaves ∙ ap (λ (o : Outcome Settlement). list_after o list) (sym r);
        leaves_archive = l;
      }
