-- Preview (02, 6): an append is undone on every archive, which isn't taking back; a preview is append's refusal, or settle on the later archive.
use mathlib.Core.Path.{◌≡◌, refl, sym, ◌∙◌, ap}
use mathlib.Core.List.{List, []}
use Prim.Native.Nat.{ℕ, ◌+◌, ◌*◌, ◌≤◌}
use native.Mathlib.Omega.{arith}
use lib.ListN.{length}
use Rattle.rules.specs.Outcome.{Outcome, refused, given, ◌>>=◌}
use Rattle.rules.specs.Archive.{byte_at, link_at, record_at, used_of}
use Rattle.rules.specs.Settle.{Settlement, answer_of, list_after, settle}
use Rattle.rules.specs.Host.{host_settle}
use Rattle.rules.specs.Filing.{archive_after, append_after, append}
use Rattle.rules.specs.TakeBack.{taken_back, take_back}
use Rattle.rules.specs.Preview.{preview, host_preview, undone}
use Rattle.rules.specs.Demands.{AreBytes, PreviewSettles, AppendsUndone, UndoingIsNotTakingBack}
use Rattle.rules.specs.Figures.{unused}
use Rattle.rules.specs.PreviewFigures.{awaiting, waiting, third, three_measures, stale, planned}
use Rattle.rules.proofs.Sound.{used_head, head_used}
use Rattle.rules.proofs.Write.{written_again, count_written, place_above, place_below}
use Rattle.rules.proofs.Append.{append_says, link_place, place_zero, room, writing}
use Rattle.rules.proofs.Demand.{settle_keeps}
use Rattle.rules.proofs.Figures.{rules}

-- ---- an append undone

-- over plain variables: the last link of a chain, below record `used`, and a new record of 32 bytes
pub undone_appended : (archive : List ℕ) (used place : ℕ) (new : List ℕ) → AreBytes archive → used_of archive ≡ given used → length new ≡ 32
    → 8 ≤ place → place + 4 ≤ 32 * used → 32 * used + 32 ≤ length archive → link_at archive place ≡ 0
    → undone (append_after archive used place new) used place (record_at archive used) ≡ archive
unfolding undone append_after
undone_appended archive used place new bytes counted size low high free was_zero =
    written_again archive used place new used (used + 1) size low high free was_zero (count_written archive used bytes (used_head archive used counted).count)

pub appends_undone : AppendsUndone
appends_undone archive owner new appended bytes e =
    let a = append_says archive owner new appended e in
    let w = writing archive owner new appended a in
    record {
      used = a.used;
      place = link_place archive owner new appended a;
      counted = head_used archive a.used a.head;
      was_zero = place_zero archive owner new appended a;
      wrote = sym a.after_is;
      gives_back =
          ap (λ (x : List ℕ). undone x a.used (link_place archive owner new appended a) (record_at archive a.used)) (sym a.after_is)
          ∙ undone_appended archive a.used (link_place archive owner new appended a) new bytes (head_used archive a.used a.head) a.fresh_new.size
          (place_above w) (place_below w) (room archive owner new appended a).0 (place_zero archive owner new appended a);
    }

-- ---- it isn't taking back

pub undoing_is_not_taking_back : UndoingIsNotTakingBack
unfolding rules taken_back take_back undone awaiting three_measures
undoing_is_not_taking_back = record {
  may_be_refused = (
    stale,
    archive_after (append stale 2 (planned 600000)) [],
    record {
      owner = 2;
      new = planned 600000;
      files = refl;
      undoes = record { used = 9; place = 32 * 5 + 4; counted = refl; was_zero = refl; wrote = refl; gives_back = refl };
    },
    refl,
  );
  may_lose = (
    waiting,
    archive_after (append waiting 2 third) [],
    awaiting (unused 1),
    record {
      owner = 2;
      new = third;
      files = refl;
      undoes = record { used = 6; place = 32 * 5 + 4; counted = refl; was_zero = refl; wrote = refl; gives_back = refl };
    },
    refl,
    λ e. let z : byte_at (awaiting (unused 1)) 192 ≡ byte_at waiting 192 = ap (λ (l : List ℕ). byte_at l 192) e in absurd (omega arith),
  );
}

-- ---- a preview is append's refusal, or settle on the later archive

module _ (archive : List ℕ) (owner : ℕ) (new : List ℕ) (p k : ℕ) where
  pub preview_refused : (places n : ℕ) → append archive owner new ≡ refused n → preview archive owner new p k places ≡ refused n
  unfolding preview ◌>>=◌
  preview_refused places n e = rw e

  pub preview_settled : (places : ℕ) (appended : List ℕ) → append archive owner new ≡ given appended → preview archive owner new p k places ≡ settle appended p k places
  unfolding preview ◌>>=◌
  preview_settled places appended e = rw e

  pub host_preview_refused : (list_bytes result_bytes n : ℕ) → append archive owner new ≡ refused n → host_preview archive owner new p k list_bytes result_bytes ≡ refused n
  unfolding host_preview ◌>>=◌
  host_preview_refused list_bytes result_bytes n e = rw e

  pub host_preview_settled : (list_bytes result_bytes : ℕ) (appended : List ℕ) → append archive owner new ≡ given appended
      → host_preview archive owner new p k list_bytes result_bytes ≡ host_settle appended p k list_bytes result_bytes
  unfolding host_preview ◌>>=◌
  host_preview_settled list_bytes result_bytes appended e = rw e

pub preview_settles : PreviewSettles
preview_settles = record {
  append_first = λ archive owner new p k list later_list later answer n h e.
      let q = preview_refused archive owner new p k (length list) n e in
      (h.answers ∙ ap answer_of q, h.leaves_list ∙ ap (λ (o : Outcome Settlement). list_after o list) q);
  then_settle = λ archive owner new p k list later_list later answer appended h e.
      let q = preview_settled archive owner new p k (length list) appended e in
      settle_keeps appended p k list later_list answer (h.answers ∙ ap answer_of q) (h.leaves_list ∙ ap (λ (o : Outcome Settlement). list_after o list) q);
  host_append_first = λ archive owner new p k list later_list result later_result later_archive number n h e.
      let q = host_preview_refused archive owner new p k (length list) (length result) n e in
      (rw q at h.answers, rw q at h.leaves_list, rw q at h.leaves_result);
  host_then_settle = λ archive owner new p k list later_list result later_result later_archive number appended h e.
      let q = host_preview_settled archive owner new p k (length list) (length result) appended e in
      record { answers = rw q at h.answers; leaves_list = rw q at h.leaves_list; leaves_result = rw q at h.leaves_result };
}
