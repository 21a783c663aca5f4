-- The answer of settle with a list of 2,976 places, and the step that it leads to.
use mathlib.Core.Path.{◌≡◌, refl, sym, ◌∙◌, ap, subst}
use mathlib.Core.Bool.{false}
use mathlib.Core.List.{List, ◌++◌}
use Prim.Native.Nat.{ℕ, ◌≤◌}
use native.Mathlib.Omega.{arith}
use lib.IntN.{ℤ}
use lib.ListN.{length, drop}
use Rattle.rules.specs.Outcome.{Outcome, refused, given}
use Rattle.rules.specs.Refusals.{settle_refusals}
use Rattle.rules.specs.Settle.{Answer, answer_of, Settlement, count_of, total_of, settled, settle, list_after}
use Rattle.rules.specs.Promises.{Settles}
use Rattle.rules.proofs.Refusals.{given_by_number, number_is, every_call_answers}
use Rattle.std.specs.Prelude.{Ok, Err}
use Rattle.rules.specs.Results.{number}
use Rattle.rules.specs.declared.refusal.Refusal.{Refusal}
use Rattle.settle.specs.declared.Settled.{Settled}
use Rattle.settle.specs.Answers.{answered}
use Rattle.report.specs.declared.Cursor.{Cursor}
use Rattle.report.specs.Cursors.{finished, Advances}
use Rattle.report.proofs.Laws.{finished_if}
use Rattle.report.proofs.Counts.{settled_counted, settle_long}

pub record WasRefused (archive : List ℕ) (p k : ℕ) (list list' : List ℤ) (n : ℕ) : Type 0 where
  pub is : settled archive p k ≡ refused n
  pub kept : list' ≡ list

pub record WasGiven (archive : List ℕ) (p k : ℕ) (list list' : List ℤ) (count : ℕ) (total : ℤ) (links : ℕ) : Type 0 where
  pub settlement : Settlement
  pub is : settled archive p k ≡ given settlement
  pub count_is : count ≡ count_of settlement
  pub total_is : total ≡ total_of settlement
  pub links_are : links ≡ settlement.links
  pub leaves : list' ≡ settlement.amounts ++ drop (count_of settlement) list

module _ (archive : List ℕ) (p k : ℕ) (list list' : List ℤ) (size : length list ≡ 2976) where
  same : settle archive p k (length list) ≡ settled archive p k
  same = settle_long archive p k (length list) (omega arith)

  pub was_refused : (e : Refusal) → Settles archive p k list list' (answered (Err e)) → WasRefused archive p k list list' (number e)
  was_refused e h = go (settled archive p k) refl (h.answers ∙ ap answer_of same) (h.leaves ∙ ap (λ (o : Outcome Settlement). list_after o list) same)
    where
      go : (o : Outcome Settlement) → settled archive p k ≡ o → answered (Err e) ≡ answer_of o → list' ≡ list_after o list → WasRefused archive p k list list' (number e)
      go (refused m) f a l = record { is = f ∙ ap refused (sym (ap (λ (y : Answer). y.number) a)); kept = l }
      go (given s) f a l =
          let c : 0 ≡ count_of s = ap (λ (y : Answer). y.count) a in
          absurd (omega (arith, ((settled_counted archive p k).of s f).some))

  pub was_given : (x : Settled) → Settles archive p k list list' (answered (Ok x)) → WasGiven archive p k list list' x.count x.total.0 x.links
  was_given x h =
      let g = given_by_number settle_refusals refl (settle archive p k (length list)) (every_call_answers.settles archive p k (length list))
      (sym (number_is (settle archive p k (length list)) h.answers)) in
      let a : answered (Ok x) ≡ answer_of (given g.0) = h.answers ∙ ap answer_of g.1 in record {
        settlement = g.0;
        is = sym same ∙ g.1;
        count_is = ap (λ (y : Answer). y.count) a;
        total_is = ap (λ (y : Answer). y.total) a;
        links_are = ap (λ (y : Answer). y.links) a;
        leaves = h.leaves ∙ ap (λ (o : Outcome Settlement). list_after o list) g.1;
      }

pub advances_kept : {archive : List ℕ} {c c' : Cursor} {list list' : List ℤ} {out out' : List ℕ} → list' ≡ list
    → Advances archive c list out c' list out' → Advances archive c list out c' list' out'
advances_kept {archive} {c} {c'} {list} {list'} {out} {out'} e w = subst (λ (l : List ℤ). Advances archive c list out c' l out') (sym e) w

-- a cursor that isn't finished and has no quarter left isn't done
pub not_done : (c : Cursor) → finished c ≡ false → c.count ≤ c.place → c.done ≡ false
not_done c e h = finished_if c h ∙ e
