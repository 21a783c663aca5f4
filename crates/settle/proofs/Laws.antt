-- Settle's promise, by what the tests before the list found.
use mathlib.Core.Path.{◌≡◌, refl, sym, ◌∙◌, ap}
use mathlib.Core.List.{List, ◌++◌}
use Prim.Native.Nat.{ℕ, ◌≤◌, ◌<◌, min}
use native.Mathlib.Omega.{arith}
use borrow.Author.Tests.{le-leb, lt-leb}
use lib.IntN.{ℤ}
use lib.ListN.{length, take, drop}
use Rattle.rules.specs.Outcome.{Outcome, refused, given, ◌>>=◌, ◌>>◌, require}
use Rattle.rules.specs.Refusals.{no_room}
use Rattle.rules.specs.Numbers.{sumℤ}
use Rattle.rules.specs.Booking.{amounts_of}
use Rattle.rules.specs.Settle.{Answer, answer_of, Settlement, count_of, settled, settle, list_after}
use Rattle.rules.specs.Promises.{Settles}
use Rattle.rules.proofs.Demand.{settle_keeps}
use Rattle.units.specs.declared.WattHour.{WattHour}
use Rattle.prepare.specs.declared.Measure.{Measure}
use Rattle.std.specs.Prelude.{Ok, Err}
use Rattle.rules.specs.Results.{number}
use Rattle.rules.specs.declared.refusal.Refusal.{Refusal}
use Rattle.rules.specs.declared.refusal.Refusal.TheVariants.{NoRoom}
use Rattle.prepare.specs.Answers.{Stands}
use Rattle.prepare.proofs.Laws.{in_sheet, sheet_length}
use Rattle.settle.specs.Answers.{answered}

same_answer : (count count' : ℕ) (total total' : ℤ) (links links' : ℕ) → count ≡ count' → total ≡ total' → links ≡ links'
    → ◌≡◌ {A = Answer} (record { number = 0; count = count; total = total; links = links }) (record { number = 0; count = count'; total = total'; links = links' })
same_answer count count' total total' links links' c t l = rw (c, t, l)

module _ (archive : List ℕ) (p k : ℕ) (list : List ℤ) where
  -- an outcome of settle known whole
  by_outcome : (o : Outcome Settlement) (later : List ℤ) (a : Answer) → settle archive p k (length list) ≡ o → a ≡ answer_of o → later ≡ list_after o list
      → Settles archive p k list later a
  by_outcome o later a e f g =
      settle_keeps archive p k list later a (f ∙ ap answer_of (sym e)) (g ∙ ap (λ (x : Outcome Settlement). list_after x list) (sym e))

  not_settled : (n : ℕ) → settled archive p k ≡ refused n → settle archive p k (length list) ≡ refused n
  unfolding settle ◌>>=◌
  not_settled n e = rw e

  pub settles_refused : (e : Refusal) → settled archive p k ≡ refused (number e) → Settles archive p k list list (answered (Err e))
  settles_refused e i = by_outcome (refused (number e)) list _ (not_settled (number e) i) refl refl

  module _ (sheet : List ℕ) (m : Measure) (s : Stands (settled archive p k) sheet m) where
    no_place : length list < m.count → settle archive p k (length list) ≡ refused no_room
    unfolding settle ◌>>=◌ ◌>>◌ require
    no_place h = rw (s.is, lt-leb (count_of s.settlement) (length list) (omega (arith, s.counted)))

    pub settles_short : length list < m.count → Settles archive p k list list (answered (Err NoRoom))
    settles_short h = by_outcome (refused no_room) list _ (no_place h) refl refl

    placed : m.count ≤ length list → settle archive p k (length list) ≡ given s.settlement
    unfolding settle ◌>>=◌ ◌>>◌ require
    placed h = rw (s.is, le-leb (count_of s.settlement) (length list) (omega (arith, s.counted)))

    module _ (room : min (length list) 2976 ≤ length sheet) (h : m.count ≤ length list) where
      pub list_long : length (take m.count sheet) ≤ length list
      list_long = omega (arith, sheet_length s room h)

      -- the amounts booked into the list's first places, and their sum
      pub settles_given : (later : List ℤ) (count : ℕ) (total : WattHour) (links : ℕ)
          → later ≡ amounts_of m.direction m.denominator (take m.count sheet) ++ drop (length (take m.count sheet)) list
          → count ≡ m.count → total.0 ≡ sumℤ (amounts_of m.direction m.denominator (take m.count sheet)) → links ≡ m.links
          → Settles archive p k list later (answered (Ok (record { count = count; total = total; links = links })))
      settles_given later count total links l c t k' =
          by_outcome (given s.settlement) later _ (placed h)
          (same_answer _ _ _ _ _ _ (c ∙ sym s.counted) (t ∙ ap sumℤ (sym amounts)) (k' ∙ sym s.links_are))
          (l ∙ same_list)
        where
          amounts : s.settlement.amounts ≡ amounts_of m.direction m.denominator (take m.count sheet)
          amounts = s.amounts_are (in_sheet s room h)

          same_list : (amounts_of m.direction m.denominator (take m.count sheet) ++ drop (length (take m.count sheet)) list)
              ≡ s.settlement.amounts ++ drop (count_of s.settlement) list
          same_list =
              ap (λ (n : ℕ). amounts_of m.direction m.denominator (take m.count sheet) ++ drop n list) (sheet_length s room h ∙ sym s.counted)
              ∙ ap (λ (x : List ℤ). x ++ drop (count_of s.settlement) list) (sym amounts)
