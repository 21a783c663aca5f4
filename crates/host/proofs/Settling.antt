-- The C entry's promise, by what the tests before the list found.
use mathlib.Core.Path.{◌≡◌, refl, sym, ◌∙◌, ap}
use mathlib.Core.Bool.{Bool, true, false, ◌&&◌}
use mathlib.Core.List.{List, [], ◌∷◌, ◌++◌, append-nil}
use Prim.Native.Nat.{ℕ, ◌*◌, ◌/◌, ◌≤◌, ◌<◌, min}
use native.Mathlib.Omega.{arith}
use borrow.Author.Tests.{le-leb, lt-leb, ne_eqb}
use lib.Dec.{eqb, leb}
use lib.IntN.{pos}
use lib.ListN.{length, take, drop}
use Rattle.rules.specs.Outcome.{Outcome, refused, given, ◌>>=◌, ◌>>◌, require, number_of}
use Rattle.rules.specs.Refusals.{no_room}
use Rattle.rules.specs.Numbers.{sumℤ}
use Rattle.rules.specs.Encoding.{double_word, bits, encoded}
use Rattle.rules.specs.Booking.{signed, amounts_of}
use Rattle.rules.specs.Settle.{Settlement, count_of, settled}
use Rattle.rules.specs.Host.{host_settle, host_list_after, host_result_after}
use Rattle.rules.specs.Promises.{HostSettles}
use Rattle.prepare.specs.declared.Measure.{Measure}
use Rattle.prepare.specs.Answers.{Stands}
use Rattle.prepare.proofs.Laws.{in_sheet, sheet_length}

module _ (archive : List ℕ) (p k : ℕ) (list result : List ℕ) where
  -- an outcome of the entry known whole
  by_outcome : (o : Outcome Settlement) (later_list later_result : List ℕ) (number : ℕ) → host_settle archive p k (length list) (length result) ≡ o
      → number ≡ number_of o → later_list ≡ host_list_after o list → later_result ≡ host_result_after o result
      → HostSettles archive p k list later_list result later_result number
  by_outcome o later_list later_result number e f g h = record {
    answers = f ∙ ap number_of (sym e);
    leaves_list = g ∙ ap (λ (x : Outcome Settlement). host_list_after x list) (sym e);
    leaves_result = h ∙ ap (λ (x : Outcome Settlement). host_result_after x result) (sym e);
  }

  not_settled : (n : ℕ) → settled archive p k ≡ refused n → host_settle archive p k (length list) (length result) ≡ refused n
  unfolding host_settle ◌>>=◌
  not_settled n e = rw e

  pub unready : (n : ℕ) → settled archive p k ≡ refused n → HostSettles archive p k list list result result n
  unready n e = by_outcome (refused n) list result n (not_settled n e) refl refl refl

  module _ (sheet : List ℕ) (m : Measure) (s : Stands (settled archive p k) sheet m) where
    tested : (t : Bool) → (leb (count_of s.settlement) (length list / 8) && eqb (length result) 24) ≡ t
        → host_settle archive p k (length list) (length result) ≡ (require t no_room >> given s.settlement)
    unfolding host_settle ◌>>=◌
    tested t e = rw (s.is, e)

    no_room_lem : (leb (count_of s.settlement) (length list / 8) && eqb (length result) 24) ≡ false → HostSettles archive p k list list result result no_room
    unfolding ◌>>◌ require
    no_room_lem e = by_outcome (refused no_room) list result no_room (tested false e) refl refl refl

    pub list_short : length list / 8 < m.count → HostSettles archive p k list list result result no_room
    list_short h = no_room_lem (rw (lt-leb (count_of s.settlement) (length list / 8) (omega (arith, s.counted))))

    pub result_wrong : m.count ≤ length list / 8 → (length result ≡ 24 → ⊥) → HostSettles archive p k list list result result no_room
    result_wrong h f =
        no_room_lem (rw (le-leb (count_of s.settlement) (length list / 8) (omega (arith, s.counted))) (ne_eqb (length result) 24 f))

    module _ (room : min (length list / 8) 2976 ≤ length sheet) (h : m.count ≤ length list / 8) where
      -- the amounts and the three results written
      pub all_written : length result ≡ 24 → (later_list later_result : List ℕ) (total bits_of_total : ℕ)
          → later_list ≡ encoded (amounts_of m.direction m.denominator (take m.count sheet)) ++ drop (8 * length (take m.count sheet)) list
          → signed m.direction total ≡ sumℤ (amounts_of m.direction m.denominator (take m.count sheet))
          → bits_of_total ≡ bits (signed m.direction total)
          → later_result ≡ double_word m.count ++ (double_word bits_of_total ++ double_word m.links)
          → HostSettles archive p k list later_list result later_result 0
      unfolding ◌>>◌ require encoded
      all_written n later_list later_result total bits_of_total l t b r =
          by_outcome (given s.settlement) later_list later_result 0
          (tested true (rw (le-leb (count_of s.settlement) (length list / 8) (omega (arith, s.counted)), n)))
          refl
          (l ∙ rw (sheet_length s room h, s.counted, s.amounts_are (in_sheet s room h)))
          (r ∙ results)
        where
          results : double_word m.count ++ (double_word bits_of_total ++ double_word m.links)
              ≡ encoded (pos (count_of s.settlement) ∷ sumℤ s.settlement.amounts ∷ pos s.settlement.links ∷ [])
          results = rw (b, t, s.counted, s.amounts_are (in_sheet s room h), s.links_are, append-nil)
