-- One before-quarter of the walk, by what the code has read and tested.
use Rattle.std.proofs.Common.{◌≡◌, ℕ, ◌+◌, ◌≤◌, ◌<◌, List, Option, Some, None, IfSome, refl, arith}
use borrow.Author.Tests.{lt-ltb, le-ltb, le-leb, lt-leb, eq-eqb, ne_eqb}
use Rattle.rules.specs.Outcome.{Outcome, refused, given}
use Rattle.rules.specs.Archive.{byte_at}
use Rattle.rules.specs.Terms.{before_of}
use Rattle.comparison.specs.declared.Sums.{Sums}
use Rattle.comparison.specs.Sums.{Choice, taken, added_answer, RoomAdded}
use Rattle.comparison.specs.declared.Walk.{Walk}
use Rattle.comparison.specs.Walks.{counted, not_fine, with_taken, stepped, RoomOf}

-- ---- room

-- what is added keeps no more used than met
pub room_added : (count : ℕ) (s : Sums) (x : Option Sums) → RoomOf count s → RoomAdded s x → IfSome x (RoomOf (count + 1))
room_added count s None room g = tt
room_added count s (Some t) room g = record { room = g.room; used = omega (arith, room.used, g.one) }

pub room_kept : (count : ℕ) (x : Option Sums) → IfSome x (RoomOf count) → IfSome x (RoomOf (count + 1))
room_kept count None room = tt
room_kept count (Some s) room = record { room = room.room; used = omega (arith, room.used) }

-- ---- a step

module _ (choice : Choice) (w : Walk) (r : List ℕ) where
  pub step_skipped : w.sums ≡ None → counted w ≡ stepped choice w r
  unfolding stepped
  step_skipped e = rw e refl

  module _ {s : Sums} (fine : w.sums ≡ Some s) where
    pub step_bad : 1 < byte_at r 1 → not_fine w ≡ stepped choice w r
    unfolding stepped
    step_bad h = rw (fine, lt-leb (byte_at r 1) 1 h) refl

    pub step_unmarked : byte_at r 1 ≤ 1 → (byte_at r 1 ≡ 1 → ⊥) → counted w ≡ stepped choice w r
    unfolding stepped
    step_unmarked h z = rw (fine, le-leb (byte_at r 1) 1 h, ne_eqb (byte_at r 1) 1 z) refl

    module _ (one : byte_at r 1 ≡ 1) where
      pub step_over : 96 ≤ w.count → counted w ≡ stepped choice w r
      unfolding stepped
      step_over h = rw (fine, le-leb (byte_at r 1) 1 (omega arith), eq-eqb (byte_at r 1) 1 one, le-ltb w.count 96 h) refl

      pub step_added : w.count < 96 → (x : Option Sums) → x ≡ added_answer (taken choice s (before_of r))
          → ◌≡◌ {A = Walk} (record { count = w.count + 1; sums = x }) (stepped choice w r)
      unfolding stepped
      step_added few x a =
          rw (fine, le-leb (byte_at r 1) 1 (omega arith), eq-eqb (byte_at r 1) 1 one, lt-ltb w.count 96 few) (go (taken choice s (before_of r)) a)
        where
          go : (o : Outcome Sums) → x ≡ added_answer o → ◌≡◌ {A = Walk} (record { count = w.count + 1; sums = x }) (with_taken w o)
          go (refused n) b = rw b refl
          go (given t) b = rw b refl
