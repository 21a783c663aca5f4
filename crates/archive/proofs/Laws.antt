-- What each answer of the code is, and what it says, over plain variables.
use mathlib.Core.Path.{◌≡◌, sym, ◌∙◌}
use mathlib.Core.Bool.{true, false}
use mathlib.Core.List.{List}
use Prim.Native.Nat.{ℕ, ◌+◌, ◌*◌, ◌-◌, ◌/◌, ◌≤◌, ◌<◌}
use native.Mathlib.Omega.{arith}
use lib.ListN.{length, take, drop}
use borrow.Author.Tests.{le-leb, lt-leb, lt-ltb, le-ltb}
use denote.Ref.{Bor}
use Rattle.rules.specs.Outcome.{refused, given, ◌>>◌, require}
use Rattle.rules.specs.Refusals.{not_archive}
use Rattle.rules.specs.Archive.{link_at, record_at, is_whole, is_text, used_of}
use Rattle.rules.specs.Filing.{is_shown, shown}
use Rattle.rules.specs.Promises.{Shows}
use Rattle.rules.proofs.Chains.{record_part}
use Rattle.rules.proofs.Sound.{used_head, head_room}

-- ---- the head

module _ (a : List ℕ) where
  pub head_size : is_whole (length a) ≡ false → refused not_archive ≡ used_of a
  unfolding used_of ◌>>◌ require
  head_size s = rw s

  module _ (size : is_whole (length a) ≡ true) where
    pub head_text : is_text (record_at a 0) ≡ false → refused not_archive ≡ used_of a
    unfolding used_of ◌>>◌ require
    head_text t = rw (size, t)

    module _ (text : is_text (record_at a 0) ≡ true) (u : ℕ) (count : u ≡ link_at (record_at a 0) 4) where
      pub head_none : u < 1 → refused not_archive ≡ used_of a
      unfolding used_of ◌>>◌ require
      head_none h = rw (size, text, ← count, lt-leb 1 u h)

      pub head_over : 1 ≤ u → length a / 32 < u → refused not_archive ≡ used_of a
      unfolding used_of ◌>>◌ require
      head_over g h = rw (size, text, ← count, le-leb 1 u g, lt-leb u (length a / 32) h)

      pub head_used : 1 ≤ u → u ≤ length a / 32 → given u ≡ used_of a
      unfolding used_of ◌>>◌ require
      head_used g h = rw (size, text, ← count, le-leb 1 u g, le-leb u (length a / 32) h)

  -- what a U that was read says
  pub record Opened (u : ℕ) : Type 0 where
    pub is : used_of a ≡ given u
    pub some : 1 ≤ u
    pub few : u < 65536
    pub within : 32 * u ≤ length a

  pub opened : (u : ℕ) → given u ≡ used_of a → Opened u
  opened u e =
      let h = used_head a u (sym e) in
      let r = head_room a u h in
      record { is = sym e; some = omega arith; few = omega arith; within = omega arith }

  -- the same, each by itself
  pub used_some : (u : ℕ) → given u ≡ used_of a → 1 ≤ u
  used_some u e = let o = opened u e in o.some

  pub used_few : (u : ℕ) → given u ≡ used_of a → u < 65536
  used_few u e = let o = opened u e in o.few

  pub used_fits : (u : ℕ) → given u ≡ used_of a → 32 * u ≤ length a
  used_fits u e = let o = opened u e in o.within

-- ---- show

module _ (archive : Bor (List ℕ)) (n : ℕ) (part : Bor (List ℕ)) (block : part.ref_ptr.0 ≡ archive.ref_ptr.0) where
  pub shows_part : (u : ℕ) → used_of archive.now ≡ given u → n < u → part.now ≡ take (32 * n + 32 - 32 * n) (drop (32 * n) archive.now)
      → part.ref_ptr.1 ≡ 32 * n + archive.ref_ptr.1 → Shows archive n part
  unfolding shown
  shows_part u e h content offset = record {
    content = content ∙ rw (e, lt-ltb n u h) (record_part archive.now n);
    block = block;
    offset = offset ∙ rw (e, lt-ltb n u h) (omega arith);
  }

  module _ (content : part.now ≡ take 0 (drop 0 archive.now)) (offset : part.ref_ptr.1 ≡ 0 + archive.ref_ptr.1) where
    shows_empty : is_shown (used_of archive.now) n ≡ false → Shows archive n part
    unfolding shown
    shows_empty f = record {
      content = content ∙ rw f;
      block = block;
      offset = offset ∙ rw f (omega arith);
    }

    pub shows_past : (u : ℕ) → used_of archive.now ≡ given u → u ≤ n → Shows archive n part
    shows_past u e h = shows_empty (rw (e, le-ltb n u h))

    pub shows_refused : (k : ℕ) → used_of archive.now ≡ refused k → Shows archive n part
    shows_refused k e = shows_empty (rw (e, le-ltb n 0 (omega arith)))
