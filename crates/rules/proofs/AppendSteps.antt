-- Append, one test after another: what each test that fails makes of it, and what all that pass make of it.
use mathlib.Core.Path.{◌≡◌, ◌∙◌, ap}
use mathlib.Core.Bool.{true, false}
use mathlib.Core.List.{List}
use Prim.Native.Nat.{ℕ, ◌+◌, ◌*◌, ◌/◌, ◌≤◌, ◌<◌}
use native.Mathlib.Omega.{arith}
use lib.ListN.{length}
use borrow.Author.Tests.{lt-ltb, le-ltb}
use Rattle.rules.specs.Outcome.{refused, given, ◌>>=◌, ◌>>◌, require}
use Rattle.rules.specs.Refusals.{bad_record, archive_full}
use Rattle.rules.specs.Archive.{link_at, kind_of, used_of, Entry, chain}
use Rattle.rules.specs.Links.{link}
use Rattle.rules.specs.Filing.{new_allowed, offset_for, last_place, append_after, append}
use Rattle.rules.proofs.Places.{owned_at_lem}
use Rattle.rules.proofs.Sound.{used_head, head_room}
use Rattle.rules.proofs.Runs.{last_at, last_is, chain_runs, last_within, last_ends}
use Rattle.rules.proofs.Append.{offset_owned}

-- U records lie in the archive, which has at most 65,535
pub used_within : (archive : List ℕ) (used : ℕ) → used_of archive ≡ given used → (1 ≤ used) × (32 * used ≤ length archive) × (used < 65536)
used_within archive used u = let h = used_head archive used u in let r = head_room archive used h in let s = h.some in omega arith

-- the owner is a used record and its link lies in it
pub offset_within : (archive : List ℕ) (used owner kind offset : ℕ) → offset_for archive used owner kind ≡ given offset
    → (owner < used) × (8 ≤ offset) × (offset + 4 ≤ 32)
offset_within archive used owner kind offset o =
    let w = offset_owned archive used owner kind offset o in
    let x = owned_at_lem archive owner (link offset kind) w.has in
    (w.below, x.0, x.1)

module _ (archive : List ℕ) (owner : ℕ) (new : List ℕ) where
  pub append_no_head : (n : ℕ) → used_of archive ≡ refused n → append archive owner new ≡ refused n
  unfolding append ◌>>=◌
  append_no_head n u = rw u

  module _ (used : ℕ) (u : used_of archive ≡ given used) where
    pub append_bad_record : new_allowed new ≡ false → append archive owner new ≡ refused bad_record
    unfolding append ◌>>=◌ ◌>>◌ require
    append_bad_record a = rw (u, a)

    module _ (a : new_allowed new ≡ true) (kind : ℕ) (k : kind ≡ kind_of new) where
      pub append_bad_owner : (n : ℕ) → offset_for archive used owner kind ≡ refused n → append archive owner new ≡ refused n
      unfolding append ◌>>=◌ ◌>>◌ require
      append_bad_owner n o = rw (u, a, ← k, o)

      module _ (offset : ℕ) (o : offset_for archive used owner kind ≡ given offset) where
        pub append_bad_chain : (n : ℕ) → chain archive used kind owner (link_at archive (32 * owner + offset)) ≡ refused n
            → append archive owner new ≡ refused n
        unfolding append ◌>>=◌ ◌>>◌ require
        append_bad_chain n c = rw (u, a, ← k, o, c)

        module _ (es : List Entry) (c : chain archive used kind owner (link_at archive (32 * owner + offset)) ≡ given es) where
          pub append_full : length archive / 32 ≤ used → append archive owner new ≡ refused archive_full
          unfolding append ◌>>=◌ ◌>>◌ require
          append_full h = rw (u, a, ← k, o, c, le-ltb used (length archive / 32) h)

          pub append_files : used < length archive / 32 → append archive owner new ≡ given (append_after archive used (last_place (32 * owner + offset) es) new)
          unfolding append ◌>>=◌ ◌>>◌ require
          append_files h = rw (u, a, ← k, o, c, lt-ltb used (length archive / 32) h)

          -- the link that is to name the record stands behind the head's count, in the used part, and is zero
          pub last_link : let place = last_place (32 * owner + offset) es in (8 ≤ place) × (place + 4 ≤ 32 * used) × (link_at archive place ≡ 0)
          last_link =
              let w = offset_within archive used owner kind offset o in
              let r = chain_runs archive used kind owner (32 * owner + offset) es c in
              let y = last_within archive used kind owner (32 * owner + offset) r.0 r.1 (omega arith) (omega arith) in
              let i : last_place (32 * owner + offset) es ≡ last_at (32 * owner + offset) r.0 = ap (last_place (32 * owner + offset)) r.2 ∙ last_is archive (32 * owner + offset) r.0 in
              (omega arith, omega arith, ap (link_at archive) i ∙ last_ends archive used kind owner (32 * owner + offset) r.0 r.1)
