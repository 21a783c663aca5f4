-- What each answer of destination_for is, over plain variables.
use Rattle.std.proofs.Common.{◌≡◌, ℕ, ◌+◌, ◌*◌, ◌/◌, ◌≤◌, ◌<◌, true, List, length, refl, ap, arith}
use Rattle.rules.specs.Outcome.{Outcome, refused, given, ◌>>=◌}
use Rattle.rules.specs.Refusals.{archive_full}
use Rattle.rules.specs.Archive.{link_at, kind_of, used_of, Entry, chain}
use Rattle.rules.specs.Filing.{new_allowed, offset_for, last_place, append_after, append}
use Rattle.rules.proofs.Sound.{used_head, whole_length}
use Rattle.rules.proofs.Append.{allowed_new}
use Rattle.rules.proofs.AppendSteps.{used_within, offset_within, append_bad_chain, append_full, append_files, last_link}
use Rattle.chains.specs.declared.ChainEnd.{ChainEnd}
use Rattle.chains.specs.Answers.{end_of, ended}
use Rattle.chains.specs.Held.{LinkHeld}
use Rattle.filing.specs.Destinations.{HasRoom, EndsAt}

-- ---- the answer of a walk to the end of a chain taken apart

module _ (first : ℕ) where
  end_refused : (o : Outcome (List Entry)) (n : ℕ) → refused n ≡ ended first o → o ≡ refused n
  unfolding ◌>>=◌
  end_refused (refused k) n e = cc
  end_refused (given es) n e = cc

  end_given : (o : Outcome (List Entry)) (x : ChainEnd) → given x ≡ ended first o → (es : List Entry) × (o ≡ given es) × (x.place ≡ last_place first es)
  unfolding ◌>>=◌
  end_given (refused k) x e = cc
  end_given (given es) x e = let i : x ≡ end_of first es = cc in (es, refl, ap (λ (y : ChainEnd). y.place) i)

-- ---- where the new record goes

-- what the tests before the walk have shown
pub record Tested (archive : List ℕ) (owner : ℕ) (new : List ℕ) (used kind offset : ℕ) : Type 0 where
  pub used_is : used_of archive ≡ given used
  pub allowed : new_allowed new ≡ true
  pub kind_is : kind ≡ kind_of new
  pub offset_is : offset_for archive used owner kind ≡ given offset

module _ {archive : List ℕ} {owner : ℕ} {new : List ℕ} {used kind offset : ℕ} (t : Tested archive owner new used kind offset) where
  abbrev first : ℕ
  first = 32 * owner + offset

  abbrev met : Outcome (List Entry)
  met = chain archive used kind owner (link_at archive first)

  pub walk_needs : LinkHeld archive used owner offset
  walk_needs =
      let w = used_within archive used t.used_is in
      let x = offset_within archive used owner kind offset t.offset_is in
      record { fits = w.1; few = w.2; below = x.0; within = x.2 }

  pub chain_refused : {n : ℕ} → refused n ≡ ended first met → append archive owner new ≡ refused n
  chain_refused {n} e = append_bad_chain archive owner new used t.used_is t.allowed kind t.kind_is offset t.offset_is n (end_refused first met n e)

  module _ {x : ChainEnd} (walked : given x ≡ ended first met) where
    pub chain_full : length archive / 32 ≤ used → append archive owner new ≡ refused archive_full
    chain_full h =
        let w = end_given first met x walked in
        append_full archive owner new used t.used_is t.allowed kind t.kind_is offset t.offset_is w.0 w.1 h

    pub chain_joined : used < length archive / 32
        → (append archive owner new ≡ given (append_after archive used x.place new)) × HasRoom archive used x.place new × EndsAt archive used x.place
    chain_joined h =
        let w = end_given first met x walked in
        let p = w.2 in
        let l = whole_length (length archive) (used_head archive used t.used_is).whole in
        let f = last_link archive owner new used t.used_is t.allowed kind t.kind_is offset t.offset_is w.0 w.1 in
        rw p (
          append_files archive owner new used t.used_is t.allowed kind t.kind_is offset t.offset_is w.0 w.1 h,
          record { size = (allowed_new new t.allowed).size; free = omega arith; link = omega arith; few = omega arith },
          record { counted = t.used_is; low = f.0; high = f.1; was_zero = f.2 },
        )
