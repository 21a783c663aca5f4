-- The walk along the points, beside the law of walking: what it keeps from turn to turn, what it answers, and what that says to a caller.
use mathlib.Core.Path.{◌≡◌, refl, sym, ◌∙◌, ap, subst}
use mathlib.Core.List.{List}
use Prim.Native.Nat.{ℕ, ◌≤◌, ◌<◌}
use native.Mathlib.Omega.{arith}
use lib.ListN.{length}
use Rattle.rules.specs.Outcome.{Outcome, refused, given, ◌>>=◌}
use Rattle.rules.specs.Archive.{link_at, record_at, point_kind, Entry, chain}
use Rattle.rules.specs.Settle.{points_of}
use Rattle.rules.proofs.Folds.{gathered_from}
use Rattle.place.specs.declared.Place.{Place}
use Rattle.place.specs.Places.{meant}
use Rattle.curve.specs.Tables.{Low}
use Rattle.curve.specs.Lines.{InRange}
use Rattle.std.specs.Prelude.{Result}
use Rattle.rules.specs.Results.{outcome}
use Rattle.rules.specs.declared.refusal.Refusal.{Refusal}
use Rattle.points.specs.declared.PlantCurve.{PlantCurve}
use Rattle.points.specs.Answers.{CurveRead}
use Rattle.points.specs.Steps.{Walk, walk, no_points, last_read, with_record, answer_of}
use Rattle.points.proofs.Points.{stepped, record_count, record_in_range}
use Rattle.points.proofs.Curves.{points_from, end, answered}

-- ---- from turn to turn

-- no more points than records passed, the last one in range, and a table as long as the lent one
pub record Kept (lent : List ℕ) (last : ℕ) (w : Walk) : Type 0 where
  pub few : w.read.count ≤ last
  pub in_range : InRange (last_read w.read)
  pub size : length w.powers ≡ length lent

pub kept_on : {lent : List ℕ} {last n : ℕ} {w v : Walk} (r : List ℕ) → Kept lent last w → last < n → v ≡ with_record r w
    → length v.powers ≡ length w.powers → Kept lent n v
kept_on {w = w} r k rises e size = record {
  few = omega (arith, record_count r w, ap (λ (x : Walk). x.read.count) e, k.few);
  in_range = subst (λ (x : Walk). InRange (last_read x.read)) (sym e) (record_in_range r w k.in_range);
  size = size ∙ k.size;
}

-- ---- at the end

module _ (archive : List ℕ) (place : Place) (first : ℕ) (starts : first ≡ link_at (record_at archive place.plant) 8) where
  abbrev point_chain : Outcome (List Entry)
  point_chain = chain archive place.used point_kind place.plant first

  points_are : points_of archive (meant archive place) ≡ points_from point_chain
  unfolding points_of
  points_are = rw starts

  pub walk_answers : (lent : List ℕ) {w : Walk} (r : Result PlantCurve Refusal) → length lent ≡ 1001 → Low lent
      → gathered_from stepped (walk no_points lent) point_chain ≡ given w → outcome r ≡ answer_of w.read
      → CurveRead (points_of archive (meant archive place)) r w.powers
  walk_answers lent {w} r size low gathers e = rw points_are (go point_chain gathers)
    where
      go : (o : Outcome (List Entry)) → gathered_from stepped (walk no_points lent) o ≡ given w → CurveRead (points_from o) r w.powers
      go (refused n) f = cc
      go (given es) f =
          let i : end lent es ≡ w = cc in
          subst (λ (x : Walk). CurveRead (points_from (given es)) r x.powers) i (answered lent size low es r (e ∙ rw i refl))

  pub chain_denies : {n : ℕ} → point_chain ≡ refused n → points_of archive (meant archive place) ≡ refused n
  unfolding ◌>>=◌
  chain_denies f = rw (points_are, f) refl
