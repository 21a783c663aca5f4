-- From the walk's last state to the curve of the points: what it answers, and what its table says.
use mathlib.Core.Path.{◌≡◌, refl, sym, ◌∙◌, ap, subst}
use mathlib.Core.Bool.{Bool, true, false, false≢true, cond, ◌&&◌}
use mathlib.Core.List.{List, [], ◌∷◌, ◌++◌, append_assoc}
use mathlib.Core.Logic.{◌⊎◌, inl, inr}
use Prim.Native.Nat.{ℕ, ◌≤◌, ◌<◌}
use native.Mathlib.Nat.{eq-or-lt_of_le, le_of_lt}
use native.Mathlib.Omega.{arith}
use borrow.Author.Tests.{lt-ltb, le-ltb}
use lib.Dec.{T, leb, ltb, ltb→lt}
use lib.ListN.{length, get_or, set, length-set, length-map}
use lib.Seq.{get_or-set_same}
use Rattle.rules.specs.Outcome.{Outcome, refused, given, ◌>>=◌, ◌>>◌, require}
use Rattle.rules.specs.Results.{number, outcome}
use Rattle.rules.specs.declared.refusal.Refusal.{Refusal}
use Rattle.std.specs.Prelude.{Result, Ok, Err}
use Rattle.points.specs.declared.PlantCurve.{PlantCurve}
use Rattle.rules.specs.Refusals.{out_of_range, bad_curve}
use Rattle.rules.specs.Archive.{Entry}
use Rattle.rules.specs.Terms.{Point, point_of}
use Rattle.rules.specs.Reference.{read_curve, below, on}
use Rattle.rules.specs.Settle.{rising}
use Rattle.rules.proofs.Folds.{gathered}
use Rattle.rules.proofs.Inversion.{both_left, both_right, All, none, more}
use Rattle.rules.proofs.Sound.{both}
use Rattle.rules.proofs.Curve.{below_first, above_last, from_point, between, at_point}
use Rattle.curve.specs.Tables.{table_reading, Low, Tabulates}
use Rattle.curve.specs.Lines.{InRange, Piece}
use Rattle.curve.proofs.Fills.{either_side, set_low, next_size, next_before, next_line, next_point, next_low}
use Rattle.points.specs.Steps.{Walk, walk, no_points, last_read, counted, with_next, with_point, curve_of, answer_of}
use Rattle.points.specs.Answers.{CurveRead}
use Rattle.points.proofs.Points.{stepped, onward, points, allowed, all_counted, all_tested, followed, all_followed, all_in_range, onward_next, all_rise}

-- ---- the table up to the last point that was read, of the curve of all points

pub record Upto (whole rest : List Point) (w : Walk) : Type 0 where
  pub front : List Point
  pub split : whole ≡ front ++ last_read w.read ∷ rest
  pub rises : T (rising (last_read w.read ∷ rest))
  pub some : 0 < w.read.count
  pub in_range : InRange (last_read w.read)
  pub size : length w.powers ≡ 1001
  pub low : Low w.powers
  pub starts : (v : ℕ) → v < w.read.first → read_curve whole v ≡ below
  pub agrees : (v : ℕ) → w.read.first ≤ v → v ≤ w.read.last → read_curve whole v ≡ on (get_or w.powers v 0)

upto_first : (a : Point) (rest : List Point) (powers : List ℕ) → T (rising (a ∷ rest)) → InRange a → length powers ≡ 1001 → Low powers
    → Upto (a ∷ rest) rest (onward a (walk no_points powers))
unfolding with_point
upto_first a rest powers t h size low = record {
  front = [];
  split = refl;
  rises = t;
  some = omega arith;
  in_range = h;
  size = length-set powers a.speed a.power ∙ size;
  low = set_low powers a.speed a.power inside h.low_power low;
  starts = λ v k. below_first a rest v k;
  agrees = λ v k l. at v (omega arith);
}
  where
    inside : a.speed < length powers
    inside = omega (arith, h.low_speed)

    at : (v : ℕ) → v ≡ a.speed → read_curve (a ∷ rest) v ≡ on (get_or (set powers a.speed a.power) v 0)
    at v e = rw e (at_point [] a rest t ∙ ap on (sym (get_or-set_same powers a.speed a.power 0 inside)))

module _ (whole : List Point) (t : T (rising whole)) where
  upto_next : (b : Point) (rest : List Point) (w : Walk) → InRange b → Upto whole (b ∷ rest) w → Upto whole rest (onward b w)
  upto_next b rest w h u = rw (onward_next b w u.some p.rises) (record {
    front = u.front ++ a ∷ [];
    split = split;
    rises = both_right (ltb a.speed b.speed) (rising (b ∷ rest)) u.rises;
    some = omega arith;
    in_range = h;
    size = next_size a b w.powers p u.size;
    low = next_low a b w.powers p u.size u.low;
    starts = u.starts;
    agrees = λ v k l. at v k (either_side v a.speed) (eq-or-lt_of_le l);
  })
    where
      a : Point
      a = last_read w.read

      p : Piece a b
      p = record {
        rises = ltb→lt a.speed b.speed (both_left (ltb a.speed b.speed) (rising (b ∷ rest)) u.rises);
        left = u.in_range;
        right = h;
      }

      split : whole ≡ (u.front ++ a ∷ []) ++ b ∷ rest
      split = u.split ∙ sym (append_assoc u.front (a ∷ []) (b ∷ rest))

      at : (v : ℕ) → w.read.first ≤ v → (v < a.speed) ⊎ (a.speed ≤ v) → (v ≡ b.speed) ⊎ (v < b.speed)
          → read_curve whole v ≡ on (get_or (with_next b (counted w.read) w.powers).powers v 0)
      at v k (inl x) y = u.agrees v k (le_of_lt x) ∙ ap on (sym (next_before a b w.powers p u.size v x))
      at v k (inr x) (inr y) =
          ap (λ (l : List Point). read_curve l v) u.split ∙ between u.front a b rest v (subst (λ (l : List Point). T (rising l)) u.split t) x y
          ∙ ap on (sym (next_line a b w.powers p u.size v x y))
      at v k (inr x) (inl y) =
          rw y (ap (λ (l : List Point). read_curve l b.speed) split ∙ at_point (u.front ++ a ∷ []) b rest (subst (λ (l : List Point). T (rising l)) split t)
          ∙ ap on (sym (next_point a b w.powers p u.size)))

  upto_all : (rest : List Point) (w : Walk) → All InRange rest → Upto whole rest w → Upto whole [] (followed w rest)
  upto_all [] w none u = u
  upto_all (b ∷ rest) w (more h hs) u = upto_all rest (onward b w) hs (upto_next b rest w h u)

  tabulated : (w : Walk) → Upto whole [] w → Tabulates (curve_of w.read) w.powers whole
  tabulated w u = record {
    size = u.size;
    agrees = λ v h. at v (either_side v w.read.first) (either_side w.read.last v);
    low = u.low;
  }
    where
      at : (v : ℕ) → (v < w.read.first) ⊎ (w.read.first ≤ v) → (w.read.last < v) ⊎ (v ≤ w.read.last)
          → table_reading (curve_of w.read) w.powers v ≡ read_curve whole v
      at v (inl x) y = rw (lt-ltb v w.read.first x) (sym (u.starts v x))
      at v (inr x) (inl y) =
          rw (le-ltb v w.read.first x, lt-ltb w.read.last v y)
          (sym (ap (λ (l : List Point). read_curve l v) u.split
          ∙ from_point u.front (last_read w.read) [] v (subst (λ (l : List Point). T (rising l)) u.split t) (le_of_lt y)
          ∙ above_last (last_read w.read ∷ []) v (more y none)))
      at v (inr x) (inr y) = rw (le-ltb v w.read.first x, le-ltb w.read.last v y) (sym (u.agrees v x y))

-- ---- what the walk answers

abbrev pub points_from : Outcome (List Entry) → Outcome (List Point)
points_from o = do
  entries ← o
  require (allowed entries) out_of_range
  require (leb 2 (length entries) && rising (points entries)) bad_curve
  given (points entries)

module _ (powers : List ℕ) where
  -- where a walk over these records ends
  abbrev pub end : List Entry → Walk
  end es = gathered stepped (walk no_points powers) es

  end_rising : (es : List Entry) → allowed es ≡ true → (end es).read.rising ≡ rising (points es)
  unfolding with_point
  end_rising [] h = refl
  end_rising (e ∷ es) h =
      ap (λ w. w.read.rising) (all_followed (walk no_points powers) (e ∷ es) h)
      ∙ all_rise (onward (point_of e.bytes) (walk no_points powers)) (points es) (omega arith)

  end_answer_lem : (es : List Entry) → answer_of (end es).read
      ≡ cond (allowed es)
      (cond (leb 2 (length es) && rising (points es)) (given (record { curve = curve_of (end es).read; links = length es })) (refused bad_curve))
      (refused out_of_range)
  unfolding answer_of
  end_answer_lem es = go (allowed es) (all_tested (walk no_points powers) es) (end_rising es)
    where
      count : (end es).read.count ≡ length es
      count = all_counted (walk no_points powers) es ∙ omega arith

      go : (t : Bool) → (end es).read.allowed ≡ t → (t ≡ true → (end es).read.rising ≡ rising (points es)) → answer_of (end es).read
          ≡ cond t
          (cond (leb 2 (length es) && rising (points es)) (given (record { curve = curve_of (end es).read; links = length es })) (refused bad_curve))
          (refused out_of_range)
      go true e f = rw (e, count, f refl)
      go false e f = rw e

  module _ (size : length powers ≡ 1001) (low : Low powers) where
    end_tabulates : (es : List Entry) → allowed es ≡ true → (leb 2 (length es) && rising (points es)) ≡ true
        → Tabulates (curve_of (end es).read) (end es).powers (points es)
    end_tabulates [] h k = absurd (false≢true k)
    end_tabulates (e ∷ es) h k =
        subst (λ (w : Walk). Tabulates (curve_of w.read) w.powers (points (e ∷ es))) (sym (all_followed (walk no_points powers) (e ∷ es) h))
        (ends (all_in_range (e ∷ es) h))
      where
        t : T (rising (points (e ∷ es)))
        t = subst T (sym (both (leb 2 (length (e ∷ es))) (rising (points (e ∷ es))) k).1) tt

        ends : All InRange (points (e ∷ es))
            → let w = followed (walk no_points powers) (points (e ∷ es)) in
            Tabulates (curve_of w.read) w.powers (points (e ∷ es))
        ends (more f fs) =
            tabulated (points (e ∷ es)) t (followed (walk no_points powers) (points (e ∷ es)))
            (upto_all (points (e ∷ es)) t (points es) (onward (point_of e.bytes) (walk no_points powers)) fs
            (upto_first (point_of e.bytes) (points es) powers t f size low))

    pub answered : (es : List Entry) (r : Result PlantCurve Refusal) → outcome r ≡ answer_of (end es).read
        → CurveRead (points_from (given es)) r (end es).powers
    unfolding ◌>>=◌ ◌>>◌ require
    answered es r a = go (allowed es) refl (leb 2 (length es) && rising (points es)) refl r (a ∙ end_answer_lem es)
      where
        go : (t : Bool) → allowed es ≡ t → (u : Bool) → (leb 2 (length es) && rising (points es)) ≡ u → (r : Result PlantCurve Refusal)
            → outcome r ≡ cond (allowed es)
            (cond (leb 2 (length es) && rising (points es)) (given (record { curve = curve_of (end es).read; links = length es })) (refused bad_curve))
            (refused out_of_range)
            → CurveRead (points_from (given es)) r (end es).powers
        go false e u f (Ok x) b = let b' = rw e at b in cc
        go false e u f (Err x) b = let b' = rw e at b in let i : number x ≡ out_of_range = cc in rw (e, i) refl
        go true e false f (Ok x) b = let b' = rw (e, f) at b in cc
        go true e false f (Err x) b = let b' = rw (e, f) at b in let i : number x ≡ bad_curve = cc in rw (e, f, i) refl
        go true e true f (Err x) b = let b' = rw (e, f) at b in cc
        go true e true f (Ok x) b =
            let b' = rw (e, f) at b in
            let i : x ≡ record { curve = curve_of (end es).read; links = length es } = cc in
            rw (e, f, i) (record {
              points = points es;
              is = refl;
              count = sym (length-map es (λ e. point_of e.bytes));
              tabulates = end_tabulates es e f;
            })
