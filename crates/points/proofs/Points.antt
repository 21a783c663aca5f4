-- The steps of the walk along the points, put together: what it has read, from the records of a whole chain.
use mathlib.Core.Path.{◌≡◌, refl, sym, ◌∙◌, ap}
use mathlib.Core.Bool.{Bool, true, false, cond, ◌&&◌, and-true, and-false, and_assoc}
use mathlib.Core.List.{List, [], ◌∷◌, map}
use mathlib.Core.Logic.{⊎_elim}
use Prim.Native.Nat.{ℕ, ◌+◌, ◌≤◌, ◌<◌}
use native.Mathlib.Omega.{arith}
use borrow.Author.Tests.{lt-ltb, le-ltb}
use lib.Dec.{eqb, ltb}
use lib.ListN.{length}
use Rattle.rules.specs.Numbers.{all}
use Rattle.rules.specs.Archive.{field_at, Entry}
use Rattle.rules.specs.Terms.{Point, point_of, point_allowed, is_speed, is_curve_power}
use Rattle.rules.specs.Settle.{rising}
use Rattle.rules.proofs.Folds.{gathered}
use Rattle.rules.proofs.Inversion.{All, none, more}
use Rattle.rules.proofs.Ranges.{within_natural}
use Rattle.rules.proofs.Sound.{both}
use Rattle.curve.specs.Lines.{InRange}
use Rattle.curve.proofs.Fills.{either_side}
use Rattle.points.specs.Steps.{Walk, walk, last_read, counted, with_first, with_next, with_not_rising, with_point, with_out_of_range, with_record}
use Rattle.points.proofs.Steps.{is_next, is_not_rising}

abbrev pub stepped : Walk → Entry → Walk
stepped w e = with_record e.bytes w

-- one more point in range
abbrev pub onward : Point → Walk → Walk
onward a w = with_point a (walk (counted w.read) w.powers)

-- ---- what each step keeps

-- a fact of a step, from its cases
module _ (P : Walk → Type 0) (w : Walk) where
  point_case : (a : Point) → P (with_first a (counted w.read) w.powers) → P (with_next a (counted w.read) w.powers)
      → P (with_not_rising (counted w.read) w.powers) → P (onward a w)
  unfolding with_point
  point_case a x y z = go (eqb (w.read.count + 1) 1) (ltb w.read.last a.speed)
    where
      go : (t u : Bool) → P (cond t (with_first a (counted w.read) w.powers)
          (cond u (with_next a (counted w.read) w.powers) (with_not_rising (counted w.read) w.powers)))
      go true u = x
      go false true = y
      go false false = z

  record_case : (r : List ℕ) → (point_allowed r ≡ true → P (onward (point_of r) w)) → (point_allowed r ≡ false → P (with_out_of_range (counted w.read) w.powers))
      → P (with_record r w)
  unfolding with_record
  record_case r x y = go (point_allowed r) refl
    where
      go : (t : Bool) → point_allowed r ≡ t → P (cond t (onward (point_of r) w) (with_out_of_range (counted w.read) w.powers))
      go true e = x e
      go false e = y e

pub record_count : (r : List ℕ) (w : Walk) → (with_record r w).read.count ≡ w.read.count + 1
record_count r w =
    record_case (λ v. v.read.count ≡ w.read.count + 1) w r
    (λ e. point_case (λ v. v.read.count ≡ w.read.count + 1) w (point_of r) refl refl refl)
    (λ e. refl)

record_tested : (r : List ℕ) (w : Walk) → (with_record r w).read.allowed ≡ (w.read.allowed && point_allowed r)
record_tested r w =
    record_case (λ v. v.read.allowed ≡ (w.read.allowed && point_allowed r)) w r
    (λ e. let same : w.read.allowed ≡ (w.read.allowed && point_allowed r) = rw e (sym (and-true w.read.allowed)) in
    point_case (λ v. v.read.allowed ≡ (w.read.allowed && point_allowed r)) w (point_of r) same same same)
    (λ e. rw e (sym (and-false w.read.allowed)))

allowed_in_range : (r : List ℕ) → point_allowed r ≡ true → InRange (point_of r)
unfolding point_allowed point_of
allowed_in_range r e =
    let b = both (is_speed (field_at r 8)) (is_curve_power (field_at r 12)) e in
    record { low_speed = (within_natural 0 1000 (field_at r 8) b.0).2; low_power = (within_natural 0 1000000000 (field_at r 12) b.1).2 }

pub record_in_range : (r : List ℕ) (w : Walk) → InRange (last_read w.read) → InRange (last_read (with_record r w).read)
record_in_range r w h =
    record_case (λ v. InRange (last_read v.read)) w r
    (λ e. point_case (λ v. InRange (last_read v.read)) w (point_of r) (allowed_in_range r e) (allowed_in_range r e) h)
    (λ e. h)

-- ---- the whole chain

abbrev pub points : List Entry → List Point
points es = map (λ e. point_of e.bytes) es

abbrev pub allowed : List Entry → Bool
allowed es = all (λ e. point_allowed e.bytes) es

pub all_counted : (w : Walk) (es : List Entry) → (gathered stepped w es).read.count ≡ w.read.count + length es
all_counted w [] = omega arith
all_counted w (e ∷ es) = all_counted (stepped w e) es ∙ omega (arith, record_count e.bytes w)

pub all_tested : (w : Walk) (es : List Entry) → (gathered stepped w es).read.allowed ≡ (w.read.allowed && allowed es)
all_tested w [] = sym (and-true w.read.allowed)
all_tested w (e ∷ es) =
    all_tested (stepped w e) es ∙ ap (λ t. t && allowed es) (record_tested e.bytes w) ∙ and_assoc w.read.allowed (point_allowed e.bytes) (allowed es)

-- points in range alone
abbrev pub followed : Walk → List Point → Walk
followed w [] = w
followed w (a ∷ rest) = followed (onward a w) rest

pub all_followed : (w : Walk) (es : List Entry) → allowed es ≡ true → gathered stepped w es ≡ followed w (points es)
unfolding with_record
all_followed w [] h = refl
all_followed w (e ∷ es) h =
    let b = both (point_allowed e.bytes) (allowed es) h in
    all_followed (stepped w e) es b.1 ∙ rw b.0

pub all_in_range : (es : List Entry) → allowed es ≡ true → All InRange (points es)
all_in_range [] h = none
all_in_range (e ∷ es) h =
    let b = both (point_allowed e.bytes) (allowed es) h in
    more (allowed_in_range e.bytes b.0) (all_in_range es b.1)

-- ---- the speeds rise

module _ (a : Point) (w : Walk) (some : 0 < w.read.count) where
  pub onward_next : w.read.last < a.speed → onward a w ≡ with_next a (counted w.read) w.powers
  onward_next h = is_next a (counted w.read) w.powers (λ e. omega arith) h

  onward_not_rising : a.speed ≤ w.read.last → onward a w ≡ with_not_rising (counted w.read) w.powers
  onward_not_rising h = is_not_rising a (counted w.read) w.powers (λ e. omega arith) h

pub all_rise : (w : Walk) (rest : List Point) → 0 < w.read.count → (followed w rest).read.rising ≡ (w.read.rising && rising (last_read w.read ∷ rest))
all_rise w [] h = sym (and-true w.read.rising)
all_rise w (a ∷ rest) h =
    ⊎_elim
    (λ k. rw (lt-ltb w.read.last a.speed k)
    (ap (λ v. (followed v rest).read.rising) (onward_next a w h k) ∙ all_rise (with_next a (counted w.read) w.powers) rest (omega arith)))
    (λ k. rw (le-ltb w.read.last a.speed k)
    (ap (λ v. (followed v rest).read.rising) (onward_not_rising a w h k) ∙ all_rise (with_not_rising (counted w.read) w.powers) rest (omega arith)
    ∙ sym (and-false w.read.rising)))
    (either_side w.read.last a.speed)
