-- What a table holds after the line between two points was filled in.
use mathlib.Core.Path.{◌≡◌, refl, ◌∙◌}
use mathlib.Core.Bool.{Bool, true, false}
use mathlib.Core.List.{List}
use Prim.Native.Nat.{ℕ, zero, suc, ◌+◌, ◌-◌, ◌≤◌, ◌<◌}
use native.Mathlib.Numerals.{add-one}
use native.Mathlib.Nat.{eq-or-lt_of_le}
use native.Mathlib.Omega.{arith}
use mathlib.Core.Logic.{◌⊎◌, inl, inr, ⊎_elim}
use borrow.Author.Tests.{ltb-true, ltb-false, eqb-true, eqb-false}
use lib.Dec.{eqb, ltb}
use lib.ListN.{length, get_or, set, length-set}
use lib.Seq.{get_or-set_same, get_or-set_other}
use Rattle.rules.specs.Terms.{Point}
use Rattle.rules.specs.Reference.{line_at}
use Rattle.curve.specs.Tables.{Low}
use Rattle.curve.specs.Lines.{Piece, filled}
use Rattle.rules.proofs.Curve.{line_low}
use Rattle.curve.proofs.Line.{OnLine}

module _ (a b : Point) where
  pub filled_turn : (end speed power : ℕ) (powers : List ℕ) → speed < end → power ≡ line_at a b speed
      → filled a b (end - speed) speed powers ≡ filled a b (end - (speed + 1)) (speed + 1) (set powers speed power)
  unfolding filled
  filled_turn end speed power powers h e =
      let n : end - speed ≡ suc (end - (speed + 1)) = omega arith in
      rw (n, e, add-one)

  pub filled_done : (end speed : ℕ) (powers : List ℕ) → end ≤ speed → filled a b (end - speed) speed powers ≡ powers
  unfolding filled
  filled_done end speed powers h = let n : end - speed ≡ 0 = omega arith in rw n

  pub filled_length : (n speed : ℕ) (powers : List ℕ) → length (filled a b n speed powers) ≡ length powers
  unfolding filled
  filled_length zero speed powers = refl
  filled_length (suc n) speed powers = filled_length n (suc speed) (set powers speed (line_at a b speed)) ∙ length-set powers speed (line_at a b speed)

  pub filled_outside : (n speed v : ℕ) (powers : List ℕ) → (v < speed) ⊎ (speed + n ≤ v) → get_or (filled a b n speed powers) v 0 ≡ get_or powers v 0
  unfolding filled
  filled_outside zero speed v powers h = refl
  filled_outside (suc n) speed v powers h =
      filled_outside n (suc speed) v (set powers speed (line_at a b speed)) (⊎_elim (λ k. inl (omega arith)) (λ k. inr (omega arith)) h)
      ∙ get_or-set_other powers speed v (line_at a b speed) 0 (λ e. ⊎_elim (λ k. omega arith) (λ k. omega arith) h)

  pub filled_within : (n speed v : ℕ) (powers : List ℕ) → speed ≤ v → v < speed + n → v < length powers
      → get_or (filled a b n speed powers) v 0 ≡ line_at a b v
  unfolding filled
  filled_within zero speed v powers h k w = absurd (omega arith)
  filled_within (suc n) speed v powers h k w =
      ⊎_elim
      (λ e. filled_outside n (suc speed) v (set powers speed (line_at a b speed)) (inl (omega arith))
      ∙ rw (← e) (get_or-set_same powers speed (line_at a b speed) 0 (omega arith)))
      (λ l. filled_within n (suc speed) v (set powers speed (line_at a b speed)) (omega arith) (omega arith)
      (omega (arith, length-set powers speed (line_at a b speed))))
      (eq-or-lt_of_le h)

-- the line from a to b is filled in as far as this speed, where slope and raise have come to these
pub record Filling (a b : Point) (start powers : List ℕ) (speed risen raised : ℕ) : Type 0 where
  pub same : filled a b (b.speed - a.speed) a.speed start ≡ filled a b (b.speed - speed) speed powers
  pub line : OnLine a b speed risen raised
  pub size : length powers ≡ length start

-- ---- one more point: the line from a to b, and at b its own power

pub either_side : (a b : ℕ) → (a < b) ⊎ (b ≤ a)
either_side a b = go (ltb a b) refl
  where
    go : (t : Bool) → ltb a b ≡ t → (a < b) ⊎ (b ≤ a)
    go true e = inl (ltb-true a b e)
    go false e = inr (ltb-false a b e)

-- a power set in a table
module _ (powers : List ℕ) (speed power : ℕ) where
  pub set_low : speed < length powers → power ≤ 1000000000 → Low powers → Low (set powers speed power)
  set_low h k low v = go (eqb v speed) refl
    where
      go : (t : Bool) → eqb v speed ≡ t → get_or (set powers speed power) v 0 ≤ 1000000000
      go true e = rw (eqb-true v speed e) (omega (arith, get_or-set_same powers speed power 0 h))
      go false e = omega (arith, get_or-set_other powers speed v power 0 (eqb-false v speed e), low v)

module _ (a b : Point) (powers : List ℕ) (p : Piece a b) (size : length powers ≡ 1001) where
  abbrev pub line_to : List ℕ
  line_to = filled a b (b.speed - a.speed) a.speed powers

  line_size : length line_to ≡ 1001
  line_size = filled_length a b (b.speed - a.speed) a.speed powers ∙ size

  pub next_size : length (set line_to b.speed b.power) ≡ 1001
  next_size = length-set line_to b.speed b.power ∙ line_size

  pub next_before : (v : ℕ) → v < a.speed → get_or (set line_to b.speed b.power) v 0 ≡ get_or powers v 0
  next_before v h =
      get_or-set_other line_to b.speed v b.power 0 (λ e. omega (arith, p.rises))
      ∙ filled_outside a b (b.speed - a.speed) a.speed v powers (inl h)

  pub next_line : (v : ℕ) → a.speed ≤ v → v < b.speed → get_or (set line_to b.speed b.power) v 0 ≡ line_at a b v
  next_line v h k =
      get_or-set_other line_to b.speed v b.power 0 (λ e. omega arith)
      ∙ filled_within a b (b.speed - a.speed) a.speed v powers h (omega arith) (omega (arith, p.right.low_speed))

  pub next_point : get_or (set line_to b.speed b.power) b.speed 0 ≡ b.power
  next_point = get_or-set_same line_to b.speed b.power 0 (omega (arith, line_size, p.right.low_speed))

  pub next_low : Low powers → Low (set line_to b.speed b.power)
  next_low low =
      set_low line_to b.speed b.power (omega (arith, line_size, p.right.low_speed)) p.right.low_power
      (λ v. line v (either_side v a.speed) (either_side v b.speed))
    where
      line : (v : ℕ) → (v < a.speed) ⊎ (a.speed ≤ v) → (v < b.speed) ⊎ (b.speed ≤ v) → get_or line_to v 0 ≤ 1000000000
      line v (inl h) k = omega (arith, filled_outside a b (b.speed - a.speed) a.speed v powers (inl h), low v)
      line v (inr h) (inl k) =
          omega (
            arith,
            filled_within a b (b.speed - a.speed) a.speed v powers h (omega arith) (omega (arith, p.right.low_speed)),
            line_low a b v 1000000000 h k p.left.low_power p.right.low_power,
          )
      line v (inr h) (inr k) = omega (arith, filled_outside a b (b.speed - a.speed) a.speed v powers (inr (omega (arith, p.rises))), low v)
