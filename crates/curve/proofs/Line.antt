-- The straight line between two points, gone along from speed to speed by a slope that is rounded up.
use mathlib.Core.Path.{◌≡◌, sym, ◌∙◌, ap}
use Prim.Native.Nat.{ℕ, ◌+◌, ◌*◌, ◌-◌, ◌/◌, ◌%◌, ◌^◌, ◌≤◌, ◌<◌}
use native.Mathlib.Nat.{mul_comm, mul_assoc, mul_left_comm, mul-add, add-mul, mul-le-mul_left, mul-le-mul_right, lt_of_mul-lt-mul_left, div-eq_of_lt-le, div-add-mod, mod-lt}
use native.Mathlib.Omega.{arith}
use mir.Syntax.{w64}
use mir.Val.{Fits}
use Rattle.rules.specs.Terms.{Point}
use Rattle.rules.specs.Reference.{line_at}
use Rattle.rules.proofs.Curve.{line_low}
use Rattle.curve.specs.Lines.{Piece}

-- so many slopes in parts of 2^-20, without the parts
abbrev wholes : ℕ → ℕ → ℕ
wholes i f = i * f / 1048576

-- ---- c × i / w by f, which is 2^20 × c / w rounded up

module _ (c w f i : ℕ) (low : 1048576 * c ≤ w * f) (high : w * f < 1048576 * c + w) (within : i < w) (few : w ≤ 1000) where
  abbrev quotient : ℕ
  quotient = wholes i f

  product : i * (1048576 * c) ≡ 1048576 * (c * i)
  product = mul_left_comm i 1048576 c ∙ ap (λ (k : ℕ). 1048576 * k) (mul_comm i c)

  sloped_low : w * quotient ≤ c * i
  sloped_low =
      let most : w * f ≤ 1048576 * c + 999 = omega arith in
      let whole : 1048576 * quotient ≤ i * f = omega arith in
      omega (
        arith,
        mul-le-mul_left i most,
        mul-add i (1048576 * c) 999,
        product,
        mul_left_comm i w f,
        mul-le-mul_left w whole,
        mul_left_comm w 1048576 quotient,
      )

  sloped_high : c * i < w * quotient + w
  sloped_high =
      let below : i * f + 1 ≤ 1048576 * quotient + 1048576 = omega arith in
      omega (
        arith,
        mul-le-mul_left i low,
        product,
        mul_left_comm i w f,
        mul-le-mul_left w below,
        mul-add w (i * f) 1,
        mul-add w (1048576 * quotient) 1048576,
        mul_left_comm w 1048576 quotient,
      )

-- ---- the line

-- the change of the value from a speed to the next, times the distance of the two points' speeds, raised so that it isn't below zero
abbrev pub change_of : Point → Point → ℕ
change_of a b = b.power + 1000000000 * (b.speed - a.speed) - a.power

abbrev pub slope_of : Point → Point → ℕ
slope_of a b = (1048576 * change_of a b + (b.speed - a.speed) - 1) / (b.speed - a.speed)

-- what the code has at a speed: the slope and the raise, each as often as the speed is above the first point's
pub record OnLine (a b : Point) (v risen raised : ℕ) : Type 0 where
  pub slopes : risen ≡ (v - a.speed) * slope_of a b
  pub raises : raised ≡ 1000000000 * (v - a.speed)

pub line_starts : (a b : Point) → OnLine a b a.speed 0 0
line_starts a b =
    let z : a.speed - a.speed ≡ 0 = omega arith in
    record { slopes = rw z (omega arith); raises = rw z (omega arith) }

module _ {a b : Point} (p : Piece a b) where
  abbrev width : ℕ
  width = b.speed - a.speed

  few : width ≤ 1000
  few = omega (arith, p.right.low_speed)

  change_is : change_of a b + a.power ≡ b.power + 1000000000 * width
  change_is = omega (arith, p.rises, p.left.low_power)

  change_low : change_of a b ≤ 1001000000000
  change_low = omega (arith, few, p.right.low_power)

  slope_parts : width * slope_of a b + (1048576 * change_of a b + width - 1) % width ≡ 1048576 * change_of a b + width - 1
  slope_parts = div-add-mod (1048576 * change_of a b + width - 1) width

  slope_rest : (1048576 * change_of a b + width - 1) % width < width
  slope_rest = mod-lt (1048576 * change_of a b + width - 1) (omega (arith, p.rises))

  slope_low : 1048576 * change_of a b ≤ width * slope_of a b
  slope_low = omega (arith, slope_parts, slope_rest, p.rises)

  slope_high : width * slope_of a b < 1048576 * change_of a b + width
  slope_high = omega (arith, slope_parts, p.rises)

  module _ (v : ℕ) (from : a.speed ≤ v) (h : v < b.speed) where
    abbrev on : ℕ
    on = v - a.speed

    -- the line's value at a speed, times the distance of the two points' speeds
    abbrev line_sum : ℕ
    line_sum = a.power * (b.speed - v) + b.power * on

    abbrev part : ℕ
    part = wholes on (slope_of a b)

    below : width * part ≤ change_of a b * on
    below = sloped_low (change_of a b) width (slope_of a b) on slope_low slope_high (omega arith) few

    above : change_of a b * on < width * part + width
    above = sloped_high (change_of a b) width (slope_of a b) on slope_low slope_high (omega arith) few

    sum_is : line_sum + 1000000000 * (width * on) ≡ width * a.power + change_of a b * on
    sum_is =
        let all : b.speed - v + on ≡ width = omega arith in
        omega (
          arith,
          mul-add a.power (b.speed - v) on,
          ap (λ (k : ℕ). a.power * k) all,
          mul_comm a.power width,
          ap (λ (k : ℕ). k * on) change_is,
          add-mul (change_of a b) a.power on,
          add-mul b.power (1000000000 * width) on,
          mul_assoc 1000000000 width on,
        )

    room : 1000000000 * on ≤ a.power + part
    room =
        let less : 1000000000 * on < a.power + part + 1 = lt_of_mul-lt-mul_left width {m = 1000000000 * on} {n = a.power + part + 1}
        (omega (
          arith,
          sum_is,
          above,
          mul_left_comm width 1000000000 on,
          mul-add width (a.power + part) 1,
          mul-add width a.power part,
        )) in
        omega arith

    sloped : a.power + part - 1000000000 * on ≡ line_at a b v
    sloped =
        let power = a.power + part - 1000000000 * on in
        let back : power + 1000000000 * on ≡ a.power + part = omega (arith, room) in
        let times : width * power + 1000000000 * (width * on) ≡ width * a.power + width * part = omega (
          arith,
          ap (λ (k : ℕ). width * k) back,
          mul-add width power (1000000000 * on),
          mul_left_comm width 1000000000 on,
          mul-add width a.power part,
        ) in
        sym (div-eq_of_lt-le {k = power} width {m = line_sum} (omega (arith, times, sum_is, below, mul_comm power width))
        (omega (arith, times, sum_is, above, add-mul power 1 width, mul_comm power width)))

    slope_fits : on * slope_of a b + slope_of a b < 2 ^ 64
    slope_fits =
        let next : on + 1 ≤ width = omega arith in
        omega (arith, mul-le-mul_right (slope_of a b) next, add-mul on 1 (slope_of a b), slope_high, change_low, few)

    module _ {risen raised : ℕ} (l : OnLine a b v risen raised) where
      abbrev power : ℕ
      power = a.power + risen / 1048576 - raised

      part_is : risen / 1048576 ≡ part
      part_is = ap (λ (k : ℕ). k / 1048576) l.slopes

      pub line_power : power ≡ line_at a b v
      line_power = rw (l.slopes, l.raises) sloped

      pub power_room : raised ≤ a.power + risen / 1048576
      power_room = omega (arith, part_is, l.raises, room)

      pub power_low : power ≤ 1000000000
      power_low = omega (arith, line_power, line_low a b v 1000000000 from h p.left.low_power p.right.low_power)

      pub sum_fits : Fits w64 (a.power + risen / 1048576)
      sum_fits = record { fits = omega (arith, l.slopes, slope_fits, p.left.low_power) }

      pub risen_fits : Fits w64 (risen + slope_of a b)
      risen_fits = record { fits = omega (arith, l.slopes, slope_fits) }

      pub raised_fits : Fits w64 (raised + 1000000000)
      raised_fits = record { fits = omega (arith, l.raises, few) }

      pub line_next : OnLine a b (v + 1) (risen + slope_of a b) (raised + 1000000000)
      line_next =
          let next : v + 1 - a.speed ≡ on + 1 = omega arith in
          record { slopes = rw next (omega (arith, l.slopes, add-mul on 1 (slope_of a b))); raises = omega (arith, l.raises) }
