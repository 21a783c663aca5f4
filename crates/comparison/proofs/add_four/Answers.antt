use Rattle.std.proofs.lemmas.Bool.{not_from_true, not_from_false}
use mathlib.Core.Path.{ap, ◌∙◌}
use native.Mathlib.Omega.{arith}
use Rattle.rules.specs.Numbers.{or_zero}
use Rattle.comparison.proofs.Taken.{grown_none, grown_one, met_test, failed_test, measured}
use Rattle.comparison.proofs.Taken.{four_full, four_out, four_low, four_weather, four_used}
use Rattle.comparison.proofs.add_four.Goals as goal

pub returns-then-sums-ge4 : goal.returns-then-sums-ge4
returns-then-sums-ge4 c =
    let a = c.args in
    ((λ points t. four_full a.sums a.r.now (or_zero a.pn.0) points (omega arith)), grown_none c.requires.room)

pub returns-in_err-measured : goal.returns-in_err-measured
returns-in_err-measured c =
    let a = c.args in
    rw c.from_residual.ensures ((λ points t. four_out a.sums a.r.now c.in_err-measured.ensures (or_zero a.pn.0) points (omega arith)), tt)

pub returns-then-power-least : goal.returns-then-power-least
returns-then-power-least c =
    let least = c.unsigned-least.ensures in
    let a = c.args in
    let m = measured c.in_ok-measured.ensures c.raised-power.result c.raised-power.ensures.0 in
    ((λ points t. four_low a.sums a.r.now m (or_zero a.pn.0) points (omega arith) (omega arith)), grown_none c.requires.room)

pub returns-then-not-is_speed : goal.returns-then-not-is_speed
returns-then-not-is_speed c =
    let least = c.unsigned-least.ensures in
    let a = c.args in
    let m = measured c.in_ok-measured.ensures c.raised-power.result c.raised-power.ensures.0 in
    let out = failed_test c.is_speed.ensures (not_from_false _ c.if-not-is_speed.true) in
    ((λ points t. four_weather a.sums a.r.now m c.weather_of-word.ensures.0 (or_zero a.pn.0) points (omega arith) (omega arith) out), tt)

pub returns : goal.returns
returns c =
    let read = c.power_at-on_curve.ensures in
    let least = c.unsigned-least.ensures in
    let few = c.if-sums-ge4.false in
    let a = c.args in
    let m = measured c.in_ok-measured.ensures c.raised-power.result c.raised-power.ensures.0 in
    let speed = met_test c.is_speed.ensures (not_from_true _ c.if-not-is_speed.false) in (
      (λ points t. four_used a.sums a.r.now m c.weather_of-word.ensures.0 (or_zero a.pn.0) points (omega arith) (omega arith) speed
          c.speed_of.ensures.0 (c.unsigned.ensures ∙ ap or_zero (read.is points t)) c.plus.ensures),
      grown_one c.plus.ensures
          (record { room = c.requires.room; few = omega arith; low_a = c.raised-power.ensures.1; low_b = omega (arith, c.unsigned.ensures, read.low) }),
    )
