use Rattle.std.proofs.lemmas.Bool.{not_from_true, not_from_false}
use native.Mathlib.Omega.{arith}
use Rattle.comparison.proofs.Taken.{grown_one, met_test, failed_test, measured, every_out, every_weather, every_used}
use Rattle.comparison.proofs.add_all.Goals as goal

pub returns-in_err-measured : goal.returns-in_err-measured
returns-in_err-measured c =
    let a = c.args in
    rw c.from_residual.ensures (every_out a.sums a.r.now c.in_err-measured.ensures, tt)

pub returns-then-not-is_irradiance : goal.returns-then-not-is_irradiance
returns-then-not-is_irradiance c =
    let a = c.args in
    let m = measured c.in_ok-measured.ensures c.raised-power.result c.raised-power.ensures.0 in
    (every_weather a.sums a.r.now m c.weather_of-word.ensures.0 (failed_test c.is_irradiance.ensures (not_from_false _ c.if-not-is_irradiance.true)), tt)

pub returns : goal.returns
returns c =
    let g = c.irradiance_of.ensures in
    let a = c.args in
    let m = measured c.in_ok-measured.ensures c.raised-power.result c.raised-power.ensures.0 in (
      every_used a.sums a.r.now m c.weather_of-word.ensures.0 (met_test c.is_irradiance.ensures (not_from_true _ c.if-not-is_irradiance.false)) g.0 c.plus.ensures,
      grown_one c.plus.ensures (record { room = c.requires.room; few = omega arith; low_a = c.raised-power.ensures.1; low_b = omega (arith, g.1) }),
    )
