use Rattle.points.specs.Steps.{walk}
use Rattle.points.proofs.Steps.{Tested, record_allowed, record_out}
use Rattle.points.proofs.read_point.Goals as goal

pub returns-then-is_speed-is_curve_power : goal.returns-then-is_speed-is_curve_power
returns-then-is_speed-is_curve_power c =
    let a = c.args in
    let tested : Tested a.r.now c.link_at-speed.result c.watt_at-power.result.0 c.is_speed.result c.is_curve_power.result =
    record { word_is = c.link_at-speed.ensures.0; power_is = c.watt_at-power.ensures; speed_test = c.is_speed.ensures; power_test = c.is_curve_power.ensures } in
    record_allowed tested c.if-is_speed-is_curve_power.true c.speed_of.result.0 c.unsigned.result (walk a.read a.powers.now)
    (walk c.add_point.result c.add_point.new.powers)
    c.speed_of.ensures.0 c.unsigned.ensures c.add_point.ensures

pub returns : goal.returns
returns c =
    let a = c.args in
    let tested : Tested a.r.now c.link_at-speed.result c.watt_at-power.result.0 c.is_speed.result c.is_curve_power.result =
    record { word_is = c.link_at-speed.ensures.0; power_is = c.watt_at-power.ensures; speed_test = c.is_speed.ensures; power_test = c.is_curve_power.ensures } in
    record_out tested c.if-is_speed-is_curve_power.false (walk a.read a.powers.now)
