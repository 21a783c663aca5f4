use Rattle.std.proofs.lemmas.Bool.{not_from_true, not_from_false}
use Rattle.record.proofs.Readings.{bound_out_of_range, bound_in_range}
use Rattle.record.proofs.bounded_at.Goals as goal

pub returns-then-not-in_power_range-word : goal.returns-then-not-in_power_range-word
returns-then-not-in_power_range-word c =
    bound_out_of_range _ _ c.in_power_range.ensures c.watt_of-power.ensures c.link_at-word.ensures.0 c.args.a (not_from_false _ c.if-not-in_power_range-word.true)

pub returns : goal.returns
returns c =
    bound_in_range _ _ c.in_power_range.ensures c.watt_of-power.ensures c.link_at-word.ensures.0 c.args.a _ c.requires.a_bound c.smaller.ensures (not_from_true _ c.if-not-in_power_range-word.false)
