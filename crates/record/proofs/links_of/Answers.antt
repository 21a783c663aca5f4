use Rattle.std.proofs.Common.{arith}
use Rattle.rules.proofs.Owners.{unknown_links, plant_links, measure_links, other_links}
use Rattle.record.proofs.links_of.Goals as goal

pub returns-then-not-is_kind : goal.returns-then-not-is_kind
returns-then-not-is_kind c = grind (arith, unknown_links)

pub returns-then-kind : goal.returns-then-kind
returns-then-kind c = grind (arith, plant_links, measure_links)

pub returns : goal.returns
returns c = grind (arith, other_links)
