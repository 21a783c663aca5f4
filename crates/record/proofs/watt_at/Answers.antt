use mathlib.Core.Path.{◌∙◌, ap}
use Rattle.rules.specs.Archive.{twos, field_at}
use Rattle.record.proofs.watt_at.Goals as goal

pub returns : goal.returns
unfolding field_at
returns c = c.watt_of.ensures ∙ ap twos c.link_at.ensures.0
