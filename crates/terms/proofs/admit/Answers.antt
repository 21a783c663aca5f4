use mathlib.Core.Path.{sym}
use Rattle.std.proofs.Common.{rules}
use Rattle.rules.specs.Outcome.{◌>>◌, require}
use Rattle.rules.specs.Settle.{admitted}
use Rattle.rules.proofs.Bounds.{nominal_within}
use Rattle.terms.proofs.admit.Goals as goal

pub returns-then-not-plant_allowed-clause-terms : goal.returns-then-not-plant_allowed-clause-terms
unfolding admitted ◌>>◌ require
returns-then-not-plant_allowed-clause-terms c = search rules

pub returns-then-not-measure_allowed-clause-terms : goal.returns-then-not-measure_allowed-clause-terms
unfolding admitted ◌>>◌ require
returns-then-not-measure_allowed-clause-terms c = search rules

pub returns-clause-terms : goal.returns-clause-terms
unfolding admitted ◌>>◌ require
returns-clause-terms c = search rules

pub returns-clause-nominal : goal.returns-clause-nominal
returns-clause-nominal c = rw c.watt_at.ensures (nominal_within c.args.plant.now (sym c.if-not-plant_allowed.ensures)).0
