use Rattle.std.proofs.Common.{rules}
use Rattle.rules.specs.Outcome.{◌>>=◌, ◌>>◌, require}
use Rattle.comparison.specs.Walks.{passed}
use Rattle.comparison.proofs.passed.Goals as goal

pub returns-then-walk-gt96-clause-gathers : goal.returns-then-walk-gt96-clause-gathers
unfolding passed ◌>>=◌ ◌>>◌ require
returns-then-walk-gt96-clause-gathers c = search rules

pub returns-in_default-clause-gathers : goal.returns-in_default-clause-gathers
unfolding passed ◌>>=◌ ◌>>◌ require
returns-in_default-clause-gathers c = search rules

pub returns-clause-gathers : goal.returns-clause-gathers
unfolding passed ◌>>=◌ ◌>>◌ require
returns-clause-gathers c = search rules
