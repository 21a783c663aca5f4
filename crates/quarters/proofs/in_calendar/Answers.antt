use Rattle.terms.specs.Meanings.{meaning}
use Rattle.quarters.proofs.Walks.{dates_allowed_lem}
use Rattle.quarters.proofs.in_calendar.Goals as goal

pub returns : goal.returns
returns c =
    dates_allowed_lem (meaning c.args.terms) c.args.count c.requires.0 c.requires.1
