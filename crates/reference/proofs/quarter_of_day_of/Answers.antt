use Rattle.std.proofs.Common.{◌≡◌, ◌∙◌, rules, tests}
use Rattle.rules.specs.Archive.{byte_at}
use Rattle.terms.specs.Meanings.{meaning}
use Rattle.reference.proofs.Manners.{own_quarter}
use Rattle.reference.proofs.quarter_of_day_of.Goals as goal

pub returns : goal.returns
returns c =
    let read : c.from.result ≡ byte_at c.args.r.now 2 = search (rules, tests) in
    read ∙ own_quarter (meaning c.args.terms) c.args.index c.args.r.now c.requires
