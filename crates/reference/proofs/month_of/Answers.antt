use Rattle.std.proofs.Common.{◌≡◌, ◌∙◌, rules, tests}
use Rattle.rules.specs.Archive.{byte_at}
use Rattle.terms.specs.Meanings.{meaning}
use Rattle.reference.proofs.Manners.{own_month}
use Rattle.reference.proofs.month_of.Goals as goal

pub returns : goal.returns
returns c =
    let read : c.from.result ≡ byte_at c.args.r.now 1 = search (rules, tests) in
    read ∙ own_month (meaning c.args.terms) c.args.index c.args.r.now c.requires
