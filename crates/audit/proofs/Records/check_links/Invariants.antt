use Rattle.rules.specs.Links.{links_at}
use Rattle.audit.proofs.Steps.{LinksAhead}
use Rattle.audit.proofs.Records.check_links.Given as goal

abbrev pub invariant-loop-at : goal.invariant-loop-at
invariant-loop-at l = LinksAhead l.self.archive.now l.self.used l.n (links_at l.self.archive.now l.n) l.fn.marks l.at-index l.marks
