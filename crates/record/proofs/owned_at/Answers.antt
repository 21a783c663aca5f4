use Rattle.std.proofs.Common.{refl, ◌∙◌, ap}
use borrow.Author.Tests.{ne_eqb}
use Rattle.rules.specs.Links.{owned_by, owned_at, links_at}
use Rattle.record.proofs.owned_at.Goals as goal

pub returns-then-n-eq0 : goal.returns-then-n-eq0
unfolding owned_at links_at
returns-then-n-eq0 c = c.links_at.ensures ∙ rw c.if-n-eq0.true refl

pub returns : goal.returns
unfolding owned_at
returns c = c.owned_of.ensures ∙ ap owned_by c.record_at.ensures ∙ rw (ne_eqb c.args.n 0 c.if-n-eq0.false) refl
