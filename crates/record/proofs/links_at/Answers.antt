use Rattle.std.proofs.Common.{sym, ◌∙◌, ap, arith}
use Rattle.rules.specs.Links.{links_of}
use Rattle.rules.proofs.Places.{links_at_lem}
use Rattle.rules.proofs.Owners.{head_links_lem}
use Rattle.record.proofs.links_at.Goals as goal

pub returns-then-n-eq0 : goal.returns-then-n-eq0
returns-then-n-eq0 c = sym (head_links_lem _ _ c.if-n-eq0.true)

pub returns : goal.returns
returns c =
    let a = c.args in
    c.links_of.ensures ∙ ap links_of c.record_at.ensures ∙ sym (links_at_lem a.archive.now a.n (omega (arith, c.if-n-eq0.false)))
