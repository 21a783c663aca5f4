use Rattle.std.proofs.Common.{arith}
use Rattle.std.proofs.lemmas.Result.{err_from_is_err_and}
use Rattle.chains.proofs.Laws.{met, met_none, met_refused}
use Rattle.audit.proofs.Marks.{link_none, link_marked, link_refused}
use Rattle.audit.proofs.Records.check_link.Goals as goal

pub returns-in_err-named : goal.returns-in_err-named
returns-in_err-named c =
    let p = err_from_is_err_and c.from_residual.result c.from_residual.ensures.1 in
    rw (p.1, p.2) (link_refused _ _ _ _ _ c.requires.1 c.link_of-first.ensures.0 _ (met_refused _ _ _ _ _ _ c.in_err-named.ensures))

pub mark-requires : goal.mark-requires
mark-requires c =
    let e = rw c.in-Some.is at c.in_ok-named.ensures in
    let m = met _ _ _ _ _ _ e in
    omega (arith, m.below, c.args.self.now.few)

pub returns-in-Some : goal.returns-in-Some
returns-in-Some c =
    let e = rw c.in-Some.is at c.in_ok-named.ensures in
    rw c.mark.ensures (link_marked _ _ _ _ _ c.requires.1 c.link_of-first.ensures.0 _ (met _ _ _ _ _ _ e))

pub returns-in_default : goal.returns-in_default
returns-in_default c =
    let e = rw c.in_default.is at c.in_ok-named.ensures in
    link_none _ _ _ _ _ c.requires.1 c.link_of-first.ensures.0 _ (met_none _ _ _ _ _ e)
