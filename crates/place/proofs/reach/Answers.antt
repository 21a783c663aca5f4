use Rattle.place.proofs.Laws.{rises}
use Rattle.place.proofs.reach.Goals as goal

pub returns-clause-rises : goal.returns-clause-rises
returns-clause-rises c =
    let a = c.args in
    rw c.ok_or.ensures.value (rises a.archive.now a.used a.kind a.place a.holder c.link_of-first.result _ c.in_ok-walk_to.ensures a.missing)
