use native.Mathlib.Omega.{arith}
use Rattle.rules.specs.Archive.{link_at}
use Rattle.record.proofs.link_at.Goals as goal

pub returns : goal.returns
unfolding link_at
returns c =
    (rw (c.wide.ensures.0, c.wide-2.ensures.0, c.wide-3.ensures.0, c.wide-4.ensures.0) (omega arith), omega arith)
