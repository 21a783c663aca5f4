use Rattle.std.proofs.Common.{◌≡◌, ◌∙◌, Ok, arith, rules}
use Rattle.audit.proofs.Steps.{link_passes, link_marks}
use Rattle.audit.proofs.Records.check_links.Goals as goal

pub loop-at-preserved : goal.loop-at-preserved
loop-at-preserved c =
    let passed : c.check_link.result ≡ Ok tt = search rules in
    let marks = rw passed at c.check_link.ensures.marks_are in
    record {
      checks = grind (arith, link_passes);
      tallies = c.loop-at.invariant.tallies ∙ link_marks _ _ _ _ c.requires.its c.loop-at-test.true _ _ marks;
    }
