use Rattle.std.proofs.Common.{◌≡◌, ◌+◌}
use Rattle.audit.specs.Marks.{marked_once}
use Rattle.audit.proofs.all_once.Given as goal

abbrev pub invariant-loop-m : goal.invariant-loop-m
invariant-loop-m l = l.once ≡ marked_once l.marks (1 + l.m-index)
