use Rattle.curve.specs.Lines.{point}
use Rattle.curve.proofs.Fills.{Filling}
use Rattle.curve.proofs.fill.Given as goal

-- what is still to be filled in gives the same table, and slope and raise have come to what the speed asks for
abbrev pub invariant-loop-speed : goal.invariant-loop-speed
invariant-loop-speed l =
    Filling (point l.s0 l.p0) (point l.s1 l.p1) l.initial.powers l.powers l.speed l.risen l.raised
