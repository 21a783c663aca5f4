use mathlib.Core.Path.{◌≡◌}
use Rattle.booking.proofs.Written.{Running, Placed}
use Rattle.booking.proofs.book.Given as goal

abbrev pub invariant-loop-i : goal.invariant-loop-i
invariant-loop-i g l = let d = l.carry.divisor.denominator in record {
  running : Running d l.sheet l.carry.remainder l.total l.i;
  placed : Placed g.T.Element.written g.T.Element.size l.direction d l.sheet l.initial.list l.list l.carry.remainder l.i;
  over : l.carry.divisor ≡ l.fn.divisor;
}
