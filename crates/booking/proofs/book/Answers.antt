use Prim.Native.Nat.{ℕ, ◌+◌, ◌<◌, ◌^◌}
use native.Mathlib.Omega.{arith}
use Rattle.booking.proofs.Written.{total_fits, running_next, placed_next, placed_all, total_all, total_below}
use Rattle.booking.proofs.book.Goals as goal
use Rattle.booking.proofs.book.Goals.{After-book-amount}

-- the total stays within a signed word with this amount
sum_fits : (g : _) (c : After-book-amount g) → c.loop-i.total + c.book-amount.result < 2 ^ 63
sum_fits g c =
    let l = c.loop-i in
    let v = l.invariant in
    rw c.book-amount.ensures.amount
    (total_fits l.carry.divisor.denominator c.args.sheet.now l.carry.remainder l.total l.i v.running c.loop-i-test.true (rw v.over c.requires.fits))

pub overflow_add-total : goal.overflow_add-total
overflow_add-total g c = record { fits = omega (arith, sum_fits g (goal.at.overflow_add-total g c).After-book-amount) }

pub put-requires-clause-fits : goal.put-requires-clause-fits
put-requires-clause-fits g c = omega (arith, sum_fits g (goal.at.put-requires-clause-fits g c).After-book-amount)

pub loop-i-preserved : goal.loop-i-preserved
loop-i-preserved g c =
    let l = c.loop-i in
    let v = l.invariant in
    let b = c.book-amount in
    let d : ℕ = l.carry.divisor.denominator in
    rw (c.put.ensures, b.ensures.carry, b.ensures.amount)
    record {
      running = running_next d c.args.sheet.now l.carry.remainder l.total l.i v.running c.loop-i-test.true;
      placed =
          placed_next d c.args.sheet.now l.carry.remainder l.total l.i v.running c.loop-i-test.true g.T.Element.written g.T.Element.size
          g.met.T.Element.long c.args.direction c.args.list.now l.list v.placed c.requires.room;
      over = v.over;
    }

pub returns-clause-booked : goal.returns-clause-booked
returns-clause-booked g c =
    let l = c.loop-i in
    let v = l.invariant in
    rw (← v.over)
    (placed_all l.carry.divisor.denominator c.args.sheet.now c.args.direction l.carry.remainder l.total l.i v.running c.loop-i-test.false
    g.T.Element.written g.T.Element.size c.args.list.now l.list v.placed)

pub returns-clause-total : goal.returns-clause-total
returns-clause-total g c =
    let l = c.loop-i in
    let v = l.invariant in
    rw (← v.over)
    (total_all l.carry.divisor.denominator c.args.sheet.now c.args.direction l.carry.remainder l.total l.i v.running c.loop-i-test.false)

pub returns-clause-fits : goal.returns-clause-fits
returns-clause-fits g c =
    let l = c.loop-i in
    let v = l.invariant in
    total_below l.carry.divisor.denominator c.args.sheet.now l.carry.remainder l.total l.i v.running (rw v.over c.requires.fits)
