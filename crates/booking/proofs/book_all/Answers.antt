use mathlib.Core.Path.{◌≡◌, ◌∙◌}
use Prim.Native.Nat.{◌*◌}
use native.Mathlib.Omega.{arith}
use lib.ListN.{length}
use Rattle.rules.specs.Booking.{amounts_of}
use Rattle.booking.proofs.Written.{numbers_listed}
use Rattle.booking.proofs.book_all.Goals as goal

pub returns : goal.returns
returns c =
    let a = c.args in
    let n : 1 * length a.sheet.now ≡ length a.sheet.now = omega arith in
    let e = rw (n, numbers_listed (amounts_of a.direction a.divisor.denominator a.sheet.now)) at c.book.ensures.booked in
    (e, c.booked.ensures ∙ c.book.ensures.total)
