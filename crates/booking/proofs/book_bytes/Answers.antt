use Rattle.rules.specs.Booking.{amounts_of}
use Rattle.booking.proofs.Written.{bytes_listed}
use Rattle.booking.proofs.book_bytes.Goals as goal

pub returns : goal.returns
returns c =
    let a = c.args in
    (rw (bytes_listed (amounts_of a.direction a.divisor.denominator a.sheet.now)) at c.book.ensures.booked, c.book.ensures.total)
