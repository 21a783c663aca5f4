use Rattle.rules.specs.Encoding.{put}
use Rattle.booking.proofs.U8Element.put.Goals as goal

pub returns : goal.returns
unfolding put
returns c = rw c.bits_of.ensures at c.put_place.ensures
