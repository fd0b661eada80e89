-- `pins::holds` meets its contract.
use Rattle.pins.proofs.Bound.{bound-shows, free-is}
use Rattle.pins.proofs.Counting.{pins-recounted}
use Rattle.pins.proofs.Books.{book-later}
use Rattle.pins.proofs.holds.Goals as goal

pub returns : goal.returns
returns c = record { counts = pins-recounted; later = book-later; shows = bound-shows; free = free-is }
