-- `pins::PinBook::bound` meets its contract.
use borrow.Author.Rules.{rules}
use Rattle.pins.proofs.Bound.{bound-read}
use Rattle.pins.proofs.PinBook.bound.Goals as goal

pub returns : goal.returns
returns c =
    rw (← c.pins.ensures)
    (bound-read c.args.current _ c.pins.result.now _ _ c.first.ensures.value c.map_or.ensures (λ x p. search rules) (rw c.pins.ensures c.requires.valid) (rw c.pins.ensures c.requires.ordered))
