-- `frames::Lines::put_letter` meets its contract.
use Rattle.std.proofs.Common.{rules}
use Rattle.frames.proofs.Front.{wrote-front}
use Rattle.frames.proofs.Lines.put_letter.Goals as goal

pub returns : goal.returns
returns g c = rw (← c.self.view_is) (wrote-front _ _ _ _ _ (search rules) c.put_letter-self-inside.ensures)
