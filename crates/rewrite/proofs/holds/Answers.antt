-- `rewrite::holds` meets its contract.
use Rattle.rewrite.proofs.Room.{rewritten-fits}
use Rattle.rewrite.proofs.holds.Goals as goal

pub returns : goal.returns
returns c = rewritten-fits
