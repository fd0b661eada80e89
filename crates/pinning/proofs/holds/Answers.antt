-- `pinning::holds` meets its contract.
use Rattle.pinning.proofs.Laws.{pin-laws}
use Rattle.pinning.proofs.holds.Goals as goal

pub returns : goal.returns
returns c = pin-laws
