-- `table::holds` meets its contract.
use Rattle.table.proofs.Laws.{made-laws}
use Rattle.table.proofs.holds.Goals as goal

pub returns : goal.returns
returns c = made-laws
