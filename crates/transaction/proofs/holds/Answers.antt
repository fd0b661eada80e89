-- `transaction::holds` meets its contract.
use Rattle.transaction.proofs.Partition.{groups-hold}
use Rattle.transaction.proofs.holds.Goals as goal

pub returns : goal.returns
returns c = groups-hold
