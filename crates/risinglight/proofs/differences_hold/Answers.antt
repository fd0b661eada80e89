-- `risinglight::differences_hold` meets its contract.
use Rattle.risinglight.proofs.Differences.{differences}
use Rattle.risinglight.proofs.differences_hold.Goals as goal

pub returns : goal.returns
returns c = differences
