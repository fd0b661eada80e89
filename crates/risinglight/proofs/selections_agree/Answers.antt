-- `risinglight::selections_agree` meets its contract: selection for a compaction. Assumes nothing.
use Rattle.risinglight.proofs.Selections.{selections}
use Rattle.risinglight.proofs.selections_agree.Goals as goal

pub returns : goal.returns
returns c = selections
