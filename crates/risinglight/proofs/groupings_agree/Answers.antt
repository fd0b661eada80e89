-- `risinglight::groupings_agree` meets its contract: grouping of a transaction's deletes. Assumes nothing.
use Rattle.risinglight.proofs.Groupings.{groupings}
use Rattle.risinglight.proofs.groupings_agree.Goals as goal

pub returns : goal.returns
returns c = groupings
