-- `plain_record::tells_apart` meets its contract.
use Rattle.plain_record.proofs.Wrong.{wrong-refuted}
use Rattle.plain_record.proofs.tells_apart.Goals as goal

pub returns : goal.returns
returns c = wrong-refuted
