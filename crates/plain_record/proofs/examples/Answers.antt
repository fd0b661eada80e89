-- `plain_record::examples` meets its contract.
use Rattle.plain_record.proofs.Worked.{worked}
use Rattle.plain_record.proofs.examples.Goals as goal

pub returns : goal.returns
returns c = worked
