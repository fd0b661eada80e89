-- `plain_record::never_both` meets its contract.
use Rattle.plain_record.proofs.Theorem.{theorem}
use Rattle.plain_record.proofs.Story.{story}
use Rattle.plain_record.proofs.never_both.Goals as goal

pub returns : goal.returns
returns c = story theorem
