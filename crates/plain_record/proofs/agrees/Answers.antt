-- `plain_record::agrees` meets its contract: the first theorem. Assumes nothing.
use Rattle.plain_record.proofs.Theorem.{theorem}
use Rattle.plain_record.proofs.agrees.Goals as goal

pub returns : goal.returns
returns c = theorem
