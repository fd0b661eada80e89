-- `plain_record::either_stands` meets its contract.
use Rattle.plain_record.proofs.Theorem.{theorem}
use Rattle.plain_record.proofs.Either.{either}
use Rattle.plain_record.proofs.either_stands.Goals as goal

pub returns : goal.returns
returns c = either theorem
