-- `plain_record::short_writes` meets its contract.
use Rattle.plain_record.proofs.Theorem.{theorem}
use Rattle.plain_record.proofs.ShortWrite.{short_write}
use Rattle.plain_record.proofs.short_writes.Goals as goal

pub returns : goal.returns
returns c = short_write theorem
