-- `plain_record::batch_counted` meets its contract.
use native.Mathlib.Omega.{arith}
use lib.ListN.{take, length-take, length-map}
use Rattle.manifest.specs.Operations.{operation_of}
use Rattle.plain_record.specs.Run.{BatchCounted}
use Rattle.plain_record.proofs.batch_counted.Goals as goal

batch-counted : BatchCounted
batch-counted b = rw (length-map (take b.count b.changes) operation_of) (rw (length-take b.count b.changes) (omega arith))

pub returns : goal.returns
returns c = batch-counted
