-- `delete_vector::write_all` meets its contract.
use Rattle.std.proofs.Common.{arith}
use Rattle.lists.proofs.Written.{wrote-over}
use Rattle.delete_vector.proofs.Says.{write_done}
use Rattle.delete_vector.proofs.write_all.Goals as goal

pub returns : goal.returns
returns c = write_done _ _ _ _ (omega arith) (omega (arith, c.file_size-size.ensures.0)) c.file_size-size.ensures.0 (wrote-over _ _ _ _ c.put_records.ensures)
