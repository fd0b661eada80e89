-- `transaction::vectors::put_rows` meets its contract.
use Rattle.std.proofs.Common.{ap, arith}
use Rattle.ids.specs.declared.RowNo.{RowNo}
use Rattle.transaction.proofs.Making.{row-more}
use Rattle.transaction.proofs.vectors.put_rows.Goals as goal

pub loop-i-preserved : goal.loop-i-preserved
loop-i-preserved c = row-more _ _ _ _ c.loop-i-test.true (omega arith) (ap (λ (r : RowNo). r.0) c.row_id.ensures) c.loop-i.invariant
