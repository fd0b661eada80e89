-- `delete_vector::record::put_record` meets its contract.
use Rattle.std.proofs.Common.{arith, length-set}
use Rattle.delete_vector.proofs.Sizes.{record-short}
use Rattle.delete_vector.proofs.Bytes.{more-length, wrote-zero, wrote-more}
use Rattle.delete_vector.proofs.record.put_record.Goals as goal

pub bounds-out-at : goal.bounds-out-at
bounds-out-at c = omega (arith, record-short c.args.row.0 (omega arith))

pub returns-then-row-eq0 : goal.returns-then-row-eq0
returns-then-row-eq0 c = wrote-zero _ _ _ c.requires c.if-row-eq0.true

pub bounds-out-at-2 : goal.bounds-out-at-2
bounds-out-at-2 c = omega (arith, more-length c.args.row.0 (omega arith) c.if-row-eq0.false)

pub bounds-out-at-3 : goal.bounds-out-at-3
bounds-out-at-3 c = simp length-set (omega (arith, more-length c.args.row.0 (omega arith) c.if-row-eq0.false))

pub put_varint-requires : goal.put_varint-requires
put_varint-requires c = simp length-set (omega (arith, more-length c.args.row.0 (omega arith) c.if-row-eq0.false))

pub returns : goal.returns
returns c = wrote-more _ _ _ c.requires _ _ (omega arith) c.if-row-eq0.false (rw c.varint_size.ensures.0 at c.put_varint.ensures)
