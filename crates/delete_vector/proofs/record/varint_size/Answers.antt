-- `delete_vector::record::varint_size` meets its contract.
use Rattle.std.proofs.Common.{refl, arith, ne_eqb}
use Rattle.delete_vector.specs.Sizes.{varint_size}
use Rattle.delete_vector.proofs.Sizes.{bits-half, bits-within}
use Rattle.delete_vector.proofs.record.varint_size.Goals as goal

pub returns-then-row-eq0 : goal.returns-then-row-eq0
unfolding varint_size
returns-then-row-eq0 c = rw c.if-row-eq0.true (refl, omega arith)

pub overflow_sub-result : goal.overflow_sub-result
overflow_sub-result c = omega (arith, bits-half c.args.row.0 (omega arith))

pub returns-else-row-eq0 : goal.returns-else-row-eq0
unfolding varint_size
returns-else-row-eq0 c =
    let b = bits-half c.args.row.0 (omega arith) in
    let w = bits-within 32 c.args.row.0 (omega arith) in
    rw (ne_eqb _ _ c.if-row-eq0.false) (omega arith, omega arith)
