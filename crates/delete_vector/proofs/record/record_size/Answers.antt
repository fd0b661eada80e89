-- `delete_vector::record::record_size` meets its contract.
use Rattle.std.proofs.Common.{refl, arith, ne_eqb}
use Rattle.delete_vector.specs.Sizes.{record_size}
use Rattle.delete_vector.proofs.record.record_size.Goals as goal

pub returns-then-row-eq0 : goal.returns-then-row-eq0
unfolding record_size
returns-then-row-eq0 c = rw c.if-row-eq0.true (refl, omega arith)

pub returns : goal.returns
unfolding record_size
returns c = rw (ne_eqb _ _ c.if-row-eq0.false) (omega arith, omega arith)
