-- `delete_vector::record::significant_bits` meets its contract.
use Rattle.std.proofs.Common.{arith}
use Rattle.delete_vector.proofs.Sizes.{zeros-bits}
use Rattle.delete_vector.proofs.record.significant_bits.Goals as goal

pub returns : goal.returns
returns c = omega (arith, zeros-bits 32 c.args.row.0 (omega arith))
