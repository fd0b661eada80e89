-- `delete_vector::record::put_varint` meets its contract.
use Rattle.std.proofs.Common.{◌≡◌, ◌+◌, length}
use Rattle.lists.specs.Written.{written}
use Rattle.delete_vector.specs.Encoding.{varint}
use Rattle.delete_vector.proofs.record.put_varint.Given as goal

abbrev pub invariant-loop-left : goal.invariant-loop-left
invariant-loop-left l = (written l.out l.i (varint l.left) ≡ written l.initial.out l.at (varint l.n)) × (l.i + length (varint l.left) ≡ l.at + length (varint l.n)) × (length l.out ≡ length l.initial.out)

abbrev pub decreases-loop-left : goal.decreases-loop-left
decreases-loop-left l = l.left
