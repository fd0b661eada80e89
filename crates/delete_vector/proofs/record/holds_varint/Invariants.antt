-- `delete_vector::record::holds_varint` meets its contract.
use Rattle.std.proofs.Common.{◌≡◌, drop}
use Rattle.delete_vector.specs.Encoding.{varint}
use Rattle.delete_vector.specs.Records.{starts_with}
use Rattle.delete_vector.proofs.record.holds_varint.Given as goal

abbrev pub invariant-loop-byte : goal.invariant-loop-byte
invariant-loop-byte l = starts_with (varint l.left) (drop l.byte-index l.file) ≡ starts_with (varint l.n) l.file
