-- `delete_vector::file::file_size` meets its contract.
use Rattle.std.proofs.Common.{◌≡◌, ◌+◌, ◌*◌, ◌≤◌, length, drop}
use Rattle.delete_vector.specs.Records.{records_of}
use Rattle.delete_vector.proofs.file.file_size.Given as goal

abbrev pub invariant-loop-row : goal.invariant-loop-row
invariant-loop-row l = (l.size ≤ 7 * l.row-index) × (l.size + length (records_of (drop l.row-index l.rows)) ≡ length (records_of l.rows))
