-- `delete_vector::file::put_records` meets its contract.
use Rattle.std.proofs.Common.{◌≡◌, ◌+◌, length, drop}
use Rattle.lists.specs.Written.{written}
use Rattle.delete_vector.specs.Records.{records_of}
use Rattle.delete_vector.proofs.file.put_records.Given as goal

abbrev pub invariant-loop-row : goal.invariant-loop-row
invariant-loop-row l = (written l.out l.next (records_of (drop l.row-index l.rows)) ≡ written l.initial.out l.at (records_of l.rows)) × (l.next + length (records_of (drop l.row-index l.rows)) ≡ l.at + length (records_of l.rows))
