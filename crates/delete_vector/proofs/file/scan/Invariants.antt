-- `delete_vector::file::scan` meets its contract.
use Rattle.std.proofs.Common.{◌≡◌, ◌+◌, ◌-◌, ◌≤◌, length}
use Rattle.delete_vector.specs.Records.{records_at, records_in}
use Rattle.delete_vector.specs.Answers.{scanned_of}
use Rattle.delete_vector.proofs.file.scan.Given as goal

abbrev pub invariant-loop-rest : goal.invariant-loop-rest
invariant-loop-rest l = (l.count + length l.rest ≤ length l.file) × (scanned_of l.count (records_at l.rest (length l.file - length l.rest)) ≡ scanned_of 0 (records_in l.file))

abbrev pub decreases-loop-rest : goal.decreases-loop-rest
decreases-loop-rest l = length l.rest
