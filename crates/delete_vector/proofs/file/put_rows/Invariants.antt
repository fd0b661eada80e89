-- `delete_vector::file::put_rows` meets its contract.
use Rattle.delete_vector.specs.Records.{records_in, rows_in}
use Rattle.delete_vector.proofs.Files.{Placing}
use Rattle.delete_vector.proofs.file.put_rows.Given as goal

abbrev pub invariant-loop-place : goal.invariant-loop-place
invariant-loop-place l = Placing l.file (rows_in (records_in l.file)) l.rest l.place-index l.initial.place-items l.place-items
