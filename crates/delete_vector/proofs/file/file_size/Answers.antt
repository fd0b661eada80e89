-- `delete_vector::file::file_size` meets its contract.
use Rattle.std.proofs.Common.{arith}
use Rattle.delete_vector.proofs.Files.{rows-length}
use Rattle.delete_vector.proofs.Sizes.{record-size}
use Rattle.delete_vector.proofs.file.file_size.Goals as goal

pub loop-row-preserved : goal.loop-row-preserved
loop-row-preserved c =
    let i = c.loop-row.row-index in
    let z = record-size _ (c.type_inv.rows i).fits in
    let n = rows-length c.args.rows.now i c.loop-row-test.true in
    (omega arith, omega arith)
