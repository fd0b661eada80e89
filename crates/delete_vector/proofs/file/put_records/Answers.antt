-- `delete_vector::file::put_records` meets its contract.
use Rattle.lists.proofs.Written.{written_none}
use Rattle.std.proofs.Common.{length, sym, ap, ◌∙◌, arith}
use Rattle.lists.specs.Written.{written}
use Rattle.delete_vector.proofs.Files.{rows-length, rows_end, rows_written}
use Rattle.delete_vector.proofs.file.put_records.Goals as goal

pub loop-row-preserved : goal.loop-row-preserved
loop-row-preserved c =
    let rows = c.args.rows.now in
    let i = c.loop-row.row-index in
    let n = rows-length rows i c.loop-row-test.true in
    let w = c.put_record-next.ensures in
    let m = w.next in
    (rows_written _ _ rows i _ _ c.loop-row-test.true (omega arith) w ∙ c.loop-row.invariant.0, omega arith)

pub returns : goal.returns
returns c =
    let v = c.loop-row.invariant in
    let e = rows_end c.args.rows.now c.loop-row.row-index c.loop-row-test.false in
    let n = ap length e in
    record {
      content = written_none _ _ ∙ ap (λ p. written c.loop-row.out c.loop-row.next p) (sym e) ∙ v.0;
      next = omega arith;
    }
