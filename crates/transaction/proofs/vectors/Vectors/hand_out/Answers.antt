-- `transaction::vectors::Vectors::hand_out` meets its contract.
use Rattle.std.proofs.Common.{ℕ, length, ap, arith, length-take}
use Rattle.lists.proofs.Written.{wrote-over}
use Rattle.transaction.proofs.Outputs.{copied, out-done}
use Rattle.transaction.proofs.vectors.Vectors.hand_out.Goals as goal

pub returns : goal.returns
returns c = λ vs h q.
    let v = c.args.self.now in
    let a = c.copy_from_slice.ensures in
    let b = c.copy_from_slice-2.ensures in
    let d = c.copy_from_slice-3.ensures in
    let e = c.copy_from_slice-4.ensures in
    let n = ap (length {A = ℕ}) e.after in
    out-done vs v h c.args.rows.now q
    (omega (arith, e.len, length-take v.kept v.held, length-take v.kept c.args.ms.now))
    _ c.file_size-bytes.ensures.0 _ _ _ _ _ _ _ _ _ _ (omega arith) (omega arith) (omega arith) (omega arith) (omega arith)
    (copied _ _ _ _ a.after a.len (omega arith))
    (copied _ _ _ _ b.after b.len (omega arith))
    (copied _ _ _ _ d.after d.len (omega arith))
    (wrote-over _ _ _ _ c.put_records.ensures)
    (copied _ _ _ _ e.after e.len (omega arith))
