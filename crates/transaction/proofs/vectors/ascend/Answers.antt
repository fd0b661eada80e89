-- `transaction::vectors::ascend` meets its contract.
use Rattle.std.proofs.Common.{length, sym, ap, ◌∙◌, arith, ℕ}
use Rattle.std.proofs.lemmas.List.{take_at}
use Rattle.delete_vector.proofs.InMemory.{memory-own}
use Rattle.transaction.proofs.vectors.ascend.Goals as goal

pub returns-then-rises : goal.returns-then-rises
returns-then-rises c =
    let e = c.copy_from_slice.ensures.after in
    (take_at c.copy_from_slice.new.self _ _ (ap (length {A = ℕ}) e) ∙ e ∙ sym (memory-own c.args.rows.now (sym c.if-rises.ensures)), omega arith)
