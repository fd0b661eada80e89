-- `rewrite::put_rewritten_lines` meets its contract.
use Rattle.rewrite.proofs.Whole.{whole-added, whole-short}
use Rattle.rewrite.proofs.put_rewritten_lines.Goals as goal

pub returns : goal.returns
returns c =
    let first = rw c.clear.ensures at c.put_letter.ensures in
    let line = rw c.next_change.ensures.0 at c.put_line.ensures in
    let n = rw c.next_change.ensures.0 at c.next_change.ensures.1 in (
      whole-added c.args.inner.now _ _ _ _ _ _ first line c.put_tables.ensures.0 c.put_pairs.ensures.0 c.put_vectors.ensures.0 c.put_letter-2.ensures,
      whole-short c.args.inner.now _ _ _ _ _ _ first line n c.put_tables.ensures.1 c.put_pairs.ensures.1 c.put_vectors.ensures.1 c.put_letter-2.ensures,
    )
