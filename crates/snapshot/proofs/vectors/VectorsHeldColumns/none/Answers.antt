-- `snapshot::vectors::VectorsHeldColumns::none` meets its contract: no place is in use. Over columns of its own, so that a shared lemma would be no plainer.
use Rattle.std.proofs.Common.{◌≡◌, rules}
use Rattle.columns.specs.Rows.{rows}
use Rattle.snapshot.proofs.vectors.VectorsHeldColumns.none.Goals as goal

pub returns : goal.returns
unfolding rows
returns c = let n : c.default.result.count ≡ 0 = search rules in (n, rw n)
