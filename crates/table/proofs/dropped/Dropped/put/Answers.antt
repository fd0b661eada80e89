-- `table::dropped::Dropped::put` meets its contract.
use mathlib.Core.Path.{ap}
use native.Mathlib.Omega.{arith}
use Rattle.std.proofs.Common.{lit<}
use lib.ListN.{length}
use Rattle.table.proofs.Lines.{drop-line}
use Rattle.table.proofs.Judged.{drop-made}
use Rattle.table.proofs.dropped.Dropped.put.Goals as goal

pub put_line-requires : goal.put_line-requires
put_line-requires c = (lit< tt, omega (arith, ap length c.clear.ensures, drop-line c.args.self.now.table.0 c.args.self.now.id))

pub put_vectors-requires : goal.put_vectors-requires
put_vectors-requires c =
    let first = rw c.clear.ensures at c.put_line.ensures in
    omega (arith, ap length first, drop-line c.args.self.now.table.0 c.args.self.now.id)

pub put_pairs-requires : goal.put_pairs-requires
put_pairs-requires c =
    let first = rw c.clear.ensures at c.put_line.ensures in
    omega (arith, ap length first, drop-line c.args.self.now.table.0 c.args.self.now.id, c.put_vectors.ensures.1)

pub returns : goal.returns
returns c =
    let first = rw c.clear.ensures at c.put_line.ensures in
    drop-made c.args.self.now.state.inner.now c.args.self.now.table.0 _ _ _ first c.put_vectors.ensures.0 c.put_pairs.ensures.0
