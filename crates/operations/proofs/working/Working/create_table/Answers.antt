-- `operations::working::Working::create_table` meets its contract.
use Rattle.std.proofs.Common.{rules}
use Prim.Native.Nat.{◌+◌, ◌≤◌}
use native.Mathlib.Omega.{arith}
use Rattle.ids.specs.Limits.{most_tables}
use Rattle.ids.specs.Names.{name_of}
use Rattle.operations.proofs.Turns.{tables-more}
use Rattle.operations.proofs.working.Working.create_table.Goals as goal

pub invariant_of-self-2 : goal.invariant_of-self-2
invariant_of-self-2 c =
    let m = c.args.self.now.inner.now in
    let y = c.args.self.now.ready in
    let f : m.tables.count + 1 ≤ most_tables = omega arith in
    let l = tables-more _ c.args.table.0 c.args.shape (name_of c.args.name) _ y.tables y.below (search rules) in
    record {
      ready =
          record {
            fits = record { tables = rw c.push.ensures.count f; rowsets = y.fits.rowsets; vectors = y.fits.vectors };
            tables = rw c.push.ensures.told l.0;
            pairs = y.pairs;
            vectors = y.vectors;
            below = rw c.push.ensures.told l.1;
          };
    }
