-- `operations::working::Working::drop_table` meets its contract.
use mathlib.Core.List.{[], ◌∷◌}
use native.Mathlib.Omega.{arith}
use Rattle.operations.proofs.Turns.{tables-left}
use Rattle.operations.proofs.working.Working.drop_table.Goals as goal

pub invariant_of-self-2 : goal.invariant_of-self-2
invariant_of-self-2 c =
    let y = c.args.self.now.ready in
    let l = tables-left _ (c.args.table.0 ∷ []) _ y.tables y.below in
    record {
      ready =
          record {
            fits = record { tables = omega (arith, c.remove.ensures.fewer, y.fits.tables); rowsets = y.fits.rowsets; vectors = y.fits.vectors };
            tables = rw c.remove.ensures.told l.0;
            pairs = y.pairs;
            vectors = y.vectors;
            below = rw c.remove.ensures.told l.1;
          };
    }
