-- `operations::working::Working::add_rowset` meets its contract.
use mathlib.Core.Path.{sym, ◌∙◌}
use native.Mathlib.Omega.{arith}
use Rattle.operations.proofs.Turns.{rowsets_count, undrawn, pair-in}
use Rattle.operations.proofs.working.Working.add_rowset.Goals as goal

pub returns-clause-told : goal.returns-clause-told
returns-clause-told c =
    pair-in _ _ _ _ _ _ _ (sym c.holds.ensures ∙ c.if-not-holds.false) (undrawn _ _ _ c.le.ensures ∙ c.if-le.false) c.in-Err.ensures.2 (rowsets_count c.args.self.now.inner.now.rowsets) (omega arith)
    (rw c.insert.ensures.told)
