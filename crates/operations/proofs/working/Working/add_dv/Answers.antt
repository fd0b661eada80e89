-- `operations::working::Working::add_dv` meets its contract.
use mathlib.Core.Path.{sym, ◌∙◌}
use native.Mathlib.Omega.{arith}
use Rattle.operations.proofs.Turns.{vectors-count, undrawn, vector-in}
use Rattle.operations.proofs.working.Working.add_dv.Goals as goal

pub returns-clause-told : goal.returns-clause-told
returns-clause-told c =
    vector-in _ _ _ _ _ _ _ _ (sym (rw c.pair.ensures at c.shows.ensures) ∙ c.if-not-shows.false) (undrawn _ _ _ c.le.ensures ∙ c.if-le.false) (sym c.numbered.ensures ∙ c.if-numbered.false) (vectors-count c.args.self.now.inner.now.vectors) (omega arith)
    (rw c.insert.ensures.told)
