-- `snapshot::tables::Tables::stands_at` meets its contract.
use mathlib.Core.Path.{sym, ◌∙◌}
use mathlib.Core.Bool.{true, and-true}
use mathlib.Core.List.{[], ◌∷◌}
use borrow.Author.Tests.{le-ltb}
use Rattle.snapshot.specs.Tables.{by_table, table_at}
use Rattle.snapshot.proofs.ByPlace.{leads_at, leads_none}
use Rattle.snapshot.proofs.tables.Tables.stands_at.Goals as goal

pub returns-then-at-self : goal.returns-then-at-self
returns-then-at-self c =
    let s = c.args.self.now in
    sym (leads_at by_table (table_at s.ids s.shapes s.lengths s.names s.locked) s.count c.args.at (λ x. true) (c.args.table.0 ∷ []) c.if-at-self.true ∙ and-true _ ∙ and-true _)

pub returns-else-at-self : goal.returns-else-at-self
returns-else-at-self c =
    let s = c.args.self.now in
    le-ltb _ _ c.if-at-self.false ∙ sym (leads_none by_table (table_at s.ids s.shapes s.lengths s.names s.locked) s.count c.args.at (λ x. true) (c.args.table.0 ∷ []) c.if-at-self.false)
