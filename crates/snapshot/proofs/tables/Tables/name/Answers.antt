-- `snapshot::tables::Tables::name` meets its contract.
use mathlib.Core.Path.{sym, ap, ◌∙◌}
use Rattle.columns.proofs.Rows.{rows_at}
use Rattle.snapshot.specs.Tables.{TableEntry, no_table, table_at}
use Rattle.snapshot.proofs.TableRows.{name-part}
use Rattle.snapshot.proofs.tables.Tables.name.Goals as goal

pub returns-clause-told : goal.returns-clause-told
returns-clause-told c =
    let s = c.args.self.now in
    name-part s.lengths s.names c.args.i _ c.length.ensures.told ∙ sym (ap (λ (x : TableEntry). x.name) (rows_at (table_at s.ids s.shapes s.lengths s.names s.locked) s.count c.args.i no_table c.requires.inside))
