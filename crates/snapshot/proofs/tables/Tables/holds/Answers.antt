-- `snapshot::tables::Tables::holds` meets its contract.
use mathlib.Core.Path.{sym, ◌∙◌}
use Rattle.lists.proofs.Places.{known}
use Rattle.snapshot.proofs.ByPlace.{column-has}
use Rattle.snapshot.proofs.TableRows.{table-ids}
use Rattle.snapshot.proofs.tables.Tables.holds.Goals as goal

pub returns : goal.returns
returns c = let s = c.args.self.now in c.contains.ensures.value ∙ column-has s.ids s.count c.args.table.0 (search known) ∙ sym (table-ids s.ids s.shapes s.lengths s.names s.locked s.count c.args.table.0)
