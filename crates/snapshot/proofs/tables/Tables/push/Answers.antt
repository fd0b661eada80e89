-- `snapshot::tables::Tables::push` meets its contract.
use mathlib.Core.Path.{◌∙◌}
use Rattle.snapshot.specs.Tables.{created, table_at}
use Rattle.ids.specs.Names.{name_of}
use Rattle.snapshot.proofs.TableRows.{rows-last}
use Rattle.snapshot.proofs.tables.Tables.push.Goals as goal

pub returns-clause-told : goal.returns-clause-told
returns-clause-told c = let s = c.args.self.now in c.set.ensures.told ∙ rows-last (table_at s.ids s.shapes s.lengths s.names s.locked) s.count (created c.args.table.0 c.args.shape (name_of c.args.name))
