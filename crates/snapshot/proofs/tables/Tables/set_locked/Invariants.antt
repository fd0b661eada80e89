-- `snapshot::tables::Tables::set_locked` meets its contract.
use Rattle.snapshot.proofs.TableRows.{Locking}
use Rattle.snapshot.proofs.tables.Tables.set_locked.Given as goal

abbrev pub invariant-loop-i : goal.invariant-loop-i
invariant-loop-i l = Locking l.table.0 l.held l.initial.self l.i l.self
