-- `snapshot::tables::Tables::set_locked` meets its contract.
use Rattle.snapshot.proofs.TableRows.{lock_done}
use Rattle.snapshot.proofs.tables.Tables.set_locked.Goals as goal

pub returns-clause-told : goal.returns-clause-told
returns-clause-told c = let h = c.loop-i-test.false in (lock_done c.args.table.0 c.args.held c.args.self.now c.loop-i.i c.loop-i.self h c.loop-i.invariant).0
