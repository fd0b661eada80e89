-- `snapshot::tables::Tables::set` meets its contract.
use mathlib.Core.Path.{◌≡◌}
use Prim.Native.Nat.{◌*◌, ◌+◌, ◌-◌}
use native.Mathlib.Omega.{arith}
use lib.ListN.{length}
use Rattle.ids.proofs.Names.{name-room}
use Rattle.ids.specs.Names.{longest_name}
use Rattle.lists.proofs.Places.{known}
use Rattle.snapshot.proofs.TableRows.{put-run, put-table}
use Rattle.snapshot.proofs.tables.Tables.set.Goals as goal

pub overflow_cast-self : goal.overflow_cast-self
overflow_cast-self c = let r = name-room c.args.table.name in let e = c.length.ensures in omega arith

pub returns-clause-told : goal.returns-clause-told
returns-clause-told c =
    let s = c.args.self.now in
    let x = c.args.table in
    let f : length x.name.bytes ≡ longest_name = search known in
    let k : 32 * c.args.i + 32 - 32 * c.args.i ≡ length x.name.bytes = omega arith in
    put-table s.ids s.shapes s.lengths s.names s.locked (search known) (search known) (search known) (search known) (search known) s.count c.args.i x.table.0 x.shape _ x.name x.locked _ c.requires.inside c.requires.fits c.length.ensures f
    (put-run s.names x.name.bytes _ (32 * c.args.i) _ c.copy_from_slice.ensures.after k)
