-- `columns::insert` meets its contract.
use Rattle.lists.proofs.Places.{known}
use Rattle.columns.proofs.Rows.{put-shifted}
use Rattle.columns.proofs.insert.Goals as goal

pub returns : goal.returns
returns g c =
    let s = c.copy_within.ensures in
    let t = s.by_index in
    let r = c.requires in
    put-shifted c.args.count c.args.at c.args.x c.args.s.now c.copy_within.new.self r.0 (search known) s.len t.0 t.1
