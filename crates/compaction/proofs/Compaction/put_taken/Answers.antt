-- `compaction::Compaction::put_taken` meets its contract.
use mathlib.Core.List.{map}
use native.Mathlib.Omega.{arith}
use Rattle.std.proofs.Common.{lit<}
use lib.ListN.{length-map}
use Rattle.manifest.specs.Operations.{delete_rowset}
use Rattle.compaction.proofs.Lines.{turn, delete-line, id-at, write-start, write-room, write-more}
use Rattle.compaction.proofs.Compaction.put_taken.Goals as goal

pub loop-rowset-init : goal.loop-rowset-init
loop-rowset-init c =
    let a = c.args.self.now in
    write-start (map (delete_rowset a.table.0) a.taken.now) _ _ (omega (arith, c.requires, length-map a.taken.now (delete_rowset a.table.0)))

pub put_line-requires : goal.put_line-requires
put_line-requires c =
    let a = c.args.self.now in
    let t = turn (delete_rowset a.table.0) a.taken.now c.loop-rowset.rowset-index 0 c.loop-rowset-test.true in
    (lit< tt, write-room _ _ _ _ _ c.loop-rowset.invariant _ t (delete-line a.table.0 _ a.id (id-at a.taken.now c.loop-rowset.rowset-index a.taken_ids)))

pub loop-rowset-preserved : goal.loop-rowset-preserved
loop-rowset-preserved c =
    let a = c.args.self.now in
    let t = turn (delete_rowset a.table.0) a.taken.now c.loop-rowset.rowset-index 0 c.loop-rowset-test.true in
    write-more _ _ _ _ _ c.loop-rowset.invariant _ t (delete-line a.table.0 _ a.id (id-at a.taken.now c.loop-rowset.rowset-index a.taken_ids)) _ c.put_line.ensures
