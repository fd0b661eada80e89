-- `snapshot::rowsets::RowsetsHeldColumns::insert` meets its contract.
use Rattle.snapshot.proofs.Entries.{AllPutIn}
use Rattle.snapshot.proofs.ByPlace.{put-found, put-rises}
use Rattle.snapshot.proofs.rowsets.RowsetsHeldColumns.insert.Goals as goal

pub returns-clause-told : goal.returns-clause-told
returns-clause-told c = let s = c.args.self.now in put-found s.count c.args.at s.added _ s.deleted _ c.args.epoch (AllPutIn.more c.insert.ensures (AllPutIn.more c.insert-2.ensures AllPutIn.none)) c.insert-3.ensures c.insert-4.ensures c.requires.rises c.requires.place

pub returns-clause-rises : goal.returns-clause-rises
returns-clause-rises c = let s = c.args.self.now in put-rises s.count c.args.at s.added _ s.deleted _ c.args.epoch (AllPutIn.more c.insert.ensures (AllPutIn.more c.insert-2.ensures AllPutIn.none)) c.insert-3.ensures c.insert-4.ensures c.requires.rises c.requires.place
