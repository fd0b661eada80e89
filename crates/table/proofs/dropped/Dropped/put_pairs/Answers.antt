-- `table::dropped::Dropped::put_pairs` meets its contract.
use mathlib.Core.List.{map-map}
use native.Mathlib.Omega.{arith}
use Rattle.std.proofs.Common.{lit<, ap, ◌∙◌}
use Rattle.std.proofs.lemmas.Iterator.Consumers.{YieldsList-from_first, YieldsList-turn, YieldsList-end}
use Rattle.std.proofs.lemmas.List.{length_push}
use Rattle.lists.specs.Keyed.{keep}
use Rattle.lists.proofs.Keyed.{keep-map}
use Rattle.snapshot.specs.Entries.{by_ids, shown_by, of_table}
use Rattle.snapshot.specs.Views.{rowset_of}
use Rattle.snapshot.specs.Passing.{to_come}
use Rattle.version_state.specs.State.{state_of}
use Rattle.version_state.proofs.Facts.{sound-of}
use Rattle.rewrite.proofs.Lines.{write-start, write-room, write-more, write_done}
use Rattle.table.specs.Made.{delete_rowset_of}
use Rattle.table.proofs.Lines.{part-few, delete-line}
use Rattle.table.proofs.dropped.Dropped.put_pairs.Goals as goal

pub loop-r-init : goal.loop-r-init
loop-r-init c = write-start (part-few _ _ _ _ _ (sound-of c.args.self.now.state.inner.now c.args.self.now.state.sound).fits.rowsets) c.requires.room

pub put_line-requires : goal.put_line-requires
put_line-requires c =
    let l = keep (of_table c.args.self.now.table.0) (keep (shown_by c.args.self.now.state.inner.now.epoch) (state_of c.args.self.now.state.inner.now).pairs) in
    let road = YieldsList-from_first rowset_of to_come {s = c.into_iter-r-iterator.result} l (ap to_come c.into_iter-r-iterator.ensures.into_iter_gives ∙ c.shown_of-r-items.ensures) in
    let t = YieldsList-turn road c.loop-r.yielded c.loop-r.r-iterator c.loop-r.yielded_by _ c.next.new.self c.in-Some.r c.in-Some.is c.next.ensures.steps in
    (lit< tt, write-room c.loop-r.invariant t.0 _ (delete-line c.in-Some.r.ids.table.0 c.in-Some.r.ids.rowset.0 (omega arith) (omega arith)))

pub loop-r-preserved : goal.loop-r-preserved
loop-r-preserved c =
    let l = keep (of_table c.args.self.now.table.0) (keep (shown_by c.args.self.now.state.inner.now.epoch) (state_of c.args.self.now.state.inner.now).pairs) in
    let road = YieldsList-from_first rowset_of to_come {s = c.into_iter-r-iterator.result} l (ap to_come c.into_iter-r-iterator.ensures.into_iter_gives ∙ c.shown_of-r-items.ensures) in
    let t = YieldsList-turn road c.loop-r.yielded c.loop-r.r-iterator c.loop-r.yielded_by _ c.next.new.self c.in-Some.r c.in-Some.is c.next.ensures.steps in
    let w = write-more c.loop-r.invariant t.0 (rowset_of c.in-Some.r) t.1 (delete-line c.in-Some.r.ids.table.0 c.in-Some.r.ids.rowset.0 (omega arith) (omega arith)) _ c.put_line.ensures in
    rw (length_push c.loop-r.yielded c.in-Some.r) w

pub returns : goal.returns
returns c =
    let l = keep (of_table c.args.self.now.table.0) (keep (shown_by c.args.self.now.state.inner.now.epoch) (state_of c.args.self.now.state.inner.now).pairs) in
    let road = YieldsList-from_first rowset_of to_come {s = c.into_iter-r-iterator.result} l (ap to_come c.into_iter-r-iterator.ensures.into_iter_gives ∙ c.shown_of-r-items.ensures) in
    let t = YieldsList-end road c.loop-r.yielded c.loop-r.r-iterator c.loop-r.yielded_by _ c.next.new.self c.in-None.is c.next.ensures.steps in
    rw (keep-map, map-map delete_rowset_of by_ids) (write_done c.loop-r.invariant t.1)
