-- `table::dropped::Dropped::put_vectors` meets its contract.
use mathlib.Core.List.{map-map}
use native.Mathlib.Omega.{arith}
use Rattle.std.proofs.Common.{lit<, ap, ◌∙◌}
use Rattle.std.proofs.lemmas.Iterator.Consumers.{YieldsList-from_first, YieldsList-turn, YieldsList-end}
use Rattle.std.proofs.lemmas.List.{length_push}
use Rattle.lists.specs.Keyed.{keep}
use Rattle.lists.proofs.Keyed.{keep-map}
use Rattle.snapshot.specs.Entries.{by_ids, shown_by, of_table}
use Rattle.snapshot.specs.Views.{vector_of}
use Rattle.snapshot.specs.Passing.{to_come}
use Rattle.version_state.specs.State.{state_of}
use Rattle.version_state.proofs.Facts.{sound-of}
use Rattle.rewrite.proofs.Lines.{write-start, write-room, write-more, write_done}
use Rattle.table.specs.Made.{delete_vector_of}
use Rattle.table.proofs.Lines.{part-few, delete-vector-line}
use Rattle.table.proofs.dropped.Dropped.put_vectors.Goals as goal

pub loop-v-init : goal.loop-v-init
loop-v-init c = write-start (part-few _ _ _ _ _ (sound-of c.args.self.now.state.inner.now c.args.self.now.state.sound).fits.vectors) c.requires.room

pub put_line-requires : goal.put_line-requires
put_line-requires c =
    let l = keep (of_table c.args.self.now.table.0) (keep (shown_by c.args.self.now.state.inner.now.epoch) (state_of c.args.self.now.state.inner.now).vectors) in
    let road = YieldsList-from_first vector_of to_come {s = c.into_iter-v-iterator.result} l (ap to_come c.into_iter-v-iterator.ensures.into_iter_gives ∙ c.shown_of-v-items.ensures) in
    let t = YieldsList-turn road c.loop-v.yielded c.loop-v.v-iterator c.loop-v.yielded_by _ c.next.new.self c.in-Some.v c.in-Some.is c.next.ensures.steps in
    (lit< tt, write-room c.loop-v.invariant t.0 _ (delete-vector-line c.in-Some.v.ids.table.0 c.in-Some.v.ids.rowset.0 (omega arith) (omega arith) c.in-Some.v.ids.vector.0 (omega arith)))

pub loop-v-preserved : goal.loop-v-preserved
loop-v-preserved c =
    let l = keep (of_table c.args.self.now.table.0) (keep (shown_by c.args.self.now.state.inner.now.epoch) (state_of c.args.self.now.state.inner.now).vectors) in
    let road = YieldsList-from_first vector_of to_come {s = c.into_iter-v-iterator.result} l (ap to_come c.into_iter-v-iterator.ensures.into_iter_gives ∙ c.shown_of-v-items.ensures) in
    let t = YieldsList-turn road c.loop-v.yielded c.loop-v.v-iterator c.loop-v.yielded_by _ c.next.new.self c.in-Some.v c.in-Some.is c.next.ensures.steps in
    let w = write-more c.loop-v.invariant t.0 (vector_of c.in-Some.v) t.1 (delete-vector-line c.in-Some.v.ids.table.0 c.in-Some.v.ids.rowset.0 (omega arith) (omega arith) c.in-Some.v.ids.vector.0 (omega arith)) _ c.put_line.ensures in
    rw (length_push c.loop-v.yielded c.in-Some.v) w

pub returns : goal.returns
returns c =
    let l = keep (of_table c.args.self.now.table.0) (keep (shown_by c.args.self.now.state.inner.now.epoch) (state_of c.args.self.now.state.inner.now).vectors) in
    let road = YieldsList-from_first vector_of to_come {s = c.into_iter-v-iterator.result} l (ap to_come c.into_iter-v-iterator.ensures.into_iter_gives ∙ c.shown_of-v-items.ensures) in
    let t = YieldsList-end road c.loop-v.yielded c.loop-v.v-iterator c.loop-v.yielded_by _ c.next.new.self c.in-None.is c.next.ensures.steps in
    rw (keep-map, map-map delete_vector_of by_ids) (write_done c.loop-v.invariant t.1)
