-- `rewrite::put_vectors` meets its contract.
use mathlib.Core.List.{map-map}
use native.Mathlib.Omega.{arith}
use Rattle.std.proofs.Common.{lit<, ap, ◌∙◌}
use Rattle.std.proofs.lemmas.Iterator.Consumers.{YieldsList-from_first, YieldsList-turn, YieldsList-end}
use Rattle.std.proofs.lemmas.List.{length_push}
use Rattle.lists.specs.Keyed.{keep}
use Rattle.snapshot.specs.Entries.{by_ids, shown_by}
use Rattle.snapshot.specs.Views.{vector_of}
use Rattle.snapshot.specs.Passing.{to_come}
use Rattle.version_state.specs.State.{state_of}
use Rattle.rewrite.specs.Rewritten.{add_vector_of}
use Rattle.rewrite.proofs.Lines.{kept-few, write-start, write-room, write-more, write_done}
use Rattle.rewrite.proofs.Room.{vector_line}
use Rattle.rewrite.proofs.put_vectors.Goals as goal

pub loop-v-init : goal.loop-v-init
loop-v-init c = write-start (kept-few _ _ _ _ c.requires.fits.vectors) c.requires.room

pub put_line-requires : goal.put_line-requires
put_line-requires c =
    let l = keep (shown_by c.args.inner.now.epoch) (state_of c.args.inner.now).vectors in
    let road = YieldsList-from_first vector_of to_come {s = c.into_iter-v-iterator.result} l (ap to_come c.into_iter-v-iterator.ensures.into_iter_gives ∙ c.shown-v-items.ensures) in
    let t = YieldsList-turn road c.loop-v.yielded c.loop-v.v-iterator c.loop-v.yielded_by _ c.next.new.self c.in-Some.v c.in-Some.is c.next.ensures.steps in
    (lit< tt, write-room c.loop-v.invariant t.0 _ (vector_line c.in-Some.v.ids.table.0 c.in-Some.v.ids.rowset.0 (omega arith) (omega arith) c.in-Some.v.ids.vector.0 (omega arith)))

pub loop-v-preserved : goal.loop-v-preserved
loop-v-preserved c =
    let l = keep (shown_by c.args.inner.now.epoch) (state_of c.args.inner.now).vectors in
    let road = YieldsList-from_first vector_of to_come {s = c.into_iter-v-iterator.result} l (ap to_come c.into_iter-v-iterator.ensures.into_iter_gives ∙ c.shown-v-items.ensures) in
    let t = YieldsList-turn road c.loop-v.yielded c.loop-v.v-iterator c.loop-v.yielded_by _ c.next.new.self c.in-Some.v c.in-Some.is c.next.ensures.steps in
    let w = write-more c.loop-v.invariant t.0 (vector_of c.in-Some.v) t.1 (vector_line c.in-Some.v.ids.table.0 c.in-Some.v.ids.rowset.0 (omega arith) (omega arith) c.in-Some.v.ids.vector.0 (omega arith)) _ c.put_line.ensures in
    rw (length_push c.loop-v.yielded c.in-Some.v) w

pub returns : goal.returns
returns c =
    let l = keep (shown_by c.args.inner.now.epoch) (state_of c.args.inner.now).vectors in
    let road = YieldsList-from_first vector_of to_come {s = c.into_iter-v-iterator.result} l (ap to_come c.into_iter-v-iterator.ensures.into_iter_gives ∙ c.shown-v-items.ensures) in
    let t = YieldsList-end road c.loop-v.yielded c.loop-v.v-iterator c.loop-v.yielded_by _ c.next.new.self c.in-None.is c.next.ensures.steps in
    rw (map-map add_vector_of by_ids) (write_done c.loop-v.invariant t.1)
