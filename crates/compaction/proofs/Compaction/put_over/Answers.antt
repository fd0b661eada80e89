-- `compaction::Compaction::put_over` meets its contract.
use mathlib.Core.Path.{◌≡◌, ap, ◌∙◌}
use mathlib.Core.List.{◌∷◌}
use Prim.Native.Nat.{◌+◌, ◌≤◌}
use native.Mathlib.Omega.{arith}
use lib.ListN.{length, drop}
use Rattle.std.proofs.Common.{lit<, rules, of_calls}
use Rattle.std.proofs.iter.Serving.{serving}
use Rattle.std.proofs.lemmas.List.{length_push}
use Rattle.std.proofs.lemmas.Iterator.Consumers.{YieldsList-at, YieldsList-turn, YieldsList-end}
use Rattle.manifest.specs.Operations.{delete_vector}
use Rattle.snapshot.specs.Views.{vector_of}
use Rattle.snapshot.specs.Passing.{to_come}
use Rattle.compaction.proofs.Lines.{delete-vector-line, write-start, write-room, write-more, write-done}
use Rattle.compaction.proofs.Filtered.{lines_over, lines-count, over-count, over-lines, over-road, line-turn}
use Rattle.compaction.proofs.Compaction.put_over.Goals as goal
use Rattle.compaction.proofs.Compaction.put_over.Goals.{In-Some, In-None}

-- the line that the loop comes to, and those after it
here : (c : In-Some)
    → let l = lines_over c.args.self.now.state.inner.now c.args.self.now.table.0 c.args.self.now.taken.now in
    drop (length c.loop-v.yielded) l ≡ delete_vector c.in-Some.v.ids.table.0 c.in-Some.v.ids.rowset.0 c.in-Some.v.ids.vector.0 ∷ drop (length c.loop-v.yielded + 1) l
here c =
    let a = c.args.self.now in
    let m = a.state.inner.now in
    let t = YieldsList-turn
    (YieldsList-at c.into_iter-v-iterator.ensures.into_iter_gives (over-road m a.table.0 a.taken.now vector_of to_come _ (ap to_come c.filter-over.ensures.source ∙ c.shown_of.ensures) c.filter-over.ensures.closure (λ x b q k. search rules)))
    c.loop-v.yielded c.loop-v.v-iterator c.loop-v.yielded_by _ c.next.new.self c.in-Some.v c.in-Some.is c.next.ensures.steps in
    line-turn m a.table.0 a.taken.now (length c.loop-v.yielded) (vector_of c.in-Some.v) t.0 t.1

-- at its end it has come to all
all : (c : In-None) → length (lines_over c.args.self.now.state.inner.now c.args.self.now.table.0 c.args.self.now.taken.now) ≤ length c.loop-v.yielded
all c =
    let a = c.args.self.now in
    let m = a.state.inner.now in
    let t = YieldsList-end
    (YieldsList-at c.into_iter-v-iterator.ensures.into_iter_gives (over-road m a.table.0 a.taken.now vector_of to_come _ (ap to_come c.filter-over.ensures.source ∙ c.shown_of.ensures) c.filter-over.ensures.closure (λ x b q k. search rules)))
    c.loop-v.yielded c.loop-v.v-iterator c.loop-v.yielded_by _ c.next.new.self c.in-None.is c.next.ensures.steps in
    omega (arith, t.1, lines-count m a.table.0 a.taken.now)

pub loop-v-init : goal.loop-v-init
loop-v-init c =
    let a = c.args.self.now in
    let m = a.state.inner.now in
    (grind serving, search of_calls, write-start (lines_over m a.table.0 a.taken.now) _ _ (omega (arith, c.requires.room, lines-count m a.table.0 a.taken.now, over-count m a.table.0 a.taken.now)))

pub put_line-requires : goal.put_line-requires
put_line-requires c =
    let line = delete-vector-line c.in-Some.v.ids.table.0 c.in-Some.v.ids.rowset.0 c.in-Some.v.ids.vector.0 (omega arith) (omega arith) (omega arith) in
    (lit< tt, write-room _ _ _ _ _ c.loop-v.invariant.2 _ (here (goal.at.put_line-requires c).In-Some) line)

pub loop-v-preserved : goal.loop-v-preserved
loop-v-preserved c =
    let line = delete-vector-line c.in-Some.v.ids.table.0 c.in-Some.v.ids.rowset.0 c.in-Some.v.ids.vector.0 (omega arith) (omega arith) (omega arith) in
    let w = write-more _ _ _ _ _ c.loop-v.invariant.2 _ (here (goal.at.loop-v-preserved c).In-Some) line _ c.put_line.ensures in
    (grind serving, search of_calls, rw (length_push c.loop-v.yielded c.in-Some.v) w)

pub returns-clause-added : goal.returns-clause-added
returns-clause-added c =
    let a = c.args.self.now in
    rw (← over-lines a.state.inner.now a.table.0 a.taken.now) (write-done _ _ _ _ _ c.loop-v.invariant.2 (all (goal.at.returns-clause-added c).In-None)).0

pub returns-clause-short : goal.returns-clause-short
returns-clause-short c =
    let a = c.args.self.now in
    let m = a.state.inner.now in
    omega (arith, lines-count m a.table.0 a.taken.now, over-count m a.table.0 a.taken.now, (write-done _ _ _ _ _ c.loop-v.invariant.2 (all (goal.at.returns-clause-short c).In-None)).1)
