use Rattle.std.proofs.Common.{◌≡◌, sym, ◌∙◌, arith, length}
use Rattle.columns.proofs.Rows.{rows-length}
use Rattle.snapshot.specs.Views.{vectors_of}
use Rattle.replay.proofs.Appended.{vector-next, vector-more, vector-less}
use Rattle.replay.proofs.sets.Sets.live_vectors.Goals.{then-holds, else-holds}
use Rattle.replay.proofs.sets.Sets.live_vectors.Goals as goal

pub insert-requires-clause-rises : goal.insert-requires-clause-rises
insert-requires-clause-rises c =
    rw c.loop-x.invariant.told (vector-next _ _ _ (record { table = record { 0 = 0 }; rowset = record { 0 = 0 }; vector = record { 0 = 0 } }) c.loop-x-test.true _ c.as_slice-x-items.ensures.all c.as_slice-x-items.ensures.rising).rises

pub insert-requires-clause-place : goal.insert-requires-clause-place
insert-requires-clause-place c =
    let end = vector-next _ _ _ _ c.loop-x-test.true _ c.as_slice-x-items.ensures.all c.as_slice-x-items.ensures.rising in
    let n : length (vectors_of c.loop-x.out) ≡ c.loop-x.out.count = rows-length _ _ in
    (sym n ∙ rw c.loop-x.invariant.told end.place, omega arith, rw c.loop-x.invariant.told end.absent)

pub loop-x-preserved : goal.loop-x-preserved
loop-x-preserved c = elim c.if-holds.branch [
  | then-holds w ↦ record {
    told = rw w.out-is (vector-more _ _ _ _ c.loop-x-test.true _ c.as_slice-x-items.ensures.all c.as_slice-x-items.ensures.rising _ (rw c.pair.ensures at c.holds.ensures) w.if-holds.true _ _ c.loop-x.invariant.told w.insert.ensures.told);
    count = rw w.out-is (omega (arith, w.insert.ensures.count, c.loop-x.invariant.count));
  }
  | else-holds w ↦ record {
    told = rw w.out-is (vector-less _ _ _ _ c.loop-x-test.true _ (rw c.pair.ensures at c.holds.ensures) w.if-holds.false _ c.loop-x.invariant.told);
    count = rw w.out-is (omega (arith, c.loop-x.invariant.count));
  }
]
