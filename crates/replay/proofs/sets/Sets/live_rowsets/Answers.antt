use Rattle.std.proofs.Common.{◌≡◌, sym, ◌∙◌, arith, map, take, length, length-take-le}
use Rattle.std.proofs.lemmas.List.{length-map}
use Rattle.replay.specs.Sets.{rowset_entry}
use Rattle.replay.proofs.Appended.{rowset-next, rowset-more}
use Rattle.replay.proofs.sets.Sets.live_rowsets.Goals as goal

pub insert-requires-clause-rises : goal.insert-requires-clause-rises
insert-requires-clause-rises c =
    rw c.loop-at.invariant.told (rowset-next _ _ (record { table = record { 0 = 0 }; rowset = record { 0 = 0 } }) c.loop-at-test.true _ c.as_slice-x-items.ensures.all c.as_slice-x-items.ensures.rising).rises

pub insert-requires-clause-place : goal.insert-requires-clause-place
insert-requires-clause-place c =
    let end = rowset-next _ _ _ c.loop-at-test.true _ c.as_slice-x-items.ensures.all c.as_slice-x-items.ensures.rising in
    let n : length (map rowset_entry (take c.loop-at.at c.as_slice-x-items.result.now)) ≡ c.loop-at.at = length-map _ _ ∙ length-take-le _ _ c.loop-at.auto.at-end in
    rw c.loop-at.invariant.told (sym n ∙ end.place, omega (arith, c.loop-at.invariant.count), end.absent)

pub loop-at-preserved : goal.loop-at-preserved
loop-at-preserved c =
    record {
      told = rowset-more _ _ _ c.loop-at-test.true _ c.as_slice-x-items.ensures.all c.as_slice-x-items.ensures.rising _ _ c.loop-at.invariant.told c.insert.ensures.told;
      count = omega (arith, c.insert.ensures.count, c.loop-at.invariant.count);
    }
