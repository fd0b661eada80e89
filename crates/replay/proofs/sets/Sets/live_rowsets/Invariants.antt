use Rattle.std.proofs.Common.{◌≡◌, map, take}
use Rattle.snapshot.specs.Views.{rowsets_of}
use Rattle.replay.specs.Sets.{rowset_entry}
use Rattle.replay.proofs.sets.Sets.live_rowsets.Given as goal

abbrev pub invariant-loop-at : goal.invariant-loop-at
invariant-loop-at l = record {
  told : rowsets_of l.out ≡ map rowset_entry (take l.at l.x-items);
  count : l.out.count ≡ l.at;
}
