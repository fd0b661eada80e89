use Rattle.std.proofs.Common.{◌≡◌, ◌≤◌, map, take}
use Rattle.lists.specs.Keyed.{keep}
use Rattle.snapshot.specs.Views.{vectors_of}
use Rattle.version_state.specs.Sound.{has_rowset}
use Rattle.replay.specs.Sets.{rowset_entry, vector_entry}
use Rattle.replay.proofs.sets.Sets.live_vectors.Given as goal

abbrev pub invariant-loop-x : goal.invariant-loop-x
invariant-loop-x l = record {
  told : vectors_of l.out ≡ keep (has_rowset (map rowset_entry l.self.rowsets)) (map vector_entry (take l.x-index l.x-items));
  count : l.out.count ≤ l.x-index;
}
