use Rattle.std.proofs.Common.{◌≡◌, map, take}
use Rattle.snapshot.specs.Views.{tables_of}
use Rattle.replay.specs.Sets.{table_entry}
use Rattle.replay.proofs.sets.Sets.live_tables.Given as goal

abbrev pub invariant-loop-x : goal.invariant-loop-x
invariant-loop-x l = record {
  told : tables_of l.out ≡ map table_entry (take l.x-index l.x-items);
  count : l.out.count ≡ l.x-index;
}
