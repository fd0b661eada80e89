-- `compaction::Compaction::put_taken` meets its contract.
use mathlib.Core.List.{map}
use Prim.Native.Nat.{◌*◌}
use Rattle.ids.specs.Limits.{most_operations, longest_line}
use Rattle.manifest.specs.Operations.{delete_rowset}
use Rattle.compaction.proofs.Lines.{Writing}
use Rattle.compaction.proofs.Compaction.put_taken.Given as goal

abbrev pub invariant-loop-rowset : goal.invariant-loop-rowset
invariant-loop-rowset l = Writing (map (delete_rowset l.self.table.0) l.self.taken.now) (most_operations * longest_line) l.initial.lines l.rowset-index l.lines
