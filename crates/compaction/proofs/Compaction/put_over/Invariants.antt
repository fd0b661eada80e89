-- `compaction::Compaction::put_over` meets its contract.
use Prim.Native.Nat.{◌*◌}
use lib.ListN.{length}
use Rattle.ids.specs.Limits.{most_operations, longest_line}
use Rattle.compaction.proofs.Lines.{Writing}
use Rattle.compaction.proofs.Filtered.{lines_over}
use Rattle.compaction.proofs.Compaction.put_over.Given as goal

abbrev pub invariant-loop-v : goal.invariant-loop-v
invariant-loop-v l =
    (goal.iterator-loop-v).can_next l.v-iterator × (goal.iterator-loop-v).is_finite l.v-iterator
    × Writing (lines_over l.fn.self.state.inner.now l.fn.self.table.0 l.fn.self.taken.now) (most_operations * longest_line) l.initial.lines (length l.yielded) l.lines
