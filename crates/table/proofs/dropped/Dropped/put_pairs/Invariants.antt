-- `table::dropped::Dropped::put_pairs` meets its contract.
use Prim.Native.Nat.{◌*◌}
use lib.ListN.{length}
use Rattle.lists.specs.Keyed.{keep}
use Rattle.ids.specs.Limits.{most_held, most_operations, longest_line}
use Rattle.snapshot.specs.Entries.{by_ids, shown_by, of_table}
use Rattle.version_state.specs.State.{state_of}
use Rattle.rewrite.proofs.Lines.{Writing}
use Rattle.table.specs.Made.{delete_rowset_of}
use Rattle.table.proofs.dropped.Dropped.put_pairs.Given as goal

abbrev pub invariant-loop-r : goal.invariant-loop-r
invariant-loop-r l =
    Writing (λ x. delete_rowset_of (by_ids x)) (keep (of_table l.self.table.0) (keep (shown_by l.self.state.inner.now.epoch) (state_of l.self.state.inner.now).pairs)) longest_line most_held (most_operations * longest_line) l.initial.lines (length l.yielded) l.lines
