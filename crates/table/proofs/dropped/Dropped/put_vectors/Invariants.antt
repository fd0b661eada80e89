-- `table::dropped::Dropped::put_vectors` meets its contract.
use Prim.Native.Nat.{◌*◌}
use lib.ListN.{length}
use Rattle.lists.specs.Keyed.{keep}
use Rattle.ids.specs.Limits.{most_held, most_operations, longest_line}
use Rattle.snapshot.specs.Entries.{by_ids, shown_by, of_table}
use Rattle.version_state.specs.State.{state_of}
use Rattle.rewrite.proofs.Lines.{Writing}
use Rattle.table.specs.Made.{delete_vector_of}
use Rattle.table.proofs.dropped.Dropped.put_vectors.Given as goal

abbrev pub invariant-loop-v : goal.invariant-loop-v
invariant-loop-v l =
    Writing (λ x. delete_vector_of (by_ids x)) (keep (of_table l.self.table.0) (keep (shown_by l.self.state.inner.now.epoch) (state_of l.self.state.inner.now).vectors)) longest_line most_held (most_operations * longest_line) l.initial.lines (length l.yielded) l.lines
