-- `rewrite::put_pairs` meets its contract.
use lib.ListN.{length}
use Rattle.lists.specs.Keyed.{keep}
use Rattle.ids.specs.Limits.{most_held}
use Rattle.snapshot.specs.Entries.{by_ids, shown_by}
use Rattle.version_state.specs.State.{state_of}
use Rattle.rewrite.specs.Rewritten.{add_of, longest_add, longest_rewritten}
use Rattle.rewrite.proofs.Lines.{Writing}
use Rattle.rewrite.proofs.put_pairs.Given as goal

abbrev pub invariant-loop-r : goal.invariant-loop-r
invariant-loop-r l = Writing (λ x. add_of (by_ids x)) (keep (shown_by l.inner.epoch) (state_of l.inner).pairs) longest_add most_held longest_rewritten l.initial.lines (length l.yielded) l.lines
