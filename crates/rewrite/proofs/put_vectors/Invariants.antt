-- `rewrite::put_vectors` meets its contract.
use lib.ListN.{length}
use Rattle.lists.specs.Keyed.{keep}
use Rattle.ids.specs.Limits.{most_held}
use Rattle.snapshot.specs.Entries.{by_ids, shown_by}
use Rattle.version_state.specs.State.{state_of}
use Rattle.rewrite.specs.Rewritten.{add_vector_of, longest_add_vector, longest_rewritten}
use Rattle.rewrite.proofs.Lines.{Writing}
use Rattle.rewrite.proofs.put_vectors.Given as goal

abbrev pub invariant-loop-v : goal.invariant-loop-v
invariant-loop-v l = Writing (λ x. add_vector_of (by_ids x)) (keep (shown_by l.inner.epoch) (state_of l.inner).vectors) longest_add_vector most_held longest_rewritten l.initial.lines (length l.yielded) l.lines
