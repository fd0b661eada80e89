-- `rewrite::put_tables` meets its contract.
use Rattle.ids.specs.Limits.{most_tables}
use Rattle.version_state.specs.State.{state_of}
use Rattle.rewrite.specs.Rewritten.{create_of, longest_create, longest_rewritten}
use Rattle.rewrite.proofs.Lines.{Writing}
use Rattle.rewrite.proofs.put_tables.Given as goal

abbrev pub invariant-loop-i : goal.invariant-loop-i
invariant-loop-i l = Writing create_of (state_of l.inner).tables longest_create most_tables longest_rewritten l.initial.lines l.i l.lines
