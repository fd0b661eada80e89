-- `commit::lines::steps` meets its contract.
use lib.ListN.{length, drop}
use Rattle.version_state.specs.State.{state_of}
use Rattle.operations.specs.Working.{Same}
use Rattle.commit.specs.Lent.{operations_in}
use Rattle.commit.proofs.Calls.{Going}
use Rattle.commit.proofs.lines.steps.Given as goal

abbrev pub invariant-loop-i : goal.invariant-loop-i
invariant-loop-i l =
    Going (state_of l.initial.working.inner.now) l.initial.working.epoch (operations_in l.ops) (length l.yielded) (drop (length l.yielded) (operations_in l.ops)) (state_of l.working.inner.now)
    × Same l.initial.working l.working
