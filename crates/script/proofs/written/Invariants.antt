-- Of `script::written`. Assumes nothing.
use Rattle.std.proofs.Common.{◌≤◌, length}
use Rattle.script.proofs.written.Given as goal

abbrev pub invariant-loop-rest : goal.invariant-loop-rest
invariant-loop-rest l = l.k ≤ length l.out

abbrev pub decreases-loop-rest : goal.decreases-loop-rest
decreases-loop-rest l = length l.rest
