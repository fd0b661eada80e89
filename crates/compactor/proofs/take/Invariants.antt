-- `compactor::take` meets its contract.
use Rattle.compactor.proofs.Taking.{Taking}
use Rattle.compactor.proofs.take.Given as goal

abbrev pub invariant-loop-i : goal.invariant-loop-i
invariant-loop-i l = Taking l.target l.initial.rowsets l.sizes l.i l.count l.left l.rowsets
