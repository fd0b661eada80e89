-- `risinglight::agrees` meets its contract: the second theorem. Assumes nothing.
use Rattle.risinglight.proofs.Theorem.{theorem}
use Rattle.risinglight.proofs.agrees.Goals as goal

pub returns : goal.returns
returns c = theorem
