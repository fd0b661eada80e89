-- `operations::holds` meets its contract.
use Rattle.operations.proofs.Local.{judged-alike}
use Rattle.operations.proofs.holds.Goals as goal

pub returns : goal.returns
returns c = judged-alike
