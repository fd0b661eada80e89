-- `delete_vector::holds` meets its contract.
use Rattle.delete_vector.proofs.Together.{laws-hold}
use Rattle.delete_vector.proofs.holds.Goals as goal

pub returns : goal.returns
returns c = laws-hold
