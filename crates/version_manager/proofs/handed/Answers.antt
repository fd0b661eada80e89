-- `version_manager::handed` meets its contract.
use mathlib.Core.Path.{refl}
use Rattle.version_manager.proofs.handed.Goals as goal

pub returns : goal.returns
returns c = (refl, refl)
