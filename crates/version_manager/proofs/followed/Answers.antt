-- `version_manager::followed` meets its contract.
use mathlib.Core.Path.{refl}
use Rattle.version_manager.proofs.followed.Goals as goal

pub returns : goal.returns
returns c = (refl, refl, refl)
