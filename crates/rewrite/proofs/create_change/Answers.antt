-- `rewrite::create_change` meets its contract.
use mathlib.Core.Path.{refl}
use native.Mathlib.Omega.{arith}
use Rattle.ids.proofs.Names.{name-room}
use Rattle.rewrite.proofs.Room.{create-line}
use Rattle.rewrite.proofs.create_change.Goals as goal

pub returns : goal.returns
returns c = (refl, create-line _ _ (omega arith) (omega arith) _ (name-room _))
