-- `rewrite::next_change` meets its contract.
use mathlib.Core.Path.{refl}
use native.Mathlib.Omega.{arith}
use Rattle.rewrite.proofs.Room.{next-line}
use Rattle.rewrite.proofs.next_change.Goals as goal

pub returns : goal.returns
returns c = (refl, next-line _ _ (omega arith) (omega arith) _ (omega arith))
