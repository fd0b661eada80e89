-- `storage::opened` meets its contract.
use mathlib.Core.Path.{refl}
use native.Mathlib.Omega.{arith}
use Rattle.storage.proofs.HandedOut.{opened-no, opened-yes}
use Rattle.storage.proofs.opened.Goals as goal

pub returns-in-Err : goal.returns-in-Err
returns-in-Err c = opened-no _ _ _ _ _ c.rewrite_into.ensures _ _ c.in-Err.is (rw c.from.ensures at c.refused.ensures.0) c.refused.ensures.1 c.refused.ensures.2

pub returns-in-Ok : goal.returns-in-Ok
returns-in-Ok c =
    opened-yes _ _ _ _ _ c.rewrite_into.ensures _ _ c.in-Ok.is c.handed.ensures (record { fits = omega (arith, c.none.ensures.0); pins = c.none.ensures.1 }) refl
