-- `storage::bootstrap` meets its contract.
use Rattle.std.proofs.Common.{refl}
use Rattle.storage.proofs.Replayed.{replay-refused, replay-given}
use Rattle.storage.proofs.bootstrap.Goals as goal

pub opened-requires : goal.opened-requires
opened-requires c = (replay-given _ _ c.in-Ok.ensures).1

pub returns-in-Ok : goal.returns-in-Ok
returns-in-Ok c = rw (replay-given _ _ c.in-Ok.ensures).0 c.opened.ensures

pub returns-in-Err : goal.returns-in-Err
returns-in-Err c = rw (replay-refused _ _ c.in-Err.ensures) (c.refused.ensures.0, c.refused.ensures.1, c.refused.ensures.2, refl)
