-- `transaction_manager::holds` meets its contract: the laws of locks. Assumes nothing.
use mathlib.Core.Path.{refl}
use Rattle.transaction_manager.proofs.Laws.{relocked-sound, tables-kept, lock-is, lock-back, lock-dropped}
use Rattle.transaction_manager.proofs.holds.Goals as goal

pub returns : goal.returns
returns c =
    record {
      sound = λ m n t b h k. relocked-sound t b m n h k;
      pairs = λ t b e s. refl;
      vectors = λ t b e s. refl;
      tables = tables-kept;
      lock = lock-is;
      back = lock-back;
      dropped = lock-dropped;
    }
