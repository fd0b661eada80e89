-- `recovery::holds` meets its contract: the laws of a manifest, of what is appended to it, and of a reopened store. Assumes nothing.
use mathlib.Core.Path.{refl}
use Rattle.recovery.proofs.Appending.{empty_holds, holds-replayed, replaces, cut_holds, whole-appended, made-replayed, rewritten-replayed}
use Rattle.recovery.proofs.Short.{passed}
use Rattle.recovery.proofs.Sound.{replay-sound}
use Rattle.recovery.proofs.Again.{made-same, rewritten-holds, rewritten-room, manager-rewritable, replay-rewritable, replay-room, replay-again}
use Rattle.recovery.proofs.Locks.{replay-locks}
use Rattle.recovery.proofs.holds.Goals as goal

pub returns : goal.returns
returns c = (
  record { empty = empty_holds; replayed = holds-replayed; whole = whole-appended; cut = λ src s os k h. cut_holds src s h os k; made = made-replayed },
  record { passed = passed },
  record { room = rewritten-room; holds = rewritten-holds; replayed = rewritten-replayed; same = λ s. (refl, made-same s); manager = manager-rewritable },
  record { replaces = replaces },
  record { sound = replay-sound; rewritable = replay-rewritable; room = replay-room; again = replay-again; locks = replay-locks },
)
