-- `vacuum::holds` meets its contract: the laws of an accepted vacuum. Assumes nothing.
use Rattle.version_state.specs.State.{state_of}
use Rattle.pins.specs.Guards.{guards_of}
use Rattle.pins.proofs.Bound.{bound-le, bound-shows}
use Rattle.vacuum.specs.Says.{bound_of}
use Rattle.vacuum.proofs.Laws.{vacuum-sound, pairs-after, vectors-after, list-sorted, list-once}
use Rattle.vacuum.proofs.holds.Goals as goal

pub returns : goal.returns
returns c =
    record {
      sound = λ m n b h d. vacuum-sound m n (bound_of (state_of m) b) (bound-le (guards_of (state_of m) b)) h d;
      pairs = λ m b e h. pairs-after (bound_of (state_of m) b) e (state_of m) (bound-shows (guards_of (state_of m) b) e h);
      vectors = λ m b e h. vectors-after (bound_of (state_of m) b) e (state_of m) (bound-shows (guards_of (state_of m) b) e h);
      ordered = list-sorted;
      once = list-once;
    }
