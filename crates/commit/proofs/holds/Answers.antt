-- `commit::holds` meets its contract: the laws of an accepted commit. Assumes nothing.
use mathlib.Core.Path.{sym, ap, ◌∙◌}
use Prim.Native.Nat.{◌+◌}
use lib.ListN.{length}
use Rattle.version_state.specs.State.{State, state_of}
use Rattle.commit.specs.Commit.{append_of}
use Rattle.commit.proofs.Stepwise.{steps-manifest}
use Rattle.commit.proofs.Sounds.{accepts, commit-sound}
use Rattle.commit.proofs.Older.{older-pairs, older-vectors}
use Rattle.commit.proofs.holds.Goals as goal

pub returns : goal.returns
returns c =
    record {
      sound = commit-sound;
      epoch = λ m k os room s h. sym (ap (λ (t : State). t.epoch) (accepts (state_of m) k os room s h).state);
      manifest = λ m k os room s h.
          let a = accepts (state_of m) k os room s h in
          sym (ap (λ (t : State). t.manifest) a.state) ∙ ap (λ n. n + length (append_of os)) (steps-manifest (m.epoch + 1) os (state_of m) a.done a.steps);
      pairs = older-pairs;
      vectors = older-vectors;
    }
