-- A replay leaves every lock free. Assumes nothing.
use mathlib.Core.Path.{◌≡◌, refl}
use mathlib.Core.Bool.{Bool, true, false, ◌&&◌}
use mathlib.Core.List.{List, [], ◌∷◌}
use Prim.Native.Nat.{ℕ}
use Rattle.std.specs.Prelude.{Ok}
use Rattle.lists.specs.Keyed.{is_at}
use Rattle.lists.proofs.Keyed.{all_map, none-any_of}
use Rattle.snapshot.specs.Tables.{by_table}
use Rattle.version_state.specs.State.{State}
use Rattle.transaction_manager.specs.Locks.{is_locked}
use Rattle.replay.specs.Replay.{replay_of}
use Rattle.recovery.proofs.SoundReading.{whole-replayed}

pub replay-locks : (src : List ℕ) (s : State) (t : ℕ) → replay_of src ≡ Ok s → is_locked t s ≡ false
replay-locks src s t h =
    none-any_of (λ x. is_at by_table (t ∷ []) x && x.locked) s.tables (all_map s.tables (λ x w. free (is_at by_table (t ∷ []) x) x.locked w.free) (whole-replayed src s h).rests.kept.tables)
  where
    free : (a b : Bool) → b ≡ false → a && b ≡ false
    free true b e = e
    free false b e = refl
