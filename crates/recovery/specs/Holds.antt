-- The manifest that goes with a state. Assumes nothing.
use Rattle.std.specs.Prelude.{◌≡◌, false, List, [], ◌++◌, ℕ, ◌≤◌, ◌<◌, length, take, Ok}
use Rattle.manifest.specs.Operations.{Operation}
use Rattle.manifest.specs.Split.{lines}
use Rattle.version_state.specs.declared.VersionManagerInner.{VersionManagerInner}
use Rattle.version_state.specs.State.{State, start, state_of, Hands}
use Rattle.version_state.specs.Sets.{sets_of}
use Rattle.version_state.specs.Widths.{Narrow}
use Rattle.version_state.specs.Sound.{bad_inner}
use Rattle.operations.specs.Effect.{applied_all}
use Rattle.commit.specs.Commit.{append_of, commit_of}
use Rattle.rewrite.specs.Rewritten.{rewritten_of}
use Rattle.replay.specs.Replay.{Frame, carried, reopened, at_start, settled, lines_read, tableless, without_orphans, replay_of}

-- src's complete lines are read to the state s, whatever stands after them, and s has no rowset without its table and no vector without its rowset
pub record Holds (src : List ℕ) (s : State) : Type 0 where
  pub frame : Frame
  pub line : ℕ
  pub read : lines_read (lines src) at_start ≡ Ok (carried s frame line)
  pub tables : tableless s ≡ false
  pub rowsets : without_orphans s ≡ s

-- a replayed state, followed by the operations of a frame
abbrev pub followed : List Operation → State → State
followed os s = settled (applied_all reopened os s)

-- A manifest that the port wrote: none yet, or one that a reopen or a checkpoint wrote anew, and after it the bytes that accepted commits
-- hand out for appending, or the first of them, where the manager goes back to what it was. Between commits a call may hand out any
-- manager that shows the same.
pub data Appended : List ℕ → VersionManagerInner → Type 0 where
  first : (m : VersionManagerInner) → Hands m start → Appended [] m
  rewritten : (src : List ℕ) (s : State) (m : VersionManagerInner) → replay_of src ≡ Ok s → sets_of (state_of m) ≡ sets_of s → Appended (rewritten_of s) m
  checkpointed : (src : List ℕ) (m n : VersionManagerInner) → Appended src m → bad_inner m ≡ false → Narrow (state_of m) → sets_of (state_of n) ≡ sets_of (state_of m) → Appended (rewritten_of (state_of m)) n
  committed : (src : List ℕ) (m n : VersionManagerInner) (k : ℕ) (os : List Operation) (room : ℕ) (u : State)
      → Appended src m → bad_inner m ≡ false → length os ≤ k → commit_of (state_of m) k os room ≡ Ok u → Hands n u → Appended (src ++ append_of os) n
  short : (src : List ℕ) (m n : VersionManagerInner) (k : ℕ) (os : List Operation) (room : ℕ) (u : State) (landed : ℕ)
      → Appended src m → bad_inner m ≡ false → length os ≤ k → commit_of (state_of m) k os room ≡ Ok u → landed < length (append_of os) → sets_of (state_of n) ≡ sets_of (state_of m) → Appended (src ++ take landed (append_of os)) n
  other : (src : List ℕ) (m n : VersionManagerInner) → Appended src m → sets_of (state_of n) ≡ sets_of (state_of m) → Appended src n
