-- What an accepted commit keeps. Assumes nothing.
use Rattle.std.specs.Prelude.{◌≡◌, false, List, ℕ, ◌+◌, ◌≤◌, length, Ok}
use Rattle.manifest.specs.Operations.{Operation}
use Rattle.version_state.specs.declared.VersionManagerInner.{VersionManagerInner}
use Rattle.version_state.specs.State.{State, state_of, Hands, pairs_at, vectors_at}
use Rattle.version_state.specs.Sound.{bad_inner}
use Rattle.commit.specs.Commit.{append_of, commit_of}

-- of a commit by m, which passes 29, that leaves s
pub record CommitLaws : Type 0 where
  -- what it hands out passes 29
  pub sound : (m n : VersionManagerInner) (k : ℕ) (os : List Operation) (room : ℕ) (s : State) → bad_inner m ≡ false → commit_of (state_of m) k os room ≡ Ok s → Hands n s → bad_inner n ≡ false
  -- the epoch rises by one, and the manifest by the append's length
  pub epoch : (m : VersionManagerInner) (k : ℕ) (os : List Operation) (room : ℕ) (s : State) → commit_of (state_of m) k os room ≡ Ok s → s.epoch ≡ m.epoch + 1
  pub manifest : (m : VersionManagerInner) (k : ℕ) (os : List Operation) (room : ℕ) (s : State) → commit_of (state_of m) k os room ≡ Ok s → s.manifest ≡ m.manifest + length (append_of os)
  -- an older epoch shows what it showed
  pub pairs : (m : VersionManagerInner) (k : ℕ) (os : List Operation) (room : ℕ) (s : State) → bad_inner m ≡ false → commit_of (state_of m) k os room ≡ Ok s → (d : ℕ) → d ≤ m.epoch → pairs_at d s ≡ pairs_at d (state_of m)
  pub vectors : (m : VersionManagerInner) (k : ℕ) (os : List Operation) (room : ℕ) (s : State) → bad_inner m ≡ false → commit_of (state_of m) k os room ≡ Ok s → (d : ℕ) → d ≤ m.epoch → vectors_at d s ≡ vectors_at d (state_of m)
