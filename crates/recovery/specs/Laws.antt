-- What recovery keeps: a manifest and what is appended to it, whole or cut, and the rewritten one. Assumes nothing.
use Rattle.std.specs.Prelude.{◌≡◌, true, false, List, [], ◌++◌, ℕ, ◌≤◌, ◌<◌, length, take, Result, Ok, Err}
use Rattle.lists.specs.Keyed.{all_of}
use Rattle.manifest.specs.Operations.{Operation, well_formed}
use Rattle.manifest.specs.Split.{lines}
use Rattle.ids.specs.Limits.{most_operations, longest_manifest}
use Rattle.ids.specs.declared.refusal.Refusal.{Refusal}
use Rattle.ids.specs.Refusals.{number_of}
use Rattle.version_state.specs.declared.VersionManagerInner.{VersionManagerInner}
use Rattle.version_state.specs.State.{State, start, with_epoch, state_of, Hands}
use Rattle.ids.specs.Ids.{Next}
use Rattle.version_state.specs.Sets.{Sets, sets_of, next_of}
use Rattle.version_state.specs.Widths.{Narrow, Widths}
use Rattle.version_state.specs.Sound.{bad_inner}
use Rattle.commit.specs.Commit.{append_of, commit_of}
use Rattle.transaction_manager.specs.Locks.{is_locked}
use Rattle.rewrite.specs.Rewritten.{written_of, rewritten_of, longest_rewritten}
use Rattle.replay.specs.Replay.{reopened, lines_replayed, replay_of}
use Rattle.recovery.specs.Rewritable.{Rewritable, made_of, names_differ}
use Rattle.recovery.specs.Holds.{Holds, followed, Appended}

-- Of a manifest that holds a state.
pub record AppendLaws : Type 0 where
  pub empty : Holds [] (with_epoch start reopened 0)
  pub replayed : (src : List ℕ) (s : State) → Holds src s → length src ≤ longest_manifest → replay_of src ≡ Ok s
  -- followed by a whole append of operations, at most k, that commit accepts on its sets: the state followed by these operations
  pub whole : (src : List ℕ) (s : State) (m : VersionManagerInner) (k : ℕ) (os : List Operation) (room : ℕ) (u : State)
      → Holds src s → sets_of (state_of m) ≡ sets_of s → bad_inner m ≡ false → length os ≤ k → commit_of (state_of m) k os room ≡ Ok u
      → Holds (src ++ append_of os) (followed os s) × (sets_of (followed os s) ≡ sets_of u)
  -- followed by a proper first part of an append, cut at any byte: the state, and the next append finds it so
  pub cut : (src : List ℕ) (s : State) (os : List Operation) (k : ℕ)
      → Holds src s → all_of well_formed os ≡ true → length os ≤ most_operations → k < length (append_of os)
      → Holds (src ++ take k (append_of os)) s
  -- what the port wrote is never refused, and holds no vector whose rowset is gone
  pub made : (src : List ℕ) (m : VersionManagerInner) → Appended src m → length src ≤ longest_manifest
      → (s : State) × (Holds src s × (sets_of (state_of m) ≡ sets_of s) × (replay_of src ≡ Ok s))

-- alike: by R where both are given, and else two refusals of one number, whatever lines they name
abbrev pub Alike : {A : Type 0} → (A → A → Type 0) → Result A Refusal → Result A Refusal → Type 0
Alike R (Ok a) (Ok b) = R a b
Alike R (Ok a) (Err k) = ⊥
Alike R (Err k) (Ok b) = ⊥
Alike R (Err j) (Err k) = number_of j ≡ number_of k

-- Of any manifest whatsoever, its length aside.
pub record ShortLaws : Type 0 where
  -- a proper first part of an append, and after it another append, whole or cut: as if the first were not there
  pub passed : (src : List ℕ) (os : List Operation) (k : ℕ) (bs : List Operation) (j : ℕ)
      → all_of well_formed os ≡ true → length os ≤ most_operations → k < length (append_of os)
      → Alike ◌≡◌ (lines_replayed (lines (src ++ (take k (append_of os) ++ take j (append_of bs))))) (lines_replayed (lines (src ++ take j (append_of bs))))

-- Of next ids and sets that are written anew.
pub record RewriteLaws : Type 0 where
  -- the manifest has its room, and is read to the same
  pub room : (n : Next) (z : Sets) → Rewritable n z → length (written_of n z) ≤ longest_rewritten
  pub holds : (n : Next) (z : Sets) → Rewritable n z → Holds (written_of n z) (made_of n z)
  pub replayed : (n : Next) (z : Sets) → Rewritable n z → replay_of (written_of n z) ≡ Ok (made_of n z)
  -- a state's next ids and sets are the same when they are read
  pub same : (s : State) → (next_of (made_of (next_of s) (sets_of s)) ≡ next_of s) × (sets_of (made_of (next_of s) (sets_of s)) ≡ sets_of s)
  -- those of an open manager that passes 29, where its live names differ: 29 does not ask that
  pub manager : (m : VersionManagerInner) → bad_inner m ≡ false → Widths (state_of m) → names_differ (state_of m).tables ≡ true → Rewritable (next_of (state_of m)) (sets_of (state_of m))

-- What a checkpoint by the manager m hands out, where the manifest that it replaces held s.
pub record Replaces (s : State) (m : VersionManagerInner) : Type 0 where
  pub state : State
  pub holds : Holds (rewritten_of (state_of m)) state
  pub replayed : replay_of (rewritten_of (state_of m)) ≡ Ok state
  pub room : length (rewritten_of (state_of m)) ≤ longest_rewritten
  -- the same sets from either; the next ids are the manager's, while those of the old manifest are as its last append left them
  pub sets : sets_of state ≡ sets_of s
  pub next : next_of state ≡ next_of (state_of m)

-- Of an open manager that passes 29 and shows what its manifest holds.
pub record ReplaceLaws : Type 0 where
  pub replaces : (src : List ℕ) (s : State) (m : VersionManagerInner) → Holds src s → sets_of (state_of m) ≡ sets_of s → bad_inner m ≡ false → Narrow (state_of m) → Replaces s m

-- Of any manifest that replay accepts.
pub record ReopenLaws : Type 0 where
  -- what is handed out passes 29
  pub sound : (src : List ℕ) (s : State) (m : VersionManagerInner) (n : ℕ) → replay_of src ≡ Ok s → n ≤ longest_manifest → Hands m (with_epoch s s.epoch n) → bad_inner m ≡ false
  -- its next ids and sets can be written anew: the rewritten manifest has its room, and holds the same state
  pub rewritable : (src : List ℕ) (s : State) → replay_of src ≡ Ok s → Rewritable (next_of s) (sets_of s)
  pub room : (src : List ℕ) (s : State) → replay_of src ≡ Ok s → length (rewritten_of s) ≤ longest_rewritten
  pub again : (src : List ℕ) (s : State) → replay_of src ≡ Ok s → Holds (rewritten_of s) s
  -- every lock is free
  pub locks : (src : List ℕ) (s : State) (t : ℕ) → replay_of src ≡ Ok s → is_locked t s ≡ false
