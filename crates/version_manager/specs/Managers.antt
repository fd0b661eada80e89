-- Managers: what one stands for, what 29 judges of it, and what a call hands back. What a manager holds beside its state is said here. Assumes nothing.
use Rattle.std.specs.Prelude.{◌≡◌, Bool, true, false, not, ◌&&◌, ◌||◌, [], ℕ, eqb, Result, Ok, Err}
use Rattle.ids.specs.declared.refusal.Refusal.{Refusal}
use Rattle.ids.specs.declared.refusal.Refusal.TheVariants.{BadManager}
use Rattle.ids.specs.Verdicts.{Verdict}
use Rattle.version_state.specs.declared.VersionManagerInner.{VersionManagerInner}
use Rattle.version_state.specs.declared.sound.SoundState.{SoundState}
use Rattle.version_state.specs.State.{State, start, state_of, lengthened, Hands}
use Rattle.version_state.specs.Sound.{bad_inner}
use Rattle.pins.specs.Book.{Keeps}
use Rattle.version_manager.specs.declared.VersionManager.{VersionManager}
use Rattle.version_manager.specs.declared.Answered.{Answered}
use Rattle.version_manager.specs.declared.Opened.{Opened}

-- the state that a manager stands for
abbrev pub held_by : VersionManager → State
held_by m = state_of m.inner

-- the state before the last commit; it says nothing where nothing is kept
abbrev pub former_by : VersionManager → State
former_by m = state_of m.kept

-- it is kept: the last commit's append has bytes
abbrev pub has_former : VersionManager → Bool
has_former m = not (eqb m.append 0)

-- 29 of the kept state: its manifest's length is taken with the append's
abbrev pub bad_former : VersionManager → Bool
bad_former m = has_former m && bad_inner (lengthened m.append m.kept)

-- 29
abbrev pub bad_manager : VersionManager → Bool
bad_manager m = bad_inner m.inner || bad_former m

-- Internal: what judging 29 finds; where it lets pass, the state below, which it lends, passes too
abbrev pub Judged : VersionManager → Result SoundState Refusal → Type 0
Judged m (Ok s) = (bad_manager m ≡ false) × (bad_inner m.inner ≡ false) × (s.inner.now ≡ m.inner)
Judged m (Err k) = (bad_manager m ≡ true) × (k ≡ BadManager)

-- the manager stands for the state s, and keeps nothing
pub record Manages (m : VersionManager) (s : State) : Type 0 where
  pub hands : Hands m.inner s
  pub nothing : m.append ≡ 0

-- it stands for s after a commit that appended n bytes, and keeps f, the state before it
pub record Follows (m : VersionManager) (s f : State) (n : ℕ) : Type 0 where
  pub hands : Hands m.inner s
  pub former : Hands m.kept f
  pub append : m.append ≡ n

-- the manager handed back: on a refusal the very same m, and else one that stands for s
abbrev pub HandsBack : Verdict → VersionManager → State → VersionManager → Type 0
HandsBack (Ok _) m s n = Manages n s
HandsBack (Err k) m s n = n ≡ m

-- Internal: work on a copy of its state answered and left i; on a refusal the very same m goes with the answer, and else one of i that
-- keeps nothing
abbrev pub Settled : {T : Type 0} → VersionManager → VersionManagerInner → Result T Refusal → Answered T → Type 0
Settled m i (Ok x) r = (r.answer ≡ Ok x) × (r.manager.inner ≡ i) × (r.manager.append ≡ 0)
Settled m i (Err k) r = (r.answer ≡ Err k) × (r.manager ≡ m)

-- by a commit of k bytes: the state that it started from is kept
abbrev pub HandsOn : Verdict → VersionManager → State → ℕ → VersionManager → Type 0
HandsOn (Ok _) m s k n = Follows n s (held_by m) k
HandsOn (Err r) m s k n = n ≡ m

-- fresh: a manager at the start, and an empty book
pub record FreshSays (r : Opened) : Type 0 where
  pub manager : Manages r.manager start
  pub book : Keeps r.book []
