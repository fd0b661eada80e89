-- What taking or giving back a lock of a state that 29 let pass is: its verdict, and the state that it leaves. Assumes nothing.
use Rattle.std.specs.Prelude.{◌≡◌, Bool, ℕ}
use Rattle.ids.specs.Verdicts.{judged, Verdict}
use Rattle.ids.specs.Answers.{after}
use Rattle.version_state.specs.declared.VersionManagerInner.{VersionManagerInner}
use Rattle.version_state.specs.State.{State, Hands}
use Rattle.transaction_manager.specs.Locks.{relocked, lock_rules}

-- a refusal leaves the state as it was
pub record LockIs (s : State) (t : ℕ) (b : Bool) (r : Verdict) (m : VersionManagerInner) : Type 0 where
  pub verdict : r ≡ judged (lock_rules t b s)
  pub inner : Hands m (after r (relocked t b s) s)
