-- Lock and unlock: what the calls say of their answers and the manager handed back; 29, 2, 11, then 25 or 27. Assumes nothing.
use Rattle.std.specs.Prelude.{◌≡◌, Bool, true, false, [], ◌∷◌, ℕ}
use Rattle.ids.specs.declared.TableNo.{TableNo}
use Rattle.ids.specs.declared.refusal.Refusal.TheVariants.{BadManager}
use Rattle.ids.specs.Verdicts.{◌⇒◌, judged, Verdict}
use Rattle.ids.specs.Answers.{told}
use Rattle.transaction_manager.specs.Locks.{relocked, lock_rules}
use Rattle.version_manager.specs.declared.VersionManager.{VersionManager}
use Rattle.version_manager.specs.Answered.{Locked}
use Rattle.version_manager.specs.Managers.{held_by, bad_manager, HandsBack}

-- the lock of table t is to be held or to be free
abbrev pub lock_verdict : VersionManager → ℕ → Bool → Verdict
lock_verdict m t b = judged ((bad_manager m ⇒ BadManager) ∷ lock_rules t b (held_by m))

-- the lock of table t of m becomes held or free, which returns r
pub record RelockSays (m : VersionManager) (t : TableNo) (b : Bool) (r : Locked) : Type 0 where
  pub answer : told r.answer [] ≡ told (lock_verdict m t.0 b) []
  pub manager : HandsBack (lock_verdict m t.0 b) m (relocked t.0 b (held_by m)) r.manager

abbrev pub LockSays : VersionManager → TableNo → Locked → Type 0
LockSays m t r = RelockSays m t true r

abbrev pub UnlockSays : VersionManager → TableNo → Locked → Type 0
UnlockSays m t r = RelockSays m t false r
