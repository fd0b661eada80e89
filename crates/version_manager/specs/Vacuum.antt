-- Vacuum: what the call says of its answer, the lent slices and the manager handed back. Assumes nothing.
use Rattle.std.specs.Prelude.{◌≡◌, List, [], ◌∷◌, ℕ, length, Ok, Err}
use Rattle.lists.specs.Written.{over}
use Rattle.ids.specs.declared.refusal.Refusal.TheVariants.{BadManager}
use Rattle.ids.specs.Verdicts.{◌⇒◌, judged, Verdict}
use Rattle.ids.specs.Answers.{Told, told, after}
use Rattle.snapshot.specs.Entries.{field}
use Rattle.pins.specs.declared.PinBook.{PinBook}
use Rattle.vacuum.specs.LetGo.{vacuumed}
use Rattle.vacuum.specs.Says.{bound_of, list_of, vacuum_rules}
use Rattle.version_manager.specs.declared.VersionManager.{VersionManager}
use Rattle.version_manager.specs.Answered.{Vacuumed, VacuumAnswer}
use Rattle.version_manager.specs.Managers.{held_by, bad_manager, HandsBack}

-- accepted: how many deletions are listed
abbrev pub vacuum_told : VacuumAnswer → Told
vacuum_told (Ok n) = told (Ok tt) (n ∷ [])
vacuum_told (Err k) = told (Err k) []

-- 29, 28, 9
abbrev pub vacuum_verdict : VersionManager → PinBook → ℕ → ℕ → Verdict
vacuum_verdict m b t r = judged ((bad_manager m ⇒ BadManager) ∷ vacuum_rules (held_by m) b t r)

-- vacuum of m and b, lent the slices ts and rs, returns v and leaves ts' and rs' in them
pub record VacuumSays (m : VersionManager) (b : PinBook) (ts rs : List ℕ) (v : Vacuumed) (ts' rs' : List ℕ) : Type 0 where
  pub answer : vacuum_told v.answer ≡ told (vacuum_verdict m b (length ts) (length rs)) (length (list_of (held_by m) b) ∷ [])
  pub tables : ts' ≡ after (vacuum_verdict m b (length ts) (length rs)) (over (field 0 (list_of (held_by m) b)) ts) ts
  pub rowsets : rs' ≡ after (vacuum_verdict m b (length ts) (length rs)) (over (field 1 (list_of (held_by m) b)) rs) rs
  pub manager : HandsBack (vacuum_verdict m b (length ts) (length rs)) m (vacuumed (bound_of (held_by m) b) (held_by m)) v.manager
