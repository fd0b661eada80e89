-- Drop of a table: what the call says of its answer, the lent buffer and the manager handed back. Assumes nothing.
use Rattle.std.specs.Prelude.{List, [], ◌∷◌, ℕ, ◌+◌, length}
use Rattle.ids.specs.declared.refusal.Refusal.TheVariants.{BadManager}
use Rattle.ids.specs.Verdicts.{◌⇒◌, judged, Verdict}
use Rattle.commit.specs.Commit.{append_of}
use Rattle.table.specs.Drop.{dropped_by, drop_rules}
use Rattle.version_manager.specs.declared.VersionManager.{VersionManager}
use Rattle.version_manager.specs.Answered.{Committed}
use Rattle.version_manager.specs.Managers.{held_by, bad_manager}
use Rattle.version_manager.specs.Commit.{commit_told}
use Rattle.version_manager.specs.Made.{MadeSays}

-- 29, and then drop's own rules
abbrev pub drop_verdict : VersionManager → ℕ → ℕ → Verdict
drop_verdict m t room = judged ((bad_manager m ⇒ BadManager) ∷ drop_rules (held_by m) t room)

-- what a drop by m of the table t says, lent a buffer for the append; accepted, it answers as a commit does
abbrev pub DropSays : VersionManager → ℕ → List ℕ → Committed → List ℕ → Type 0
DropSays m t out r out' =
    MadeSays (drop_verdict m t (length out)) (dropped_by (held_by m) t) (((held_by m).epoch + 1) ∷ length (append_of (dropped_by (held_by m) t)) ∷ [])
    m out (commit_told r.answer) r.manager out'
