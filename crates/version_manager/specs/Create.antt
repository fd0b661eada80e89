-- Create of a table: what the call says of its answer, the lent buffer and the manager handed back. A refused one writes nothing. Assumes nothing.
use Rattle.std.specs.Prelude.{List, [], ◌∷◌, ℕ, ◌+◌, length, Ok, Err}
use Rattle.ids.specs.declared.refusal.Refusal.TheVariants.{BadManager}
use Rattle.ids.specs.Verdicts.{◌⇒◌, judged, Verdict}
use Rattle.ids.specs.Answers.{Told, told}
use Rattle.commit.specs.Commit.{append_of}
use Rattle.table.specs.Create.{created_by, create_rules}
use Rattle.version_manager.specs.declared.VersionManager.{VersionManager}
use Rattle.version_manager.specs.Answered.{Created, CreateAnswer}
use Rattle.version_manager.specs.Managers.{held_by, bad_manager}
use Rattle.version_manager.specs.Made.{MadeSays}

-- 29, and then create's own rules
abbrev pub create_verdict : VersionManager → ℕ → List ℕ → ℕ → Verdict
create_verdict m shape name room = judged ((bad_manager m ⇒ BadManager) ∷ create_rules (held_by m) shape name room)

-- accepted: the new table's id, the new epoch and the append's length
abbrev pub create_told : CreateAnswer → Told
create_told (Ok a) = told (Ok tt) (a.table.0 ∷ a.epoch ∷ a.length ∷ [])
create_told (Err k) = told (Err k) []

-- what a create by m of a table with this shape and name says, lent a buffer for the append
abbrev pub CreateSays : VersionManager → ℕ → List ℕ → List ℕ → Created → List ℕ → Type 0
CreateSays m shape name out r out' =
    MadeSays (create_verdict m shape name (length out)) (created_by (held_by m) shape name)
    ((held_by m).next_table ∷ ((held_by m).epoch + 1) ∷ length (append_of (created_by (held_by m) shape name)) ∷ [])
    m out (create_told r.answer) r.manager out'
