-- A compaction's commit: what the call says of its answer, the lent buffer and the manager handed back. Assumes nothing.
use Rattle.std.specs.Prelude.{List, [], ◌∷◌, ℕ, ◌+◌, length}
use Rattle.ids.specs.declared.refusal.Refusal.TheVariants.{BadManager}
use Rattle.ids.specs.Verdicts.{◌⇒◌, judged, Verdict}
use Rattle.commit.specs.Commit.{append_of}
use Rattle.table.specs.Compact.{compacted_by, compact_rules}
use Rattle.version_manager.specs.declared.VersionManager.{VersionManager}
use Rattle.version_manager.specs.Answered.{Committed}
use Rattle.version_manager.specs.Managers.{held_by, bad_manager}
use Rattle.version_manager.specs.Commit.{commit_told}
use Rattle.version_manager.specs.Made.{MadeSays}

-- in the table t, the taken rowsets and the new one, of which there is one or none
module _ (m : VersionManager) (t : ℕ) (new taken : List ℕ) where
  -- 29, and then the compaction's own rules
  abbrev pub compact_verdict : ℕ → Verdict
  compact_verdict room = judged ((bad_manager m ⇒ BadManager) ∷ compact_rules (held_by m) t new taken room)

  -- what a compaction by m says, lent a buffer for the append; accepted, it answers as a commit does
  abbrev pub CompactSays : List ℕ → Committed → List ℕ → Type 0
  CompactSays out r out' =
      MadeSays (compact_verdict (length out)) (compacted_by (held_by m) t new taken) (((held_by m).epoch + 1) ∷ length (append_of (compacted_by (held_by m) t new taken)) ∷ [])
      m out (commit_told r.answer) r.manager out'
