-- Selection: what the call says of its answer and the lent slice; 29, 2, 8, 11, 9. Assumes nothing.
use Rattle.std.specs.Prelude.{List, ◌∷◌, ℕ, length}
use Rattle.ids.specs.declared.TableNo.{TableNo}
use Rattle.ids.specs.declared.refusal.Refusal.TheVariants.{BadManager}
use Rattle.ids.specs.Verdicts.{◌⇒◌, judged, Verdict}
use Rattle.compactor.specs.Says.{select_rules, Selected, SelectAnswer}
use Rattle.version_manager.specs.declared.VersionManager.{VersionManager}
use Rattle.version_manager.specs.Managers.{held_by, bad_manager}

-- selection by m among the rowsets of table t, their sizes lent as ns
module _ (m : VersionManager) (t : TableNo) (target : ℕ) (ns : List ℕ) where
  -- the slice is lent with so many places
  abbrev pub select_verdict : ℕ → Verdict
  select_verdict room = judged ((bad_manager m ⇒ BadManager) ∷ select_rules (held_by m) t.0 target ns room)

  abbrev pub SelectSays : List ℕ → SelectAnswer → List ℕ → Type 0
  SelectSays out r out' = Selected (held_by m) t.0 target ns (select_verdict (length out)) out r out'
