-- Draw: answers the next rowset or vector id and raises it by one. Assumes nothing.
use Rattle.std.specs.Prelude.{◌≡◌, List, [], ◌∷◌, ℕ, ◌+◌, leb, Ok, Err}
use Rattle.ids.specs.Ids.{largest32, largest64}
use Rattle.ids.specs.declared.refusal.Refusal.TheVariants.{BadManager, IdsUsedUp}
use Rattle.ids.specs.Verdicts.{Rule, ◌⇒◌, judged, Verdict}
use Rattle.ids.specs.Answers.{Told, told}
use Rattle.version_state.specs.State.{State, with_next}
use Rattle.version_manager.specs.declared.VersionManager.{VersionManager}
use Rattle.version_manager.specs.Answered.{DrawnRowset, DrawnVector, RowsetAnswer, VectorAnswer}
use Rattle.version_manager.specs.Managers.{held_by, bad_manager, HandsBack}

-- 29, then 26: no id below the largest value is left
abbrev pub draw_rules : VersionManager → ℕ → ℕ → List Rule
draw_rules m next largest = (bad_manager m ⇒ BadManager) ∷ (leb largest next ⇒ IdsUsedUp) ∷ []

abbrev pub rowset_verdict : VersionManager → Verdict
rowset_verdict m = judged (draw_rules m (held_by m).next_rowset largest32)

abbrev pub vector_verdict : VersionManager → Verdict
vector_verdict m = judged (draw_rules m (held_by m).next_vector largest64)

abbrev pub rowset_told : RowsetAnswer → Told
rowset_told (Ok i) = told (Ok tt) (i.0 ∷ [])
rowset_told (Err k) = told (Err k) []

abbrev pub vector_told : VectorAnswer → Told
vector_told (Ok i) = told (Ok tt) (i.0 ∷ [])
vector_told (Err k) = told (Err k) []

abbrev pub rowset_drawn : State → State
rowset_drawn s = with_next s s.next_table (s.next_rowset + 1) s.next_vector

abbrev pub vector_drawn : State → State
vector_drawn s = with_next s s.next_table s.next_rowset (s.next_vector + 1)

pub record DrawRowsetSays (m : VersionManager) (r : DrawnRowset) : Type 0 where
  pub answer : rowset_told r.answer ≡ told (rowset_verdict m) ((held_by m).next_rowset ∷ [])
  pub manager : HandsBack (rowset_verdict m) m (rowset_drawn (held_by m)) r.manager

pub record DrawVectorSays (m : VersionManager) (r : DrawnVector) : Type 0 where
  pub answer : vector_told r.answer ≡ told (vector_verdict m) ((held_by m).next_vector ∷ [])
  pub manager : HandsBack (vector_verdict m) m (vector_drawn (held_by m)) r.manager
