-- Group: row handles become one delete vector a rowset, and the vectors' ids are drawn. Assumes nothing.
use Rattle.std.specs.Prelude.{◌≡◌, List, [], ◌∷◌, ℕ, ◌+◌, length, Ok, Err}
use Rattle.lists.specs.Written.{over}
use Rattle.ids.specs.declared.refusal.Refusal.TheVariants.{BadManager}
use Rattle.ids.specs.Verdicts.{◌⇒◌, judged, Verdict}
use Rattle.ids.specs.Answers.{Told, told, after}
use Rattle.transaction.specs.declared.Handles.{Handles}
use Rattle.transaction.specs.Groups.{Vector, handles_of, vectors_of, rowsets_in, lengths_in, counts_in, files_in, memories_in}
use Rattle.transaction.specs.Says.{group_rules}
use Rattle.version_state.specs.State.{State, with_next}
use Rattle.version_manager.specs.declared.VersionManager.{VersionManager}
use Rattle.version_manager.specs.Answered.{Grouped, GroupAnswer}
use Rattle.version_manager.specs.Managers.{held_by, bad_manager, HandsBack}

-- accepted: how many vectors there are, and the first one's id; the others' ids follow it
abbrev pub group_told : GroupAnswer → Told
group_told (Ok a) = told (Ok tt) (a.count ∷ a.first.0 ∷ [])
group_told (Err k) = told (Err k) []

-- n vector ids are drawn
abbrev pub vectors_drawn : ℕ → State → State
vectors_drawn n s = with_next s s.next_table s.next_rowset (s.next_vector + n)

-- the vectors of a call's handles
abbrev pub grouped_by : Handles → List Vector
grouped_by h = vectors_of (handles_of h)

-- 29, 2, 8, 26, 9
abbrev pub group_verdict : VersionManager → Handles → List ℕ → List ℕ → List ℕ → List ℕ → List ℕ → Verdict
group_verdict m h rs ls cs fs ms =
    judged ((bad_manager m ⇒ BadManager) ∷ group_rules (handles_of h) h.count (held_by m).next_vector (length rs) (length ls) (length cs) (length fs) (length ms))

-- group by m of the handles h, lent the slices rs, ls, cs, fs and ms, returns g and leaves rs', ls', cs', fs' and ms' in them
pub record GroupSays (m : VersionManager) (h : Handles) (rs ls cs fs ms : List ℕ) (g : Grouped) (rs' ls' cs' fs' ms' : List ℕ) : Type 0 where
  pub answer : group_told g.answer ≡ told (group_verdict m h rs ls cs fs ms) (length (grouped_by h) ∷ (held_by m).next_vector ∷ [])
  pub rowsets : rs' ≡ after (group_verdict m h rs ls cs fs ms) (over (rowsets_in (grouped_by h)) rs) rs
  pub lengths : ls' ≡ after (group_verdict m h rs ls cs fs ms) (over (lengths_in (grouped_by h)) ls) ls
  pub counts : cs' ≡ after (group_verdict m h rs ls cs fs ms) (over (counts_in (grouped_by h)) cs) cs
  pub files : fs' ≡ after (group_verdict m h rs ls cs fs ms) (over (files_in (grouped_by h)) fs) fs
  pub memories : ms' ≡ after (group_verdict m h rs ls cs fs ms) (over (memories_in (grouped_by h)) ms) ms
  pub manager : HandsBack (group_verdict m h rs ls cs fs ms) m (vectors_drawn (length (grouped_by h)) (held_by m)) g.manager
