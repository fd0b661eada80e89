-- Commit: what the call says of its answer, the lent buffer and the manager handed back. Assumes nothing.
use Rattle.std.specs.Prelude.{◌≡◌, List, [], ◌∷◌, ℕ, length, Result, Ok, Err}
use Rattle.std.specs.Result.{result_and}
use Rattle.lists.specs.Written.{over}
use Rattle.ids.specs.declared.refusal.Refusal.{Refusal}
use Rattle.ids.specs.declared.refusal.Refusal.TheVariants.{BadManager}
use Rattle.ids.specs.Verdicts.{◌⇒◌, judged}
use Rattle.ids.specs.Answers.{Told, told}
use Rattle.manifest.specs.Operations.{Operation}
use Rattle.version_state.specs.State.{State}
use Rattle.commit.specs.Commit.{append_of, commit_of}
use Rattle.version_manager.specs.declared.VersionManager.{VersionManager}
use Rattle.version_manager.specs.Answered.{Committed, CommitAnswer}
use Rattle.version_manager.specs.Managers.{held_by, bad_manager, Follows}

-- 29, and then the commit of n operations os
abbrev pub outcome_of : VersionManager → ℕ → List Operation → ℕ → Result State Refusal
outcome_of m n os room = result_and (judged ((bad_manager m ⇒ BadManager) ∷ [])) (commit_of (held_by m) n os room)

-- accepted: the new epoch and the append's length
abbrev pub commit_told : CommitAnswer → Told
commit_told (Ok a) = told (Ok tt) (a.epoch ∷ a.length ∷ [])
commit_told (Err k) = told (Err k) []

abbrev pub CommitEnds : Result State Refusal → VersionManager → List Operation → List ℕ → Committed → List ℕ → Type 0
CommitEnds (Ok s) m os out r out' =
    (commit_told r.answer ≡ told (Ok tt) (s.epoch ∷ length (append_of os) ∷ []))
    × Follows r.manager s (held_by m) (length (append_of os))
    × (out' ≡ over (append_of os) out)
CommitEnds (Err k) m os out r out' = (commit_told r.answer ≡ told (Err k) []) × (r.manager ≡ m) × (out' ≡ out)

-- what a commit by m of n operations os into the lent buffer says
abbrev pub CommitSays : VersionManager → ℕ → List Operation → List ℕ → Committed → List ℕ → Type 0
CommitSays m n os out r out' = CommitEnds (outcome_of m n os (length out)) m os out r out'
