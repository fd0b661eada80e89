-- A commit that a call makes itself from what is shown now, under the call's own verdict. Assumes nothing.
use Rattle.std.specs.Prelude.{◌≡◌, List, ℕ, length, Ok, Err}
use Rattle.lists.specs.Written.{over}
use Rattle.ids.specs.Verdicts.{Verdict}
use Rattle.ids.specs.Answers.{Told, told, after}
use Rattle.manifest.specs.Operations.{Operation}
use Rattle.commit.specs.Commit.{append_of}
use Rattle.commit.specs.Lent.{operations_in}
use Rattle.table.specs.Made.{committed}
use Rattle.version_manager.specs.declared.VersionManager.{VersionManager}
use Rattle.version_manager.specs.Answered.{Committed}
use Rattle.version_manager.specs.Managers.{held_by, HandsOn}
use Rattle.version_manager.specs.Commit.{CommitSays}

-- under the verdict v a commit of os by m into the lent buffer tells t, with these values where it is accepted, hands back n and leaves out'
pub record MadeSays (v : Verdict) (os : List Operation) (values : List ℕ) (m : VersionManager) (out : List ℕ) (t : Told) (n : VersionManager) (out' : List ℕ) : Type 0 where
  pub answer : t ≡ told v values
  pub manager : HandsOn v m (committed os (held_by m)) (length (append_of os)) n
  pub bytes : out' ≡ after v (over (append_of os) out) out

-- Internal: the lines that a call has made are committed by m; or the call was refused, and nothing is written
abbrev pub AppendsMade : Verdict → VersionManager → List ℕ → List ℕ → Committed → List ℕ → Type 0
AppendsMade (Ok _) m lines out r out' = CommitSays m (length (operations_in lines)) (operations_in lines) out r out'
AppendsMade (Err k) m lines out r out' = (r.answer ≡ Err k) × (r.manager ≡ m) × (out' ≡ out)
