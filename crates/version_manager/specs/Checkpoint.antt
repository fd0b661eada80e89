-- Checkpoint: hands out the rewritten manifest of what is shown now, without a reopen. Assumes nothing.
use Rattle.std.specs.Prelude.{◌≡◌, false, List, [], ◌∷◌, ℕ, ◌≤◌, length, Ok, Err}
use Rattle.lists.specs.Written.{over}
use Rattle.ids.specs.declared.refusal.Refusal.TheVariants.{BadManager}
use Rattle.ids.specs.Verdicts.{◌⇒◌, judged, Verdict}
use Rattle.ids.specs.Answers.{Told, told, after}
use Rattle.rewrite.specs.Rewritten.{rewritten_of, longest_rewritten}
use Rattle.rewrite.specs.Says.{rewrite_rules, with_rewritten}
use Rattle.version_manager.specs.declared.VersionManager.{VersionManager}
use Rattle.version_manager.specs.Answered.{Checkpointed, CheckpointAnswer}
use Rattle.version_manager.specs.Managers.{held_by, bad_manager, HandsBack}

-- accepted: the rewritten manifest's length
abbrev pub checkpoint_told : CheckpointAnswer → Told
checkpoint_told (Ok n) = told (Ok tt) (n ∷ [])
checkpoint_told (Err k) = told (Err k) []

-- 29, 9
abbrev pub checkpoint_verdict : VersionManager → ℕ → Verdict
checkpoint_verdict m room = judged ((bad_manager m ⇒ BadManager) ∷ rewrite_rules room (held_by m))

-- checkpoint of m into the lent buffer returns r and leaves out' in it
pub record CheckpointSays (m : VersionManager) (out : List ℕ) (r : Checkpointed) (out' : List ℕ) : Type 0 where
  pub answer : checkpoint_told r.answer ≡ told (checkpoint_verdict m (length out)) (length (rewritten_of (held_by m)) ∷ [])
  pub bytes : out' ≡ after (checkpoint_verdict m (length out)) (over (rewritten_of (held_by m)) out) out
  pub manager : HandsBack (checkpoint_verdict m (length out)) m (with_rewritten (held_by m)) r.manager
  -- 18,625 bytes always hold it
  pub room : bad_manager m ≡ false → length (rewritten_of (held_by m)) ≤ longest_rewritten
