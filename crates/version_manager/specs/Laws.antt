-- What fresh, draw, group, a checkpoint, a commit and a report hand out passes 29, whoever made the manager that they were given. Assumes nothing.
use Rattle.std.specs.Prelude.{◌≡◌, true, false, List, ℕ, ◌≤◌, length, Ok}
use Rattle.manifest.specs.Operations.{Operation}
use Rattle.version_state.specs.State.{State}
use Rattle.pins.specs.declared.PinBook.{PinBook}
use Rattle.transaction.specs.declared.Handles.{Handles}
use Rattle.rewrite.specs.Rewritten.{longest_rewritten}
use Rattle.version_manager.specs.declared.VersionManager.{VersionManager}
use Rattle.version_manager.specs.declared.Opened.{Opened}
use Rattle.version_manager.specs.Answered.{DrawnRowset, DrawnVector, Grouped, Committed, Checkpointed, Reported}
use Rattle.version_manager.specs.Managers.{bad_manager, Manages, FreshSays}
use Rattle.version_manager.specs.Draw.{rowset_verdict, vector_verdict, DrawRowsetSays, DrawVectorSays}
use Rattle.version_manager.specs.Group.{group_verdict, GroupSays}
use Rattle.version_manager.specs.Checkpoint.{checkpoint_verdict, CheckpointSays}
use Rattle.version_manager.specs.Commit.{outcome_of, CommitSays}
use Rattle.version_manager.specs.Report.{not_reportable, report_verdict, ReportSays}

pub record DrawLaws : Type 0 where
  pub fresh : (r : Opened) → FreshSays r → bad_manager r.manager ≡ false
  pub rowset : (m : VersionManager) (r : DrawnRowset) → DrawRowsetSays m r → rowset_verdict m ≡ Ok tt → bad_manager r.manager ≡ false
  pub vector : (m : VersionManager) (r : DrawnVector) → DrawVectorSays m r → vector_verdict m ≡ Ok tt → bad_manager r.manager ≡ false
  pub group : (m : VersionManager) (h : Handles) (rs ls cs fs ms : List ℕ) (g : Grouped) (rs' ls' cs' fs' ms' : List ℕ) → GroupSays m h rs ls cs fs ms g rs' ls' cs' fs' ms' → group_verdict m h rs ls cs fs ms ≡ Ok tt → bad_manager g.manager ≡ false

pub record CheckpointLaws : Type 0 where
  pub sound : (m : VersionManager) (out : List ℕ) (r : Checkpointed) (out' : List ℕ) → CheckpointSays m out r out' → checkpoint_verdict m (length out) ≡ Ok tt → bad_manager r.manager ≡ false
  -- lent enough, it is refused by 29 alone
  pub accepted : (m : VersionManager) (out : List ℕ) (r : Checkpointed) (out' : List ℕ) → CheckpointSays m out r out' → bad_manager m ≡ false → longest_rewritten ≤ length out → checkpoint_verdict m (length out) ≡ Ok tt

pub record CommitLaws : Type 0 where
  -- of operations that are given; create, drop and a compaction have laws of their own
  pub sound : (m : VersionManager) (n : ℕ) (os : List Operation) (out : List ℕ) (s : State) (r : Committed) (out' : List ℕ)
      → outcome_of m n os (length out) ≡ Ok s → CommitSays m n os out r out' → bad_manager r.manager ≡ false

pub record ReportLaws : Type 0 where
  pub sound : (m : VersionManager) (b : PinBook) (landed : ℕ) (r : Reported) → ReportSays m b landed r → report_verdict m b landed ≡ Ok tt → bad_manager r.manager ≡ false
  -- a manager that keeps nothing, as all calls but commits hand out, is refused any report
  pub nothing : (m : VersionManager) (s : State) (b : PinBook) (landed : ℕ) → Manages m s → not_reportable m b landed ≡ true
