-- A refused call hands back the very same manager. Assumes nothing.
use mathlib.Core.Path.{◌≡◌, ap, ◌∙◌}
use mathlib.Core.Bool.{Bool, true, false, cond}
use mathlib.Core.List.{List, [], ◌∷◌}
use Prim.Native.Nat.{ℕ, ◌+◌}
use lib.ListN.{length, take}
use Rattle.std.specs.Prelude.{Result, Ok, Err}
use Rattle.lists.proofs.Tests.{clash}
use Rattle.ids.specs.declared.refusal.Refusal.{Refusal}
use Rattle.ids.specs.Verdicts.{Verdict}
use Rattle.ids.specs.Answers.{Told, told}
use Rattle.version_state.specs.State.{State}
use Rattle.transaction_manager.specs.Locks.{relocked}
use Rattle.commit.specs.Commit.{append_of}
use Rattle.table.specs.Made.{committed}
use Rattle.table.specs.Create.{created_by}
use Rattle.table.specs.Drop.{dropped_by}
use Rattle.table.specs.Compact.{compacted_by}
use Rattle.compaction.specs.New.{new_of}
use Rattle.vacuum.specs.LetGo.{vacuumed}
use Rattle.vacuum.specs.Says.{bound_of, list_of}
use Rattle.rewrite.specs.Rewritten.{rewritten_of}
use Rattle.rewrite.specs.Says.{with_rewritten}
use Rattle.version_manager.specs.Managers.{held_by, former_by, HandsBack, HandsOn}
use Rattle.version_manager.specs.Commit.{CommitEnds, outcome_of}
use Rattle.version_manager.specs.Create.{create_verdict}
use Rattle.version_manager.specs.Drop.{drop_verdict}
use Rattle.version_manager.specs.Compact.{compact_verdict}
use Rattle.version_manager.specs.declared.VersionManager.{VersionManager}
use Rattle.version_manager.specs.Draw.{rowset_verdict, vector_verdict, rowset_drawn, vector_drawn}
use Rattle.version_manager.specs.Group.{vectors_drawn, grouped_by, group_verdict}
use Rattle.version_manager.specs.Lock.{lock_verdict}
use Rattle.version_manager.specs.Vacuum.{vacuum_verdict}
use Rattle.version_manager.specs.Report.{report_verdict, reported_state}
use Rattle.version_manager.specs.Checkpoint.{checkpoint_verdict}
use Rattle.plain_record.specs.Calls.{Call, draw_rowset, draw_vector, group, lock, unlock, commit, create, drop, compact, pin, unpin, vacuum, report, checkpoint, reopen}
use Rattle.plain_record.specs.Run.{World, world, Event, is_accepted, value, port, LinkBy, replaced}

accepted-told : (v : Verdict) (vs : List ℕ) (t : Told) (m n : VersionManager) (s : State) → t ≡ told v vs → is_accepted t ≡ false → HandsBack v m s n → n ≡ m
accepted-told (Ok _) vs t m n s e a h = clash (ap is_accepted e) a
accepted-told (Err k) vs t m n s e a h = h

made_told : (v : Verdict) (vs : List ℕ) (t : Told) (m n : VersionManager) (s : State) (k : ℕ) → t ≡ told v vs → is_accepted t ≡ false → HandsOn v m s k n → n ≡ m
made_told (Ok _) vs t m n s k e a h = clash (ap is_accepted e) a
made_told (Err j) vs t m n s k e a h = h

pub refused-manager : (c : Call) (e : Event) → LinkBy port e.before e.told e.listed e.after c → is_accepted e.told ≡ false → e.after.manager ≡ e.before.manager
refused-manager draw_rowset e d a =
    let m = e.before.manager in
    ap (λ (x : World). x.manager) d.after ∙ accepted-told (rowset_verdict m) ((held_by m).next_rowset ∷ []) e.told m d.result.manager (rowset_drawn (held_by m)) (d.told ∙ d.says.answer) a d.says.manager
refused-manager draw_vector e d a =
    let m = e.before.manager in
    ap (λ (x : World). x.manager) d.after ∙ accepted-told (vector_verdict m) ((held_by m).next_vector ∷ []) e.told m d.result.manager (vector_drawn (held_by m)) (d.told ∙ d.says.answer) a d.says.manager
refused-manager (group h rs ls cs fs ms) e d a =
    let m = e.before.manager in
    ap (λ (x : World). x.manager) d.after ∙ accepted-told (group_verdict m h rs ls cs fs ms) (length (grouped_by h) ∷ (held_by m).next_vector ∷ []) e.told m d.result.manager (vectors_drawn (length (grouped_by h)) (held_by m)) (d.told ∙ d.says.answer) a d.says.manager
refused-manager (lock n) e d a =
    let m = e.before.manager in
    ap (λ (x : World). x.manager) d.after ∙ accepted-told (lock_verdict m n.0 true) [] e.told m d.result.manager (relocked n.0 true (held_by m)) (d.told ∙ d.says.answer) a d.says.manager
refused-manager (unlock n) e d a =
    let m = e.before.manager in
    ap (λ (x : World). x.manager) d.after ∙ accepted-told (lock_verdict m n.0 false) [] e.told m d.result.manager (relocked n.0 false (held_by m)) (d.told ∙ d.says.answer) a d.says.manager
refused-manager (commit os out missing) e d a = ap (λ (x : World). x.manager) d.after ∙ go (outcome_of e.before.manager d.count os (length out)) d.says
  where
    go : (x : Result State Refusal) → CommitEnds x e.before.manager os out d.result d.left → d.result.manager ≡ e.before.manager
    go (Ok s) h = clash (ap is_accepted (d.told ∙ h.0)) a
    go (Err k) h = h.1
refused-manager (create shape name out missing) e d a =
    let m = e.before.manager in
    ap (λ (x : World). x.manager) d.after ∙ made_told (create_verdict m shape name (length out)) ((held_by m).next_table ∷ ((held_by m).epoch + 1) ∷ length (append_of (created_by (held_by m) shape name)) ∷ []) e.told m d.result.manager (committed (created_by (held_by m) shape name) (held_by m)) (length (append_of (created_by (held_by m) shape name))) (d.told ∙ d.says.answer) a d.says.manager
refused-manager (drop n out missing) e d a =
    let m = e.before.manager in
    ap (λ (x : World). x.manager) d.after ∙ made_told (drop_verdict m n (length out)) (((held_by m).epoch + 1) ∷ length (append_of (dropped_by (held_by m) n)) ∷ []) e.told m d.result.manager (committed (dropped_by (held_by m) n) (held_by m)) (length (append_of (dropped_by (held_by m) n))) (d.told ∙ d.says.answer) a d.says.manager
refused-manager (compact n new taken out missing) e d a =
    let m = e.before.manager in
    ap (λ (x : World). x.manager) d.after ∙ made_told (compact_verdict m n (new_of new) taken (length out)) (((held_by m).epoch + 1) ∷ length (append_of (compacted_by (held_by m) n (new_of new) taken)) ∷ []) e.told m d.result.manager (committed (compacted_by (held_by m) n (new_of new) taken) (held_by m)) (length (append_of (compacted_by (held_by m) n (new_of new) taken))) (d.told ∙ d.says.answer) a d.says.manager
refused-manager pin e d a = ap (λ (x : World). x.manager) d.after
refused-manager (unpin n) e d a = ap (λ (x : World). x.manager) d.after
refused-manager (vacuum ts rs) e d a =
    let m = e.before.manager in
    ap (λ (x : World). x.manager) d.after ∙ accepted-told (vacuum_verdict m e.before.book (length ts) (length rs)) (length (list_of (held_by m) e.before.book) ∷ []) e.told m d.result.manager (vacuumed (bound_of (held_by m) e.before.book) (held_by m)) (d.told ∙ d.says.answer) a d.says.manager
refused-manager (report n) e d a =
    let m = e.before.manager in
    ap (λ (x : World). x.manager) d.after ∙ accepted-told (report_verdict m e.before.book n) ((former_by m).epoch ∷ ((former_by m).manifest + n) ∷ []) e.told m d.result.manager (reported_state m n) (d.told ∙ d.says.answer) a d.says.manager
refused-manager (checkpoint out stale) e d a =
    let m = e.before.manager in
    let n = d.result.manager in
    ap (λ (x : World). x.manager) d.after
    ∙ ap (λ (b : Bool). (cond b (replaced n e.before.book e.before.file (take (value 0 e.told) d.left) stale) (world n e.before.book e.before.file e.before.torn e.before.last)).manager) a
    ∙ accepted-told (checkpoint_verdict m (length out)) (length (rewritten_of (held_by m)) ∷ []) e.told m n (with_rewritten (held_by m)) (d.told ∙ d.says.answer) a d.says.manager
refused-manager (reopen out stale) e d a = ap (λ (x : World). x.manager) d.after ∙ ap (λ (b : Bool). (cond b (replaced d.result.manager d.result.book e.before.torn (take (value 0 e.told) d.left) stale) e.before).manager) a
