-- Runs: chains of managers, books, answers, lent buffers and file bytes, each link an entry point's own proposition. Assumes nothing.
use Rattle.std.specs.Prelude.{◌≡◌, Bool, cond, List, [], ◌∷◌, ◌++◌, ℕ, ◌-◌, ◌≤◌, eqb, length, get_or, take}
use Rattle.ids.specs.Ids.{largest32}
use Rattle.ids.specs.declared.TableNo.{TableNo}
use Rattle.ids.specs.Answers.{Told}
use Rattle.ids.specs.Answers as answers
use Rattle.manifest.specs.Operations.{Operation, batch_of}
use Rattle.manifest.specs.declared.operation.Batch.{Batch}
use Rattle.version_state.specs.Widths.{Narrow}
use Rattle.pins.specs.declared.PinBook.{PinBook}
use Rattle.show.specs.Says.{ShowAnswer}
use Rattle.compaction.specs.New.{NewRowset, new_of}
use Rattle.version_manager.specs.declared.VersionManager.{VersionManager}
use Rattle.version_manager.specs.declared.Opened.{Opened}
use Rattle.version_manager.specs.Answered.{DrawnRowset, DrawnVector, Grouped, Committed, Created, Vacuumed, Checkpointed, Reported, Locked}
use Rattle.transaction.specs.declared.Handles.{Handles}
use Rattle.version_manager.specs.Managers.{held_by, FreshSays}
use Rattle.version_manager.specs.Draw.{rowset_told, vector_told, DrawRowsetSays, DrawVectorSays}
use Rattle.version_manager.specs.Group.{group_told, GroupSays}
use Rattle.version_manager.specs.Lock.{LockSays, UnlockSays}
use Rattle.version_manager.specs.Commit.{commit_told, CommitSays}
use Rattle.version_manager.specs.Create.{create_told, CreateSays}
use Rattle.version_manager.specs.Drop.{DropSays}
use Rattle.version_manager.specs.Compact.{CompactSays}
use Rattle.version_manager.specs.Vacuum.{vacuum_told, VacuumSays}
use Rattle.version_manager.specs.Report.{report_told, ReportSays}
use Rattle.version_manager.specs.Checkpoint.{checkpoint_told, CheckpointSays}
use Rattle.version_manager.specs.Show.{ShowTablesSays, ShowPairsSays, ShowVectorsSays}
use Rattle.pinning.specs.Says.{pin_told, unpin_told, PinSays, UnpinSays, PinAnswer, UnpinAnswer}
use Rattle.storage.specs.declared.Reopened.{Reopened}
use Rattle.storage.specs.Reopen.{reopen_told, ReopenSays}
use Rattle.plain_record.specs.Calls.{Call, draw_rowset, draw_vector, group, lock, unlock, commit, create, drop, compact, pin, unpin, vacuum, report, checkpoint, reopen}

-- what each entry point may return and leave
pub record Steps : Type 1 where
  pub fresh : Opened → Type 0
  pub draw_rowset : VersionManager → DrawnRowset → Type 0
  pub draw_vector : VersionManager → DrawnVector → Type 0
  pub group : VersionManager → Handles → List ℕ → List ℕ → List ℕ → List ℕ → List ℕ → Grouped → List ℕ → List ℕ → List ℕ → List ℕ → List ℕ → Type 0
  pub lock : VersionManager → TableNo → Locked → Type 0
  pub unlock : VersionManager → TableNo → Locked → Type 0
  pub commit : VersionManager → ℕ → List Operation → List ℕ → Committed → List ℕ → Type 0
  pub create : VersionManager → ℕ → List ℕ → List ℕ → Created → List ℕ → Type 0
  pub drop : VersionManager → ℕ → List ℕ → Committed → List ℕ → Type 0
  pub compact : VersionManager → ℕ → List ℕ → List ℕ → List ℕ → Committed → List ℕ → Type 0
  pub pin : VersionManager → PinBook → PinAnswer → PinBook → Type 0
  pub unpin : VersionManager → ℕ → PinBook → UnpinAnswer → PinBook → Type 0
  pub vacuum : VersionManager → PinBook → List ℕ → List ℕ → Vacuumed → List ℕ → List ℕ → Type 0
  pub report : VersionManager → PinBook → ℕ → Reported → Type 0
  pub checkpoint : VersionManager → List ℕ → Checkpointed → List ℕ → Type 0
  pub reopen : List ℕ → List ℕ → Reopened → List ℕ → Type 0
  pub show_tables : VersionManager → PinBook → ℕ → List ℕ → List ℕ → List ℕ → List ℕ → ShowAnswer → List ℕ → List ℕ → List ℕ → List ℕ → Type 0
  pub show_pairs : VersionManager → PinBook → ℕ → List ℕ → List ℕ → ShowAnswer → List ℕ → List ℕ → Type 0
  pub show_vectors : VersionManager → PinBook → ℕ → List ℕ → List ℕ → List ℕ → ShowAnswer → List ℕ → List ℕ → List ℕ → Type 0

-- the port's own
abbrev pub port : Steps
port =
    record {
      fresh = FreshSays;
      draw_rowset = DrawRowsetSays;
      draw_vector = DrawVectorSays;
      group = GroupSays;
      lock = LockSays;
      unlock = UnlockSays;
      commit = CommitSays;
      create = CreateSays;
      drop = DropSays;
      compact = CompactSays;
      pin = PinSays;
      unpin = UnpinSays;
      vacuum = VacuumSays;
      report = ReportSays;
      checkpoint = CheckpointSays;
      reopen = ReopenSays;
      show_tables = ShowTablesSays;
      show_pairs = ShowPairsSays;
      show_vectors = ShowVectorsSays;
    }

-- the last append: the manifest that it was put to, and its bytes
pub record Append : Type 0 where
  pub before : List ℕ
  pub bytes : List ℕ

abbrev pub append : List ℕ → List ℕ → Append
append f l = record { before = f; bytes = l }

abbrev pub no_append : Append
no_append = append [] []

-- what stands between two calls: the manager, the book, the manifest file if all landed, the file if the next accepted call is a reopen, and
-- the last append
pub record World : Type 0 where
  pub manager : VersionManager
  pub book : PinBook
  pub file : List ℕ
  pub torn : List ℕ
  pub last : Append

abbrev pub world : VersionManager → PinBook → List ℕ → List ℕ → Append → World
world m b f t a = record { manager = m; book = b; file = f; torn = t; last = a }

-- a turn of a run: what stood before it, the call, what its answer tells, the pairs that it listed, and what stands after it
pub record Event : Type 0 where
  pub before : World
  pub call : Call
  pub told : Told
  pub listed : List (List ℕ)
  pub after : World

abbrev pub is_accepted : Told → Bool
is_accepted t = eqb t.number 0

-- one of the values that an answer tells
abbrev pub value : ℕ → Told → ℕ
value n t = get_or t.values n 0

-- after a call that appends nothing: an accepted one has found everything landed
abbrev pub onward : VersionManager → PinBook → Told → World → World
onward m b t w = world m b w.file (cond (is_accepted t) w.file w.torn) w.last

-- the append of a commit, of n bytes, of which the last ones may be missing
abbrev pub after_commit : VersionManager → Told → ℕ → List ℕ → ℕ → World → World
after_commit m t n out missing w =
    let a = is_accepted t in
    world m w.book (cond a (w.file ++ take n out) w.file) (cond a (w.file ++ take (n - missing) out) w.torn) (cond a (append w.file (take n out)) w.last)

-- the file with so many bytes of the last append
abbrev pub reported : ℕ → World → List ℕ
reported n w = w.last.before ++ take n w.last.bytes

-- a report says how far the last append landed, whatever was taken for it so far
abbrev pub after_report : VersionManager → Told → ℕ → World → World
after_report m t n w =
    world m w.book (cond (is_accepted t) (reported n w) w.file) (cond (is_accepted t) (reported n w) w.torn) w.last

-- a rewritten manifest replaces the old one whole; only where the next accepted call is a reopen may the old one still stand
abbrev pub replaced : VersionManager → PinBook → List ℕ → List ℕ → Bool → World
replaced m b old new stale = world m b new (cond stale old new) no_append

-- a checkpoint replaces the manifest on which everything had landed
abbrev pub after_checkpoint : VersionManager → Told → List ℕ → Bool → World → World
after_checkpoint m t out stale w =
    cond (is_accepted t) (replaced m w.book w.file (take (value 0 t) out) stale) (world m w.book w.file w.torn w.last)

-- a reopen replaces the manifest that it read; a refused one hands nothing on
abbrev pub after_reopen : VersionManager → PinBook → Told → List ℕ → Bool → World → World
after_reopen m b t out stale w = cond (is_accepted t) (replaced m b w.torn (take (value 0 t) out) stale) w

-- the pairs that two slices hold, and the first n of them
abbrev pub paired : List ℕ → List ℕ → List (List ℕ)
paired [] rs = []
paired (t ∷ ts) [] = []
paired (t ∷ ts) (r ∷ rs) = (t ∷ r ∷ []) ∷ paired ts rs

abbrev pub pairs_in : ℕ → List ℕ → List ℕ → List (List ℕ)
pairs_in n ts rs = paired (take n ts) (take n rs)

abbrev pub listed_if : Told → List ℕ → List ℕ → List (List ℕ)
listed_if t ts rs = cond (is_accepted t) (pairs_in (value 0 t) ts rs) []

module _ (S : Steps) (w : World) (t : Told) (l : List (List ℕ)) (v : World) where
  pub record DrewRowset : Type 0 where
    pub result : DrawnRowset
    pub says : S.draw_rowset w.manager result
    pub told : t ≡ rowset_told result.answer
    pub none : l ≡ []
    pub after : v ≡ onward result.manager w.book t w

  pub record DrewVector : Type 0 where
    pub result : DrawnVector
    pub says : S.draw_vector w.manager result
    pub told : t ≡ vector_told result.answer
    pub none : l ≡ []
    pub after : v ≡ onward result.manager w.book t w

  pub record DidGroup (h : Handles) (rs ls cs fs ms : List ℕ) : Type 0 where
    pub result : Grouped
    pub rowsets : List ℕ
    pub lengths : List ℕ
    pub counts : List ℕ
    pub files : List ℕ
    pub memories : List ℕ
    pub says : S.group w.manager h rs ls cs fs ms result rowsets lengths counts files memories
    pub told : t ≡ group_told result.answer
    pub none : l ≡ []
    pub after : v ≡ onward result.manager w.book t w

  -- lock and unlock, each by what it may return
  pub record DidLock (Says : VersionManager → TableNo → Locked → Type 0) (n : TableNo) : Type 0 where
    pub result : Locked
    pub says : Says w.manager n result
    pub told : t ≡ answers.told result.answer []
    pub none : l ≡ []
    pub after : v ≡ onward result.manager w.book t w

  pub record DidCommit (os : List Operation) (out : List ℕ) (missing : ℕ) : Type 0 where
    -- the count that came with the operations: a batch may hold fewer than its count says
    pub count : ℕ
    pub counted : length os ≤ count
    pub result : Committed
    pub left : List ℕ
    pub says : S.commit w.manager count os out result left
    pub told : t ≡ commit_told result.answer
    pub none : l ≡ []
    pub after : v ≡ after_commit result.manager t (value 1 t) left missing w

  -- a shape has 32 bits
  pub record DidCreate (shape : ℕ) (name out : List ℕ) (missing : ℕ) : Type 0 where
    pub narrow : shape ≤ largest32
    pub result : Created
    pub left : List ℕ
    pub says : S.create w.manager shape name out result left
    pub told : t ≡ create_told result.answer
    pub none : l ≡ []
    pub after : v ≡ after_commit result.manager t (value 2 t) left missing w

  -- `Narrow`: next ids of their widths, as every manager of the code has them
  pub record DidDrop (n : ℕ) (out : List ℕ) (missing : ℕ) : Type 0 where
    pub narrow : Narrow (held_by w.manager)
    pub result : Committed
    pub left : List ℕ
    pub says : S.drop w.manager n out result left
    pub told : t ≡ commit_told result.answer
    pub none : l ≡ []
    pub after : v ≡ after_commit result.manager t (value 1 t) left missing w

  pub record DidCompact (n : ℕ) (new : NewRowset) (taken out : List ℕ) (missing : ℕ) : Type 0 where
    pub narrow : Narrow (held_by w.manager)
    pub result : Committed
    pub left : List ℕ
    pub says : S.compact w.manager n (new_of new) taken out result left
    pub told : t ≡ commit_told result.answer
    pub none : l ≡ []
    pub after : v ≡ after_commit result.manager t (value 1 t) left missing w

  pub record DidPin : Type 0 where
    pub answer : PinAnswer
    pub book : PinBook
    pub says : S.pin w.manager w.book answer book
    pub told : t ≡ pin_told answer
    pub none : l ≡ []
    pub after : v ≡ onward w.manager book t w

  pub record DidUnpin (e : ℕ) : Type 0 where
    pub answer : UnpinAnswer
    pub book : PinBook
    pub says : S.unpin w.manager e w.book answer book
    pub told : t ≡ unpin_told answer
    pub none : l ≡ []
    pub after : v ≡ onward w.manager book t w

  pub record DidVacuum (ts rs : List ℕ) : Type 0 where
    pub result : Vacuumed
    pub tables : List ℕ
    pub rowsets : List ℕ
    pub says : S.vacuum w.manager w.book ts rs result tables rowsets
    pub told : t ≡ vacuum_told result.answer
    pub listed : l ≡ listed_if t tables rowsets
    pub after : v ≡ onward result.manager w.book t w

  pub record DidReport (landed : ℕ) : Type 0 where
    pub result : Reported
    pub says : S.report w.manager w.book landed result
    pub told : t ≡ report_told result.answer
    pub none : l ≡ []
    pub after : v ≡ after_report result.manager t landed w

  pub record DidCheckpoint (out : List ℕ) (stale : Bool) : Type 0 where
    pub narrow : Narrow (held_by w.manager)
    pub result : Checkpointed
    pub left : List ℕ
    pub says : S.checkpoint w.manager out result left
    pub told : t ≡ checkpoint_told result.answer
    pub none : l ≡ []
    pub after : v ≡ after_checkpoint result.manager t left stale w

  -- it reads what then stands
  pub record DidReopen (out : List ℕ) (stale : Bool) : Type 0 where
    pub result : Reopened
    pub left : List ℕ
    pub says : S.reopen w.torn out result left
    pub told : t ≡ reopen_told result.answer
    pub none : l ≡ []
    pub after : v ≡ after_reopen result.manager result.book t left stale w

  abbrev pub LinkBy : Call → Type 0
  LinkBy draw_rowset = DrewRowset
  LinkBy draw_vector = DrewVector
  LinkBy (group h rs ls cs fs ms) = DidGroup h rs ls cs fs ms
  LinkBy (lock n) = DidLock S.lock n
  LinkBy (unlock n) = DidLock S.unlock n
  LinkBy (commit os out missing) = DidCommit os out missing
  LinkBy (create shape name out missing) = DidCreate shape name out missing
  LinkBy (drop n out missing) = DidDrop n out missing
  LinkBy (compact n new taken out missing) = DidCompact n new taken out missing
  LinkBy pin = DidPin
  LinkBy (unpin e) = DidUnpin e
  LinkBy (vacuum ts rs) = DidVacuum ts rs
  LinkBy (report landed) = DidReport landed
  LinkBy (checkpoint out stale) = DidCheckpoint out stale
  LinkBy (reopen out stale) = DidReopen out stale

abbrev pub Link : Steps → Event → Type 0
Link S e = LinkBy S e.before e.told e.listed e.after e.call

-- each call gets what the last one returned or left
abbrev pub Chain : Steps → World → List Event → Type 0
Chain S w [] = Unit {0}
Chain S w (e ∷ es) = (e.before ≡ w) × Link S e × Chain S e.after es

-- what stands at the end
abbrev pub last_of : World → List Event → World
last_of w [] = w
last_of w (e ∷ es) = last_of e.after es

-- a list starts from a fresh manager, an empty book and an empty manifest
pub record Starts (S : Steps) (w : World) : Type 0 where
  pub opened : Opened
  pub says : S.fresh opened
  pub fresh : w ≡ world opened.manager opened.book [] [] no_append

-- what `DidCommit` asks of a count holds of every typed batch; a commit by lines counts its operations
abbrev pub BatchCounted : Type 0
BatchCounted = (b : Batch) → length (batch_of b) ≤ b.count
