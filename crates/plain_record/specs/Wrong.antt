-- Managers that are wrong in one call each: the claim is false of every one of them. Assumes nothing.
use Rattle.std.specs.Prelude.{◌≡◌, true, cond, ◌&&◌, List, [], ◌∷◌, ◌++◌, map, ℕ, ◌+◌, ◌-◌, ◌≤◌, max, leb, ltb, length, take, Result, Ok, Err}
use Rattle.std.specs.Result.{result_and}
use Rattle.lists.specs.Order.{same}
use Rattle.lists.specs.Keyed.{keep}
use Rattle.lists.specs.Written.{over}
use Rattle.text.specs.Class.{newline}
use Rattle.ids.specs.Ids.{next}
use Rattle.ids.specs.declared.TableNo.{TableNo}
use Rattle.ids.specs.declared.refusal.Refusal.{Refusal}
use Rattle.ids.specs.declared.refusal.Refusal.TheVariants.{BadManager, BadPinBook, NotReportable, EpochNotPinned, OutputTooShort}
use Rattle.ids.specs.Verdicts.{◌⇒◌, judged, Verdict}
use Rattle.ids.specs.Answers.{told, after}
use Rattle.ids.specs.Results.{and_then}
use Rattle.manifest.specs.Operations.{Operation, end}
use Rattle.manifest.specs.Lines.{is_torn, line_text}
use Rattle.manifest.specs.Split.{rest_on, lines, joined}
use Rattle.frames.specs.Frames.{frame_of}
use Rattle.snapshot.specs.Entries.{Entry, by_ids, shown_by, field, waits}
use Rattle.version_state.specs.State.{State, with_tables, with_pairs, with_vectors, with_next, with_epoch, vectors_at}
use Rattle.version_state.specs.Sets.{sets, unlocked, sets_of, next_of}
use Rattle.pins.specs.declared.PinBook.{PinBook}
use Rattle.pins.specs.Book.{PinEntry, pins_of, place_on, Keeps, bad_book}
use Rattle.pins.specs.Guards.{guards_by, bound}
use Rattle.pins.specs.Counts.{with_pin}
use Rattle.operations.specs.Steps.{step_of}
use Rattle.operations.specs.Effect.{applied_all}
use Rattle.commit.specs.Commit.{append_of, first_rules, finish_of, commit_of}
use Rattle.transaction_manager.specs.Locks.{relocked}
use Rattle.table.specs.Made.{committed, drop_operations, compact_operations}
use Rattle.table.specs.Create.{created_by}
use Rattle.table.specs.Compact.{compacted_by}
use Rattle.vacuum.specs.LetGo.{vacuum_list, stays_by, vacuumed}
use Rattle.vacuum.specs.Says.{bound_of, list_of}
use Rattle.show.specs.Says.{TablesShown}
use Rattle.version_manager.specs.declared.VersionManager.{VersionManager}
use Rattle.version_manager.specs.Answered.{Committed, Created, Vacuumed, Checkpointed, Reported, Locked}
use Rattle.version_manager.specs.Managers.{held_by, former_by, bad_manager, Manages, Follows, HandsBack, HandsOn}
use Rattle.version_manager.specs.Commit.{outcome_of, commit_told, CommitEnds}
use Rattle.version_manager.specs.Lock.{lock_verdict}
use Rattle.version_manager.specs.Create.{create_verdict, create_told}
use Rattle.version_manager.specs.Drop.{drop_verdict}
use Rattle.version_manager.specs.Compact.{compact_verdict}
use Rattle.version_manager.specs.Vacuum.{vacuum_told, vacuum_verdict}
use Rattle.version_manager.specs.Report.{report_told, report_verdict, reported_state}
use Rattle.version_manager.specs.Checkpoint.{checkpoint_told, checkpoint_verdict}
use Rattle.version_manager.specs.Show.{ShowPairsSays, ShowVectorsSays}
use Rattle.pinning.specs.Says.{current, BookAfter, pin_verdict, pin_told, unpin_verdict, is_due, flag, unpin_told, ready_of, PinAnswer, UnpinAnswer}
use Rattle.replay.specs.Replay.{stands, replay_of}
use Rattle.rewrite.specs.Rewritten.{written_of, rewritten_of}
use Rattle.storage.specs.declared.Reopened.{Reopened}
use Rattle.storage.specs.Reopen.{opened_of, reopen_of, reopen_told, ReopenIs, ReopenSays}
use Rattle.plain_record.specs.Run.{Steps, port}
use Rattle.plain_record.specs.Claim.{Claim}
open port use {lock, commit, create, drop, compact, pin, unpin, vacuum, report, checkpoint, reopen, show_tables, show_pairs, show_vectors}

-- what may stand in the place of a call's contract
abbrev pub Like : {A : Type 1} → A → Type 1
Like {A} says = A

-- the port with these calls in place of its own
abbrev pub exchanged : Like lock → Like commit → Like create → Like drop → Like compact → Like pin → Like unpin → Like vacuum → Like report → Like checkpoint → Like reopen → Like show_tables → Like show_pairs → Like show_vectors → Steps
exchanged lock commit create drop compact pin unpin vacuum report checkpoint reopen show_tables show_pairs show_vectors =
    record {
      fresh = port.fresh;
      draw_rowset = port.draw_rowset;
      draw_vector = port.draw_vector;
      group = port.group;
      lock = lock;
      unlock = port.unlock;
      commit = commit;
      create = create;
      drop = drop;
      compact = compact;
      pin = pin;
      unpin = unpin;
      vacuum = vacuum;
      report = report;
      checkpoint = checkpoint;
      reopen = reopen;
      show_tables = show_tables;
      show_pairs = show_pairs;
      show_vectors = show_vectors;
    }

-- with one of them
abbrev pub locking : Like lock → Steps
locking f = exchanged f commit create drop compact pin unpin vacuum report checkpoint reopen show_tables show_pairs show_vectors

abbrev pub committing : Like commit → Steps
committing f = exchanged lock f create drop compact pin unpin vacuum report checkpoint reopen show_tables show_pairs show_vectors

abbrev pub creating : Like create → Steps
creating f = exchanged lock commit f drop compact pin unpin vacuum report checkpoint reopen show_tables show_pairs show_vectors

abbrev pub dropping : Like drop → Steps
dropping f = exchanged lock commit create f compact pin unpin vacuum report checkpoint reopen show_tables show_pairs show_vectors

abbrev pub compacting : Like compact → Steps
compacting f = exchanged lock commit create drop f pin unpin vacuum report checkpoint reopen show_tables show_pairs show_vectors

abbrev pub pinning : Like pin → Steps
pinning f = exchanged lock commit create drop compact f unpin vacuum report checkpoint reopen show_tables show_pairs show_vectors

abbrev pub unpinning : Like unpin → Steps
unpinning f = exchanged lock commit create drop compact pin f vacuum report checkpoint reopen show_tables show_pairs show_vectors

abbrev pub vacuuming : Like vacuum → Steps
vacuuming f = exchanged lock commit create drop compact pin unpin f report checkpoint reopen show_tables show_pairs show_vectors

abbrev pub reporting : Like report → Steps
reporting f = exchanged lock commit create drop compact pin unpin vacuum f checkpoint reopen show_tables show_pairs show_vectors

abbrev pub checkpointing : Like checkpoint → Steps
checkpointing f = exchanged lock commit create drop compact pin unpin vacuum report f reopen show_tables show_pairs show_vectors

abbrev pub reopening : Like reopen → Steps
reopening f = exchanged lock commit create drop compact pin unpin vacuum report checkpoint f show_tables show_pairs show_vectors

abbrev pub showing : Like show_tables → Like show_pairs → Like show_vectors → Steps
showing t s x = exchanged lock commit create drop compact pin unpin vacuum report checkpoint reopen t s x

-- an accepted lock forgets the pairs
pub record LocksForgetting (m : VersionManager) (t : TableNo) (r : Locked) : Type 0 where
  pub answer : told r.answer [] ≡ told (lock_verdict m t.0 true) []
  pub manager : HandsBack (lock_verdict m t.0 true) m (with_pairs (relocked t.0 true (held_by m)) []) r.manager

abbrev pub forgets_pairs : Steps
forgets_pairs = locking LocksForgetting

-- a commit raises the epoch and the next ids, and keeps the old sets
abbrev pub with_sets : State → Result State Refusal → Result State Refusal
with_sets old (Ok s) = Ok (with_vectors (with_pairs (with_tables s old.tables) old.pairs) old.vectors)
with_sets old (Err k) = Err k

abbrev pub unchanged : VersionManager → ℕ → List Operation → ℕ → Result State Refusal
unchanged m n os room = with_sets (held_by m) (outcome_of m n os room)

abbrev pub keeps_sets : Steps
keeps_sets = committing (λ m n os out r out'. CommitEnds (unchanged m n os (length out)) m os out r out')

-- a commit leaves the epoch as it is
abbrev pub at_epoch : ℕ → Result State Refusal → Result State Refusal
at_epoch e (Ok s) = Ok (with_epoch s e s.manifest)
at_epoch e (Err k) = Err k

abbrev pub unraised : VersionManager → ℕ → List Operation → ℕ → Result State Refusal
unraised m n os room = at_epoch (current m) (outcome_of m n os room)

abbrev pub leaves_epoch : Steps
leaves_epoch = committing (λ m n os out r out'. CommitEnds (unraised m n os (length out)) m os out r out')

-- a commit judges no operation, so that a pair that waits may be added again
abbrev pub unjudged : VersionManager → ℕ → List Operation → ℕ → Result State Refusal
unjudged m n os room =
    result_and (judged ((bad_manager m ⇒ BadManager) ∷ first_rules (held_by m) n)) (finish_of ((held_by m).epoch + 1) os room (applied_all ((held_by m).epoch + 1) os (held_by m)))

abbrev pub judges_nothing : Steps
judges_nothing = committing (λ m n os out r out'. CommitEnds (unjudged m n os (length out)) m os out r out')

-- a commit judges by the pairs that do not wait, and holds what it adds beside those that do
abbrev pub standing : State → State
standing s = with_pairs s (keep stands s.pairs)

abbrev pub beside : List Entry → Result State Refusal → Result State Refusal
beside l (Ok s) = Ok (with_pairs s (l ++ s.pairs))
beside l (Err k) = Err k

abbrev pub unaware : VersionManager → ℕ → List Operation → ℕ → Result State Refusal
unaware m n os room =
    beside (keep waits (held_by m).pairs) (result_and (judged ((bad_manager m ⇒ BadManager) ∷ [])) (commit_of (standing (held_by m)) n os room))

abbrev pub forgets_waiting : Steps
forgets_waiting = committing (λ m n os out r out'. CommitEnds (unaware m n os (length out)) m os out r out')

-- a commit appends no `E`
abbrev pub unended : List ℕ → List ℕ
unended l = take (length l - (length (line_text end) + 1)) l

-- it ends as the port's, but appends what `written` makes of the operations
abbrev pub CommitAppends : (List Operation → List ℕ) → Result State Refusal → VersionManager → List Operation → List ℕ → Committed → List ℕ → Type 0
CommitAppends written (Ok s) m os out r out' =
    (commit_told r.answer ≡ told (Ok tt) (s.epoch ∷ length (written os) ∷ []))
    × Follows r.manager s (held_by m) (length (written os))
    × (out' ≡ over (written os) out)
CommitAppends written (Err k) m os out r out' = CommitEnds (Err k) m os out r out'

abbrev pub appends_no_end : Steps
appends_no_end = committing (λ m n os out r out'. CommitAppends (λ l. unended (append_of l)) (outcome_of m n os (length out)) m os out r out')

-- a commit appends no `!`, so that what is left of a short append runs into the next one
abbrev pub of_length : ℕ → Result State Refusal → Result State Refusal
of_length n (Ok s) = Ok (with_epoch s s.epoch n)
of_length n (Err k) = Err k

abbrev pub unmarked : VersionManager → ℕ → List Operation → ℕ → Result State Refusal
unmarked m n os room = of_length ((held_by m).manifest + length (frame_of os)) (outcome_of m n os room)

abbrev pub appends_no_mark : Steps
appends_no_mark = committing (λ m n os out r out'. CommitAppends frame_of (unmarked m n os (length out)) m os out r out')

-- a refused commit leaves what its operations did before the one that was refused
abbrev pub reached_by : Result State Refusal → State → (State → State) → State
reached_by (Ok u) s go = go u
reached_by (Err k) s go = s

abbrev pub reached : ℕ → ℕ → List Operation → State → State
reached i e [] s = s
reached i e (o ∷ os) s = reached_by (step_of i e o s) s (λ u. reached (i + 1) e os u)

abbrev pub CommitLeaves : Result State Refusal → VersionManager → List Operation → List ℕ → Committed → List ℕ → Type 0
CommitLeaves (Ok s) m os out r out' = CommitEnds (Ok s) m os out r out'
CommitLeaves (Err k) m os out r out' =
    (commit_told r.answer ≡ told (Err k) [])
    × Manages r.manager (reached 0 (current m + 1) os (held_by m))
    × (out' ≡ out)

abbrev pub leaves_part : Steps
leaves_part = committing (λ m n os out r out'. CommitLeaves (outcome_of m n os (length out)) m os out r out')

-- a create as the port's under its verdict, but from the state that `from` makes of the manager's; `Leaves` says what is handed back
pub record CreatesBy (from : State → State) (Leaves : Verdict → VersionManager → State → ℕ → VersionManager → Type 0) (m : VersionManager) (shape : ℕ) (name out : List ℕ) (r : Created) (out' : List ℕ) : Type 0 where
  pub answer : create_told r.answer ≡ told (create_verdict m shape name (length out)) ((from (held_by m)).next_table ∷ (current m + 1) ∷ length (append_of (created_by (from (held_by m)) shape name)) ∷ [])
  pub manager : Leaves (create_verdict m shape name (length out)) m (committed (created_by (from (held_by m)) shape name) (from (held_by m))) (length (append_of (created_by (from (held_by m)) shape name))) r.manager
  pub bytes : out' ≡ after (create_verdict m shape name (length out)) (over (append_of (created_by (from (held_by m)) shape name)) out) out

-- it takes the number of live tables for the next id, so that an id comes again after a drop
abbrev pub reuses_id : Steps
reuses_id = creating (CreatesBy (λ s. with_next s (length s.tables) s.next_rowset s.next_vector) HandsOn)

-- a refused create leaves its table
abbrev pub creates_refused : Steps
creates_refused = creating (CreatesBy (λ s. s) (λ v m s k n. Follows n s (held_by m) k))

-- a drop or a compaction commits os under the port's verdict v, and appends the frame of `written`
pub record Makes (v : Verdict) (os written : List Operation) (m : VersionManager) (out : List ℕ) (r : Committed) (out' : List ℕ) : Type 0 where
  pub answer : commit_told r.answer ≡ told v ((current m + 1) ∷ length (append_of written) ∷ [])
  pub manager : HandsOn v m (committed os (held_by m)) (length (append_of written)) r.manager
  pub bytes : out' ≡ after v (over (append_of written) out) out

-- a drop commits no `D`
abbrev pub leaves_rowsets : Steps
leaves_rowsets =
    dropping (λ m t out. let os = drop_operations t [] (vectors_at (current m) (held_by m)) in Makes (drop_verdict m t (length out)) os os m out)

-- a compaction commits no `W`
abbrev pub leaves_vectors : Steps
leaves_vectors =
    compacting (λ m t new taken out. let os = compact_operations t new taken [] in Makes (compact_verdict m t new taken (length out)) os os m out)

-- a compaction adds the new rowset, and deletes nothing
abbrev pub keeps_taken : Steps
keeps_taken =
    compacting (λ m t new taken out. let os = compact_operations t new [] [] in Makes (compact_verdict m t new taken (length out)) os os m out)

-- a compaction commits what the port does, and appends the new rowset's line alone
abbrev pub appends_new_alone : Steps
appends_new_alone =
    compacting (λ m t new taken out. Makes (compact_verdict m t new taken (length out)) (compacted_by (held_by m) t new taken) (compact_operations t new [] []) m out)

-- a pin answers the next epoch
pub record PinsNext (m : VersionManager) (b : PinBook) (a : PinAnswer) (b' : PinBook) : Type 0 where
  pub answer : pin_told a ≡ told (pin_verdict m b) ((current m + 1) ∷ [])
  pub book : BookAfter (pin_verdict m b) b (with_pin (place_on (current m)) (pins_of b)) b'

abbrev pub answers_next : Steps
answers_next = pinning PinsNext

-- a pin is answered and not counted
pub record PinsNothing (m : VersionManager) (b : PinBook) (a : PinAnswer) (b' : PinBook) : Type 0 where
  pub answer : pin_told a ≡ told (pin_verdict m b) (current m ∷ [])
  pub book : b' ≡ b

abbrev pub counts_no_pin : Steps
counts_no_pin = pinning PinsNothing

-- a refused pin is counted
pub record PinsAnyway (m : VersionManager) (b : PinBook) (a : PinAnswer) (b' : PinBook) : Type 0 where
  pub answer : pin_told a ≡ told (pin_verdict m b) (current m ∷ [])
  pub book : Keeps b' (with_pin (place_on (current m)) (pins_of b))

abbrev pub counts_refused : Steps
counts_refused = pinning PinsAnyway

-- an unpin is answered, and its pin stays
pub record UnpinsNothing (m : VersionManager) (e : ℕ) (b : PinBook) (a : UnpinAnswer) (b' : PinBook) : Type 0 where
  pub answer : unpin_told a ≡ told (unpin_verdict m e b) (flag (is_due m e b) ∷ ready_of a ∷ [])
  pub ready : ready_of a ≤ length (list_of (held_by m) b')
  pub book : b' ≡ b

abbrev pub keeps_pin : Steps
keeps_pin = unpinning UnpinsNothing

-- what is left where pairs are let go up to one epoch and vectors up to another
abbrev pub let_go : ℕ → ℕ → State → State
let_go p v s = with_vectors (with_pairs s (keep (stays_by p) s.pairs)) (keep (stays_by v) s.vectors)

-- a vacuum lists up to an epoch, answers so many more than it lists, and lets go up to other epochs; its verdict is the port's
pub record VacuumsTo (more : ℕ) (to pairs_to vectors_to : VersionManager → PinBook → ℕ) (m : VersionManager) (b : PinBook) (ts rs : List ℕ) (r : Vacuumed) (ts' rs' : List ℕ) : Type 0 where
  pub answer : vacuum_told r.answer ≡ told (vacuum_verdict m b (length ts) (length rs)) ((length (vacuum_list (to m b) (held_by m)) + more) ∷ [])
  pub tables : ts' ≡ after (vacuum_verdict m b (length ts) (length rs)) (over (field 0 (vacuum_list (to m b) (held_by m))) ts) ts
  pub rowsets : rs' ≡ after (vacuum_verdict m b (length ts) (length rs)) (over (field 1 (vacuum_list (to m b) (held_by m))) rs) rs
  pub manager : HandsBack (vacuum_verdict m b (length ts) (length rs)) m (let_go (pairs_to m b) (vectors_to m b) (held_by m)) r.manager

abbrev pub nothing : VersionManager → PinBook → ℕ
nothing m b = 0

-- it lists nothing
abbrev pub lists_nothing : Steps
lists_nothing = vacuuming (VacuumsTo 0 nothing nothing nothing)

-- it lists what the port lists, and never lets go
abbrev pub port_bound : VersionManager → PinBook → ℕ
port_bound m b = bound_of (held_by m) b

abbrev pub keeps_listed : Steps
keeps_listed = vacuuming (VacuumsTo 0 port_bound nothing nothing)

-- it does what the port does, and answers one more
abbrev pub counts_one_more : Steps
counts_one_more = vacuuming (VacuumsTo 1 port_bound port_bound port_bound)

-- a pin keeps what was deleted at its own epoch too
abbrev pub lowered : PinEntry → PinEntry
lowered p = record { epoch = p.epoch - 1; count = p.count }

abbrev pub lowered_bound : VersionManager → PinBook → ℕ
lowered_bound m b = bound (guards_by (current m) (map lowered (pins_of b)))

abbrev pub keeps_own_epoch : Steps
keeps_own_epoch = vacuuming (VacuumsTo 0 lowered_bound lowered_bound lowered_bound)

-- no pin keeps a deletion from it
abbrev pub unguarded : VersionManager → PinBook → ℕ
unguarded m b = current m

abbrev pub ignores_pins : Steps
ignores_pins = vacuuming (VacuumsTo 0 unguarded unguarded unguarded)

-- it lists what the port lists, and lets go of pairs, or of vectors, that a pin still shows
abbrev pub loses_pairs : Steps
loses_pairs = vacuuming (VacuumsTo 0 port_bound unguarded port_bound)

abbrev pub loses_vectors : Steps
loses_vectors = vacuuming (VacuumsTo 0 port_bound port_bound unguarded)

-- a refused vacuum lists nothing, and lets go
pub record VacuumsAnyway (m : VersionManager) (b : PinBook) (ts rs : List ℕ) (r : Vacuumed) (ts' rs' : List ℕ) : Type 0 where
  pub answer : vacuum_told r.answer ≡ told (vacuum_verdict m b (length ts) (length rs)) (length (list_of (held_by m) b) ∷ [])
  pub tables : ts' ≡ after (vacuum_verdict m b (length ts) (length rs)) (over (field 0 (list_of (held_by m) b)) ts) ts
  pub rowsets : rs' ≡ after (vacuum_verdict m b (length ts) (length rs)) (over (field 1 (list_of (held_by m) b)) rs) rs
  pub manager : Manages r.manager (vacuumed (bound_of (held_by m) b) (held_by m))

abbrev pub lets_go_refused : Steps
lets_go_refused = vacuuming VacuumsAnyway

-- a report under the verdict v: it hands back what `left` makes of the manager and the number of bytes that landed
pub record ReportsBy (v : VersionManager → PinBook → ℕ → Verdict) (left : VersionManager → ℕ → State) (m : VersionManager) (b : PinBook) (n : ℕ) (r : Reported) : Type 0 where
  pub answer : report_told r.answer ≡ told (v m b n) ((left m n).epoch ∷ (left m n).manifest ∷ [])
  pub manager : HandsBack (v m b n) m (left m n) r.manager

-- it leaves the epoch
abbrev pub same_epoch : VersionManager → ℕ → State
same_epoch m n = with_epoch (former_by m) (current m) ((former_by m).manifest + n)

abbrev pub stays_at_epoch : Steps
stays_at_epoch = reporting (ReportsBy report_verdict same_epoch)

-- what the commit deleted goes on waiting
abbrev pub with_deletions : VersionManager → ℕ → State
with_deletions m n = with_pairs (reported_state m n) (held_by m).pairs

abbrev pub keeps_deletions : Steps
keeps_deletions = reporting (ReportsBy report_verdict with_deletions)

-- a pin on the current epoch does not keep a report from being accepted, and that epoch is gone
abbrev pub pinned_verdict : VersionManager → PinBook → ℕ → Verdict
pinned_verdict m b n = judged ((bad_manager m ⇒ BadManager) ∷ (bad_book (current m) b ⇒ BadPinBook) ∷ (leb m.append n ⇒ NotReportable) ∷ [])

abbrev pub loses_pinned : Steps
loses_pinned = reporting (ReportsBy pinned_verdict reported_state)

-- a checkpoint under the port's verdict: it writes what `written` makes of the state, and hands back what `left` makes of it
pub record ChecksBy (written : State → List ℕ) (left : State → State) (m : VersionManager) (out : List ℕ) (r : Checkpointed) (out' : List ℕ) : Type 0 where
  pub answer : checkpoint_told r.answer ≡ told (checkpoint_verdict m (length out)) (length (written (held_by m)) ∷ [])
  pub bytes : out' ≡ after (checkpoint_verdict m (length out)) (over (written (held_by m)) out) out
  pub manager : HandsBack (checkpoint_verdict m (length out)) m (left (held_by m)) r.manager

-- the state, with a manifest of so many bytes
abbrev pub with_length : (State → List ℕ) → State → State
with_length written s = with_epoch s s.epoch (length (written s))

-- it writes what waits, too
abbrev pub all_held : State → List ℕ
all_held s = written_of (next_of s) (sets (map unlocked s.tables) (map by_ids s.pairs) (map by_ids s.vectors))

abbrev pub writes_waiting : Steps
writes_waiting = checkpointing (ChecksBy all_held (with_length all_held))

-- its `N` is past the ids that are held, and not past those that were let go
abbrev pub past : List ℕ → ℕ
past [] = 0
past (n ∷ l) = max (n + 1) (past l)

abbrev pub past_held : State → List ℕ
past_held s = written_of (next (past (map (λ t. t.table) s.tables)) (past (field 1 s.pairs)) (past (field 2 s.vectors))) (sets_of s)

abbrev pub forgets_let_go : Steps
forgets_let_go = checkpointing (ChecksBy past_held (with_length past_held))

-- it leaves the manifest's length
abbrev pub keeps_length : Steps
keeps_length = checkpointing (ChecksBy rewritten_of (λ s. s))

-- it keeps what is shown now, and drops what older epochs show
abbrev pub only_now : State → State
only_now s = with_vectors (with_pairs s (keep (shown_by s.epoch) s.pairs)) (keep (shown_by s.epoch) s.vectors)

abbrev pub drops_older : Steps
drops_older = checkpointing (ChecksBy rewritten_of (λ s. with_length rewritten_of (only_now s)))

-- a reopen finds nothing in any manifest
abbrev pub opens_empty : Steps
opens_empty = reopening (λ src. ReopenSays [])

-- a reopen reads up to the first `E`
abbrev pub to_end : List (List ℕ) → List (List ℕ)
to_end [] = []
to_end (l ∷ ls) = l ∷ cond (same l (line_text end)) [] (to_end ls)

abbrev pub first_frame : List ℕ → List ℕ
first_frame src = joined (to_end (lines src))

abbrev pub reads_first : Steps
reads_first = reopening (λ src. ReopenSays (first_frame src))

-- a reopen reads no more bytes than it is lent: enough for every manifest that it has written, not for every one that it may find
abbrev pub reads_to_room : Steps
reads_to_room = reopening (λ src out. ReopenSays (take (length out) src) out)

-- a reopen counts an `E` before its newline: bytes after the last newline are taken for a line
abbrev pub closed_by : List ℕ → List ℕ
closed_by [] = []
closed_by (b ∷ rest) = newline ∷ []

abbrev pub closed : List ℕ → List ℕ
closed src = src ++ closed_by (rest_on [] src)

abbrev pub counts_early : Steps
counts_early = reopening (λ src. ReopenSays (closed src))

-- a reopen reads a torn line as what stands before its `!`, if anything does
abbrev pub untorn : List (List ℕ) → List (List ℕ)
untorn [] = []
untorn (l ∷ ls) = cond (is_torn l && ltb 1 (length l)) (take (length l - 1) l) l ∷ untorn ls

abbrev pub reads_torn : Steps
reads_torn = reopening (λ src. ReopenSays (joined (untorn (lines src))))

-- a reopen forgets which ids were used
abbrev pub forgotten : List ℕ → ℕ → Result State Refusal
forgotten src room = and_then (replay_of src) (λ s. opened_of room (with_next s 0 0 0))

abbrev pub forgets_ids : Steps
forgets_ids = reopening (λ src out. ReopenIs (forgotten src (length out)) out)

-- a reopen writes no `E`
abbrev pub ReopenEndsEarly : Result State Refusal → List ℕ → Reopened → List ℕ → Type 0
ReopenEndsEarly (Ok s) out r out' =
    (reopen_told r.answer ≡ told (Ok tt) (length (unended (rewritten_of s)) ∷ []))
    × Manages r.manager s
    × Keeps r.book []
    × (out' ≡ over (unended (rewritten_of s)) out)
ReopenEndsEarly (Err k) out r out' = ReopenIs (Err k) out r out'

abbrev pub rewrites_no_end : Steps
rewrites_no_end = reopening (λ src out. ReopenEndsEarly (reopen_of src (length out)) out)

-- a reopen is always refused: no buffer is long enough
abbrev pub refuses_reopen : Steps
refuses_reopen = reopening (λ src. ReopenIs (Err OutputTooShort))

-- a show of pairs gives the current epoch's, whichever is asked for
abbrev pub shows_current : Steps
shows_current = showing show_tables (λ m b e. ShowPairsSays m b (current m)) show_vectors

-- and one of vectors
abbrev pub shows_current_vectors : Steps
shows_current_vectors = showing show_tables show_pairs (λ m b e. ShowVectorsSays m b (current m))

-- a show of tables is always refused: no epoch is the current one
abbrev pub refuses_show : Steps
refuses_show = showing (λ m b e. TablesShown (held_by m) e (Err EpochNotPinned)) show_pairs show_vectors

abbrev pub Refuted : Steps → Type 0
Refuted S = Claim S → ⊥

pub record WrongRefuted : Type 0 where
  pub forgets_pairs : Refuted forgets_pairs
  pub keeps_sets : Refuted keeps_sets
  pub leaves_epoch : Refuted leaves_epoch
  pub judges_nothing : Refuted judges_nothing
  pub forgets_waiting : Refuted forgets_waiting
  pub appends_no_end : Refuted appends_no_end
  pub appends_no_mark : Refuted appends_no_mark
  pub leaves_part : Refuted leaves_part
  pub reuses_id : Refuted reuses_id
  pub creates_refused : Refuted creates_refused
  pub leaves_rowsets : Refuted leaves_rowsets
  pub leaves_vectors : Refuted leaves_vectors
  pub keeps_taken : Refuted keeps_taken
  pub appends_new_alone : Refuted appends_new_alone
  pub answers_next : Refuted answers_next
  pub counts_no_pin : Refuted counts_no_pin
  pub counts_refused : Refuted counts_refused
  pub keeps_pin : Refuted keeps_pin
  pub lists_nothing : Refuted lists_nothing
  pub keeps_listed : Refuted keeps_listed
  pub counts_one_more : Refuted counts_one_more
  pub keeps_own_epoch : Refuted keeps_own_epoch
  pub ignores_pins : Refuted ignores_pins
  pub loses_pairs : Refuted loses_pairs
  pub loses_vectors : Refuted loses_vectors
  pub lets_go_refused : Refuted lets_go_refused
  pub stays_at_epoch : Refuted stays_at_epoch
  pub keeps_deletions : Refuted keeps_deletions
  pub loses_pinned : Refuted loses_pinned
  pub writes_waiting : Refuted writes_waiting
  pub forgets_let_go : Refuted forgets_let_go
  pub keeps_length : Refuted keeps_length
  pub drops_older : Refuted drops_older
  pub opens_empty : Refuted opens_empty
  pub reads_first : Refuted reads_first
  pub reads_to_room : Refuted reads_to_room
  pub counts_early : Refuted counts_early
  pub reads_torn : Refuted reads_torn
  pub forgets_ids : Refuted forgets_ids
  pub rewrites_no_end : Refuted rewrites_no_end
  pub refuses_reopen : Refuted refuses_reopen
  pub shows_current : Refuted shows_current
  pub shows_current_vectors : Refuted shows_current_vectors
  pub refuses_show : Refuted refuses_show
