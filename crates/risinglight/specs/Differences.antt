-- Where the Rust and the port differ, each by name, with the smallest case of it. docs/DIFFERENCES.md has the entries. Assumes nothing.
use Rattle.std.specs.Prelude.{◌≡◌, Bool, true, false, not, ◌||◌, List, [], ◌∷◌, ◌++◌, map, ℕ, zero, suc, ◌<◌, eqb, ltb, length, Result, Ok, Err}
use Rattle.lists.specs.Keyed.{keep, all_of, any_of, has, sorted}
use Rattle.ids.specs.Limits.{most_tables, most_held, most_operations, longest_manifest}
use Rattle.ids.specs.declared.refusal.Refusal.{Refusal}
use Rattle.ids.specs.Results.{and_then}
use Rattle.ids.specs.declared.refusal.Refusal.TheVariants.{ManifestTooLong, Malformed, TableConflict, OverLimit, RowsetWithoutTable, TooManyOperations, TableNotLive, PairNotShown, VectorNotShown, IdNotDrawn, StillHeld, LeftBehind}
use Rattle.manifest.specs.Operations.{Operation, create_table, drop_table, add_rowset, delete_rowset, add_vector, delete_vector, next_ids, Line, begin, end, operation, well_line}
use Rattle.manifest.specs.Lines.{line_text}
use Rattle.manifest.specs.Split.{joined}
use Rattle.manifest.specs.Edits.{Edit, leaves, adds, deletes, Table, edits_of}
use Rattle.snapshot.specs.Entries.{Entry, by_ids}
use Rattle.version_state.specs.State.{State, start}
use Rattle.commit.specs.Commit.{commit_of}
use Rattle.vacuum.specs.LetGo.{vacuum_list, vacuumed}
use Rattle.replay.specs.Replay.{opened, carried, line_read, replay_of}
use Rattle.rewrite.specs.Rewritten.{rewritten_of}
use Rattle.plain_record.specs.Sets.{by_id, itself, edit}
use Rattle.risinglight.specs.Maps.{Outcome, fails, ok, and_then as then, is_empty, binding}
use Rattle.risinglight.specs.Snapshot.{snapshot, has_dv}
use Rattle.risinglight.specs.Manifest.{Value, Begin, End, entry, frame, Replaying, replaying, next, replay, read}
use Rattle.risinglight.specs.VersionManager.{Inner, inner, fresh, latest, commit_changes, pin, can_apply, find_vacuum}
use Rattle.risinglight.specs.Agreement.{deletions_in}
use Rattle.risinglight.specs.Storage.{through, pair_of, rowsets_to_open, Dv, dvs_to_open, Storage, bootstrap}

-- Manifests that others wrote: the port reads the same values as lines.
abbrev pub line_in : Value → Line
line_in Begin = begin
line_in End = end
line_in (entry o) = operation o

abbrev pub as_lines : List Value → List ℕ
as_lines file = joined (map (λ v. line_text (line_in v)) file)

abbrev pub port_opens : List Value → Result State Refusal
port_opens file = replay_of (as_lines file)

-- second-begin: a `B` comes while operations are buffered
abbrev pub second_begin_from : List Value → Replaying → Bool
second_begin_from [] s = false
second_begin_from (Begin ∷ l) s = not (is_empty s.buffered) || second_begin_from l (next Begin s)
second_begin_from (End ∷ l) s = second_begin_from l (next End s)
second_begin_from (entry o ∷ l) s = second_begin_from l (next (entry o) s)

abbrev pub has_second_begin : List Value → Bool
has_second_begin file = second_begin_from file (replaying [] [] false)

-- orphan-vector: at the end a vector stands without its rowset
abbrev pub has_orphan_vector : List Value → Bool
has_orphan_vector file =
    any_of (λ (x : Dv). not (has pair_of (x.table ∷ x.rowset ∷ []) (rowsets_to_open (replay file) []))) (dvs_to_open (replay file) [])

-- live-id: a create has the id of a table that is there. The Rust writes no ids: only the stand-in's manifests can have it
abbrev pub takes_live : Edit Table → List Table → Bool
takes_live leaves l = false
takes_live (adds t) l = has by_id (by_id t) l
takes_live (deletes k) l = false

abbrev pub live_id_from : List Operation → List Table → Bool
live_id_from [] l = false
live_id_from (o ∷ os) l = takes_live (edits_of o).tables l || live_id_from os (edit by_id (edits_of o).tables l)

abbrev pub takes_live_id : List Value → Bool
takes_live_id file = live_id_from (replay file) []

-- over-limits: at the end there are more tables, rowsets or vectors than the port holds
abbrev pub is_over_limits : List Value → Bool
is_over_limits file =
    let ops = replay file in
    ltb most_tables (length (through (λ o l. edit by_id (edits_of o).tables l) ops []))
    || (ltb most_held (length (rowsets_to_open ops [])) || ltb most_held (length (dvs_to_open ops [])))

-- last-id: a value is none of the port's lines, since an id is its width's largest
abbrev pub has_last_id : List Value → Bool
has_last_id file = not (all_of (λ v. well_line (line_in v)) file)

-- Names and operations of the cases.
abbrev pub name_a : List ℕ
name_a = 97 ∷ []

abbrev pub name_b : List ℕ
name_b = 98 ∷ []

abbrev pub create_a : Operation
create_a = create_table 0 7 name_a

-- the stores that are opened
abbrev pub shown_in : Outcome Storage → (Storage → Bool) → Bool
shown_in fails f = false
shown_in (ok s) f = f s

abbrev pub has_table_a : Storage → Bool
has_table_a s = has by_id (0 ∷ []) s.catalog

abbrev pub has_vector : Storage → Bool
has_vector s = has_dv 0 0 0 (latest s.version)

abbrev pub state_in : Result State Refusal → (State → Bool) → Bool
state_in (Err k) f = false
state_in (Ok s) f = f s

-- tables with one to n letters, as many as n
abbrev pub letters : ℕ → List ℕ
letters zero = []
letters (suc n) = 97 ∷ letters n

abbrev pub creates : ℕ → List Operation
creates zero = []
creates (suc n) = creates n ++ (create_table n 7 (letters (suc n)) ∷ [])

pub record OpeningDiffers : Type 0 where
  -- second-begin: the Rust has the table of a frame that never ended
  pub second_begin :
      let file = Begin ∷ entry create_a ∷ Begin ∷ End ∷ [] in
      (has_second_begin file ≡ true) × (shown_in (bootstrap file) has_table_a ≡ true) × (state_in (port_opens file) (λ s. is_empty s.tables) ≡ true)
  -- orphan-vector: the Rust has it, the port drops it
  pub orphan_vector :
      let file = frame (create_a ∷ add_vector 0 0 0 ∷ []) in
      (has_orphan_vector file ≡ true) × (shown_in (bootstrap file) has_vector ≡ true) × (state_in (port_opens file) (λ s. is_empty s.vectors) ≡ true)
  -- and without its table the Rust panics, where the port opens
  pub orphan_without_table :
      let file = frame (add_vector 0 0 0 ∷ []) in
      (has_orphan_vector file ≡ true) × (bootstrap file ≡ fails) × (state_in (port_opens file) (λ s. is_empty s.vectors) ≡ true)
  -- rowset-without-table: both refuse, the Rust by a panic
  pub rowset_without_table :
      let file = frame (add_rowset 5 0 ∷ []) in
      (bootstrap file ≡ fails) × (port_opens file ≡ Err RowsetWithoutTable)
  -- duplicate-in-manifest: a live name and an unknown table are refused by both
  pub live_name :
      let file = frame (create_a ∷ create_table 1 7 name_a ∷ []) in
      (bootstrap file ≡ fails) × (port_opens file ≡ Err (TableConflict 3))
  pub unknown_table :
      let file = frame (drop_table 3 ∷ []) in
      (bootstrap file ≡ fails) × (port_opens file ≡ Err (TableConflict 2))
  -- a live id the port alone refuses: the Rust's creates have none
  pub live_id :
      let file = frame (create_a ∷ create_table 0 7 name_b ∷ []) in
      (takes_live_id file ≡ true) × (shown_in (bootstrap file) has_table_a ≡ true) × (port_opens file ≡ Err (TableConflict 3))
  -- limits: 17 tables; more than 65,536 bytes; more than 600 operations in a frame
  pub tables :
      let file = frame (creates 17) in
      (is_over_limits file ≡ true) × (shown_in (bootstrap file) has_table_a ≡ true) × (port_opens file ≡ Err (OverLimit 19))
  pub bytes : (src : List ℕ) → longest_manifest < length src → replay_of src ≡ Err ManifestTooLong
  pub operations : (s : State) (m n : ℕ) (os : List Operation) (o : Operation) → length os ≡ most_operations
      → (line_read (operation o) (carried s (opened m os) n) ≡ Err (TooManyOperations n))
      × (next (entry o) (replaying [] os true) ≡ replaying [] (os ++ (o ∷ [])) true)
  -- last-id: the port's line is none, and the Rust's next id wraps
  pub last_id :
      let file = frame (create_a ∷ add_rowset 0 4294967295 ∷ []) in
      (has_last_id file ≡ true) × (shown_in (bootstrap file) (λ s. eqb s.next.rowset 0) ≡ true) × (port_opens file ≡ Err (Malformed 3))
  -- torn-tail: part of a value is an error; of the port's bytes what no newline ends does not count
  pub torn_tail : (then (read [] true) bootstrap ≡ fails) × (state_in (replay_of (66 ∷ [])) (λ s. is_empty s.tables) ≡ true)
  -- first-epoch: opening nothing is a commit
  pub first_epoch : (shown_in (bootstrap []) (λ s. eqb s.version.epoch 1) ≡ true) × (start.epoch ≡ 0)

-- A table with a rowset, and what a restart makes of it.
abbrev pub twice : List Value → Outcome Storage
twice file = then (bootstrap file) (λ s. bootstrap s.manifest)

abbrev pub port_twice : List Value → Result State Refusal
port_twice file = and_then (port_opens file) (λ s. replay_of (rewritten_of s))

-- two pairs that one commit deleted, the higher first; a vector that was deleted
abbrev pub deleted_pairs : Inner
deleted_pairs = inner [] ((0 ∷ 0 ∷ []) ∷ (0 ∷ 1 ∷ []) ∷ []) ((0 ∷ 0 ∷ []) ∷ []) [] (binding 1 ((0 ∷ 1 ∷ []) ∷ (0 ∷ 0 ∷ []) ∷ []) ∷ []) 1

abbrev pub gone : List ℕ → Entry
gone k = record { ids = k; added = 1; deleted = 1 }

abbrev pub held_pairs : State
held_pairs =
    record { epoch = 1; next_table = 1; next_rowset = 2; next_vector = 1; tables = []; pairs = gone (0 ∷ 0 ∷ []) ∷ gone (0 ∷ 1 ∷ []) ∷ []; vectors = gone (0 ∷ 0 ∷ 0 ∷ []) ∷ []; manifest = 0 }

-- vacuum-order: what the Rust lists does not come by epoch, table, rowset
abbrev pub lists_unordered : Inner → Bool
lists_unordered m = not (sorted itself (deletions_in (keep (can_apply m) m.rowset_deletion_to_apply)))

-- next-ids: a start has forgotten ids that the port still keeps
abbrev pub has_forgotten_ids : Storage → State → Bool
has_forgotten_ids s m = ltb s.next.rowset m.next_rowset || ltb s.next.dv m.next_vector

pub record ListsDiffer : Type 0 where
  -- next-ids: after two starts the Rust draws 0 again, and the port 1
  pub ids_forgotten :
      let file = frame (create_a ∷ add_rowset 0 0 ∷ delete_rowset 0 0 ∷ []) in
      (shown_in (twice file) (λ s. state_in (port_twice file) (has_forgotten_ids s)) ≡ true)
      × (shown_in (twice file) (λ s. eqb s.next.rowset 0) ≡ true)
      × (state_in (port_twice file) (λ s. eqb s.next_rowset 1) ≡ true)
  -- vacuum-order
  pub vacuum_order :
      (lists_unordered deleted_pairs ≡ true)
      × ((find_vacuum deleted_pairs).deletions ≡ (0 ∷ 1 ∷ []) ∷ (0 ∷ 0 ∷ []) ∷ [])
      × (map by_ids (vacuum_list 1 held_pairs) ≡ (0 ∷ 0 ∷ []) ∷ (0 ∷ 1 ∷ []) ∷ [])
  -- vectors that are let go stay in the Rust's pool
  pub pool_of_vectors : ((find_vacuum deleted_pairs).left.dvs ≡ (0 ∷ 0 ∷ []) ∷ []) × ((vacuumed 1 held_pairs).vectors ≡ [])
  -- rewritten: the Rust writes rowsets first, and every create and drop there ever was
  pub rewritten :
      let file = frame (create_a ∷ create_table 1 7 name_b ∷ add_rowset 0 0 ∷ drop_table 1 ∷ []) in
      (then (bootstrap file) (λ s. ok s.manifest) ≡ ok (frame (add_rowset 0 0 ∷ create_a ∷ create_table 1 7 name_b ∷ drop_table 1 ∷ [])))
      × (and_then (port_opens file) (λ s. Ok (rewritten_of s)) ≡ Ok (joined (line_text begin ∷ line_text (operation (next_ids 2 1 0)) ∷ line_text (operation create_a) ∷ line_text (operation (add_rowset 0 0)) ∷ line_text end ∷ [])))

-- What the port refuses, and the Rust takes or panics at.
abbrev pub commits : Outcome Inner → Bool
commits fails = false
commits (ok m) = true

-- a table with the rowset 0, on both sides, at epoch 1
abbrev pub one_rowset : Inner
one_rowset = inner (binding 1 (snapshot (binding 0 (0 ∷ []) ∷ []) []) ∷ []) ((0 ∷ 0 ∷ []) ∷ []) [] [] [] 1

abbrev pub one_held : State
one_held =
    record {
      epoch = 1;
      next_table = 1;
      next_rowset = 2;
      next_vector = 2;
      tables = record { table = 0; shape = 7; name = name_a; locked = false } ∷ [];
      pairs = record { ids = 0 ∷ 0 ∷ []; added = 1; deleted = 0 } ∷ [];
      vectors = [];
      manifest = 0;
    }

abbrev pub port_commits : List Operation → Result State Refusal
port_commits os = commit_of one_held (length os) os 1000

pub record CommitsDiffer : Type 0 where
  -- absent-rowset: not there beside another; and where the table has none, the Rust panics
  pub absent_rowset : (commits (commit_changes (delete_rowset 0 9 ∷ []) one_rowset) ≡ true) × (port_commits (delete_rowset 0 9 ∷ []) ≡ Err (PairNotShown 0))
  pub absent_table : (commits (commit_changes (delete_rowset 1 9 ∷ []) one_rowset) ≡ false) × (port_commits (delete_rowset 1 9 ∷ []) ≡ Err (PairNotShown 0))
  -- absent-vector
  pub absent_vector : (commits (commit_changes (delete_vector 0 0 5 ∷ []) one_rowset) ≡ false) × (port_commits (delete_vector 0 0 5 ∷ []) ≡ Err (VectorNotShown 0))
  -- not-drawn
  pub not_drawn : (commits (commit_changes (add_rowset 0 9 ∷ []) one_rowset) ≡ true) × (port_commits (add_rowset 0 9 ∷ []) ≡ Err (IdNotDrawn 0))
  -- waiting-again: what is deleted is held until a vacuum
  pub waiting_again :
      (commits (commit_changes (delete_rowset 0 0 ∷ add_rowset 0 0 ∷ []) one_rowset) ≡ true)
      × (port_commits (delete_rowset 0 0 ∷ add_rowset 0 0 ∷ []) ≡ Err (StillHeld 1))
  -- left-behind
  pub left_behind : (commits (commit_changes (drop_table 0 ∷ []) one_rowset) ≡ true) × (port_commits (drop_table 0 ∷ []) ≡ Err LeftBehind)
  -- unknown-table
  pub unknown_table : (commits (commit_changes (add_rowset 5 0 ∷ []) one_rowset) ≡ true) × (port_commits (add_rowset 5 0 ∷ []) ≡ Err (TableNotLive 0))
  -- pin-at-0
  pub pin_at_zero : pin fresh ≡ fails

pub record Differences : Type 0 where
  pub opening : OpeningDiffers
  pub lists : ListsDiffer
  pub commits : CommitsDiffer
