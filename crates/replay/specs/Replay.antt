-- Replay: from the bytes of a manifest to the state at its end, line by line as the specification reads them. Assumes nothing.
use Rattle.std.specs.Prelude.{◌≡◌, Bool, false, cond, not, ◌||◌, List, [], ◌∷◌, ◌++◌, ℕ, ◌+◌, leb, ltb, length, Result, Ok, Err}
use Rattle.lists.specs.Keyed.{keep, all_of, has}
use Rattle.ids.specs.declared.refusal.Refusal.{Refusal}
use Rattle.ids.specs.declared.refusal.Refusal.TheVariants.{ManifestTooLong, Malformed, TableConflict, OverLimit, RowsetWithoutTable, TooManyOperations}
use Rattle.ids.specs.Results.{and_then}
use Rattle.manifest.specs.Operations.{Operation, Line, begin, end, torn, operation, bad}
use Rattle.manifest.specs.Edits.{Edit, leaves, adds, deletes, Table, edits_of}
use Rattle.manifest.specs.Lines.{line_of}
use Rattle.manifest.specs.Split.{lines}
use Rattle.ids.specs.Limits.{most_operations, most_tables, most_held, longest_manifest}
use Rattle.snapshot.specs.Entries.{Entry, waits}
use Rattle.snapshot.specs.Tables.{TableEntry, by_table, name_taken}
use Rattle.version_state.specs.State.{State, start, with_pairs, with_vectors, with_epoch, Hands}
use Rattle.version_state.specs.Sound.{has_table, has_rowset}
use Rattle.operations.specs.Effect.{applied}
use Rattle.version_state.specs.declared.VersionManagerInner.{VersionManagerInner}

-- no frame is open, or one is: the number of the line after its `B`, and the operations since then, a line each
pub data Frame : Type 0 where
  none : Frame
  opened : ℕ → List Operation → Frame

-- what is carried from line to line: the state, the open frame, and the number of the line to come
pub record Carried : Type 0 where
  pub state : State
  pub frame : Frame
  pub line : ℕ

abbrev pub carried : State → Frame → ℕ → Carried
carried s f n = record { state = s; frame = f; line = n }

-- a reopened manager is at epoch 1, and everything in it was added then
abbrev pub reopened : ℕ
reopened = 1

-- lines count from 1
abbrev pub at_start : Carried
at_start = carried (with_epoch start reopened 0) none 1

-- 3: a `T` with a live id or name, an `X` of a table that is not live
abbrev pub clashes : Edit Table → List TableEntry → Bool
clashes leaves l = false
clashes (adds t) l = has by_table (t.id ∷ []) l || name_taken t.name l
clashes (deletes k) l = not (has by_table k l)

abbrev pub conflicts : Operation → State → Bool
conflicts o s = clashes (edits_of o).tables s.tables

-- the operations of a frame in order, the first on line n
abbrev pub framed : ℕ → List Operation → State → Result State Refusal
framed n [] s = Ok s
framed n (o ∷ os) s = cond (conflicts o s) (Err (TableConflict n)) (framed (n + 1) os (applied reopened o s))

abbrev pub stands : Entry → Bool
stands x = not (waits x)

-- what was deleted is taken out: no epoch before this one can be pinned
abbrev pub settled : State → State
settled s = with_vectors (with_pairs s (keep stands s.pairs)) (keep stands s.vectors)

-- 4
abbrev pub over_limit : State → Bool
over_limit s = ltb most_tables (length s.tables) || (ltb most_held (length s.pairs) || ltb most_held (length s.vectors))

-- what stands after an `E` on line n, where a frame is
abbrev pub limited : ℕ → State → Result State Refusal
limited n s = cond (over_limit s) (Err (OverLimit n)) (Ok s)

abbrev pub ended : ℕ → Frame → State → Result State Refusal
ended n none s = Ok s
ended n (opened m os) s = and_then (framed m os s) (λ u. limited n (settled u))

-- an operation on line n: outside a frame it is ignored
abbrev pub noted : ℕ → Operation → Frame → Result Frame Refusal
noted n o none = Ok none
noted n o (opened m os) = cond (leb most_operations (length os)) (Err (TooManyOperations n)) (Ok (opened m (os ++ (o ∷ []))))

-- one line; a `B` drops what an open frame held, and so does a torn line, which opens none
abbrev pub line_read : Line → Carried → Result Carried Refusal
line_read begin c = Ok (carried c.state (opened (c.line + 1) []) (c.line + 1))
line_read end c = and_then (ended c.line c.frame c.state) (λ s. Ok (carried s none (c.line + 1)))
line_read torn c = Ok (carried c.state none (c.line + 1))
line_read (operation o) c = and_then (noted c.line o c.frame) (λ f. Ok (carried c.state f (c.line + 1)))
line_read bad c = Err (Malformed c.line)

-- one line after another
abbrev pub lines_read : List (List ℕ) → Carried → Result Carried Refusal
lines_read [] c = Ok c
lines_read (l ∷ ls) c = and_then (line_read (line_of l) c) (lines_read ls)

-- 5: a live rowset without its table
abbrev pub tableless : State → Bool
tableless s = not (all_of (has_table s.tables) s.pairs)

-- vectors whose rowset is not live are dropped
abbrev pub without_orphans : State → State
without_orphans s = with_vectors s (keep (has_rowset s.pairs) s.vectors)

-- at the end; a frame still open is dropped
abbrev pub finished : State → Result State Refusal
finished s = cond (tableless s) (Err RowsetWithoutTable) (Ok (without_orphans s))

-- the state at the end of a manifest's complete lines
abbrev pub lines_replayed : List (List ℕ) → Result State Refusal
lines_replayed ls = and_then (lines_read ls at_start) (λ c. finished c.state)

abbrev pub replay_of : List ℕ → Result State Refusal
replay_of s = cond (ltb longest_manifest (length s)) (Err ManifestTooLong) (lines_replayed (lines s))

-- refused, or what is handed out stands for the state
unfoldable pub ReplayIs : Result State Refusal → Result VersionManagerInner Refusal → Type 0
ReplayIs (Err k) r = r ≡ Err k
ReplayIs (Ok s) r = (m : VersionManagerInner) × (r ≡ Ok m) × Hands m s
