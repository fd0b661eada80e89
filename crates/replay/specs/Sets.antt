-- The state that a replay's lists stand for. Internal: the contract of a replay is in `Replay`. Assumes nothing.
use Rattle.std.specs.Prelude.{cond, List, [], ◌∷◌, map, ℕ, ◌+◌, ◌≤◌, length, Result, Ok, Err}
use Rattle.std.specs.Result.{result_and}
use Rattle.ids.specs.Limits.{most_tables, most_held, most_operations}
use Rattle.ids.specs.Names.{name_of}
use Rattle.ids.specs.Results.{and_then}
use Rattle.ids.specs.declared.refusal.Refusal.{Refusal}
use Rattle.ids.specs.declared.refusal.Refusal.TheVariants.{TableConflict}
use Rattle.manifest.specs.Operations.{Operation}
use Rattle.snapshot.specs.Entries.{Entry, added_at, by_ids}
use Rattle.snapshot.specs.Tables.{TableEntry, created}
use Rattle.snapshot.specs.Views.{pair_ids, vector_ids}
use Rattle.snapshot.specs.declared.rowsets.RowsetIds.{RowsetIds}
use Rattle.snapshot.specs.declared.vectors.VectorIds.{VectorIds}
use Rattle.version_state.specs.State.{State}
use Rattle.operations.specs.Effect.{edited, edited_by, raise}
use Rattle.replay.specs.declared.sets.LiveTable.{LiveTable}
use Rattle.replay.specs.declared.sets.Sets.{Sets}
use Rattle.replay.specs.Replay.{reopened, conflicts}

abbrev pub table_entry : LiveTable → TableEntry
table_entry x = created x.table.0 x.shape (name_of x.name)

abbrev pub rowset_entry : RowsetIds → Entry
rowset_entry x = added_at reopened (pair_ids x)

abbrev pub vector_entry : VectorIds → Entry
vector_entry x = added_at reopened (vector_ids x)

abbrev pub state_in : Sets → State
state_in l =
    record {
      epoch = reopened;
      next_table = l.next.table.0;
      next_rowset = l.next.rowset.0;
      next_vector = l.next.vector.0;
      tables = map table_entry l.tables;
      pairs = map rowset_entry l.rowsets;
      vectors = map vector_entry l.vectors;
      manifest = 0;
    }

-- each list has room for n entries more
pub record RoomFor (n : ℕ) (l : Sets) : Type 0 where
  pub tables : length l.tables + n ≤ most_tables + most_operations
  pub rowsets : length l.rowsets + n ≤ most_held + most_operations
  pub vectors : length l.vectors + n ≤ most_held + most_operations

-- an operation whose deletions take out at once what they delete
abbrev pub lightly : Operation → State → State
lightly o s = raise o (edited_by (edited by_ids (added_at reopened)) o s)

abbrev pub one_of : ℕ → Operation → State → Result State Refusal
one_of n o s = cond (conflicts o s) (Err (TableConflict n)) (Ok (lightly o s))

-- the operations of a frame, each of which takes out at once what it deletes
abbrev pub framed_lightly : ℕ → List Operation → State → Result State Refusal
framed_lightly n [] s = Ok s
framed_lightly n (o ∷ os) s = and_then (one_of n o s) (framed_lightly (n + 1) os)

-- what is left: the refusal, or the state that the sets stand for
abbrev pub left_by : Result Unit Refusal → Sets → Result State Refusal
left_by r l = result_and r (Ok (state_in l))
