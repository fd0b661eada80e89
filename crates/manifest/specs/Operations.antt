-- The operations of a manifest and its lines, as a reader believes them. Assumes nothing.
use Rattle.std.specs.Prelude.{Option, Some, None, ℕ, Bool, true, false, ◌&&◌, List, map, leb, take}
use Rattle.ids.specs.Ids.{largest32, largest64, is_id32, is_id64}
use Rattle.ids.specs.Names.{name_of}
use Rattle.text.specs.Name.{is_name}
use Rattle.manifest.specs.declared.operation.EpochOp.{EpochOp}
use Rattle.manifest.specs.declared.operation.EpochOp.TheVariants.{CreateTable, DropTable, AddRowSet, DeleteRowSet, AddDV, DeleteDV, NextIds}
use Rattle.manifest.specs.declared.operation.Batch.{Batch}
use Rattle.manifest.specs.declared.operation.ManifestOperation.{ManifestOperation}
use Rattle.manifest.specs.declared.operation.ManifestOperation.TheVariants.{Begin, End, Torn, Epoch}

-- T, X, A, D, V, W, N
pub data Operation : Type 0 where
  -- table, shape, name
  create_table : ℕ → ℕ → List ℕ → Operation
  drop_table : ℕ → Operation
  -- table, rowset
  add_rowset : ℕ → ℕ → Operation
  delete_rowset : ℕ → ℕ → Operation
  -- table, rowset, vector
  add_vector : ℕ → ℕ → ℕ → Operation
  delete_vector : ℕ → ℕ → ℕ → Operation
  next_ids : ℕ → ℕ → ℕ → Operation

-- B, E, an operation; a line that was torn off; or no line of a manifest
pub data Line : Type 0 where
  begin : Line
  end : Line
  torn : Line
  operation : Operation → Line
  bad : Line

-- an operation is well formed: each id below its width's largest value, a shape of 32 bits, a name; next ids go up to the largest value
abbrev pub well_formed : Operation → Bool
well_formed (create_table t h n) = is_id32 t && (leb h largest32 && is_name n)
well_formed (drop_table t) = is_id32 t
well_formed (add_rowset t r) = is_id32 t && is_id32 r
well_formed (delete_rowset t r) = is_id32 t && is_id32 r
well_formed (add_vector t r v) = is_id32 t && (is_id32 r && is_id64 v)
well_formed (delete_vector t r v) = is_id32 t && (is_id32 r && is_id64 v)
well_formed (next_ids t r v) = leb t largest32 && (leb r largest32 && leb v largest64)

-- a line that a manifest may have
abbrev pub well_line : Line → Bool
well_line begin = true
well_line end = true
well_line torn = true
well_line (operation o) = well_formed o
well_line bad = false

-- the operation that the code's value stands for
abbrev pub operation_of : EpochOp → Operation
operation_of (CreateTable t h n) = create_table t.0 h (name_of n)
operation_of (DropTable t) = drop_table t.0
operation_of (AddRowSet t r) = add_rowset t.0 r.0
operation_of (DeleteRowSet t r) = delete_rowset t.0 r.0
operation_of (AddDV t r v) = add_vector t.0 r.0 v.0
operation_of (DeleteDV t r v) = delete_vector t.0 r.0 v.0
operation_of (NextIds t r v) = next_ids t.0 r.0 v.0

abbrev pub batch_of : Batch → List Operation
batch_of b = map operation_of (take b.count b.changes)

abbrev pub said_of : ManifestOperation → Line
said_of Begin = begin
said_of End = end
said_of Torn = torn
said_of (Epoch o) = operation (operation_of o)

-- what the parser's answer says
abbrev pub line_said : Option ManifestOperation → Line
line_said (Some m) = said_of m
line_said None = bad
