-- The calls of a list, each with its arguments and what the disk does after it, and what each is to the record. Assumes nothing.
use Rattle.std.specs.Prelude.{Bool, List, ℕ, length}
use Rattle.ids.specs.declared.TableNo.{TableNo}
use Rattle.manifest.specs.Operations.{Operation}
use Rattle.transaction.specs.declared.Handles.{Handles}
use Rattle.table.specs.Made.{create_operations, drop_operations, compact_operations}
use Rattle.compaction.specs.New.{NewRowset, new_of}
use Rattle.plain_record.specs.Sets.{Sets}

-- Show and the other calls that only read are in no list: they settle nothing.
pub data Call : Type 0 where
  draw_rowset : Call
  draw_vector : Call
  -- the handles, and the lent slices for rowsets, file lengths, row counts, files and rows
  group : Handles → List ℕ → List ℕ → List ℕ → List ℕ → List ℕ → Call
  lock : TableNo → Call
  unlock : TableNo → Call
  -- the operations, the lent buffer, and how many of the append's last bytes are missing where the next accepted call is a reopen
  commit : List Operation → List ℕ → ℕ → Call
  -- the shape and the name; the table; the table, the new rowset and the taken ones. What follows is as for a commit
  create : ℕ → List ℕ → List ℕ → ℕ → Call
  drop : ℕ → List ℕ → ℕ → Call
  compact : ℕ → NewRowset → List ℕ → List ℕ → ℕ → Call
  pin : Call
  unpin : ℕ → Call
  -- the lent slices for tables and rowsets
  vacuum : List ℕ → List ℕ → Call
  -- how many bytes of the last append landed
  report : ℕ → Call
  -- the lent buffer, and whether the old manifest still stands where the next accepted call is a reopen
  checkpoint : List ℕ → Bool → Call
  reopen : List ℕ → Bool → Call

-- what a call is to the record
pub data Kind : Type 0 where
  -- it changes nothing there
  quiet : Kind
  -- it counts as a commit: its operations, made from the id that it answers and the last sets, and how many of the append's last bytes are missing
  as_commit : (ℕ → Sets → List Operation) → ℕ → Kind
  as_pin : Kind
  -- the epoch
  as_unpin : ℕ → Kind
  as_vacuum : Kind
  -- how many bytes landed
  as_report : ℕ → Kind
  -- how many bytes are lent
  as_checkpoint : ℕ → Kind
  as_reopen : ℕ → Kind

abbrev pub kind_of : Call → Kind
kind_of draw_rowset = quiet
kind_of draw_vector = quiet
kind_of (group h rs ls cs fs ms) = quiet
kind_of (lock n) = quiet
kind_of (unlock n) = quiet
kind_of (commit os out missing) = as_commit (λ id s. os) missing
kind_of (create shape name out missing) = as_commit (λ id s. create_operations id shape name) missing
kind_of (drop t out missing) = as_commit (λ id s. drop_operations t s.pairs s.vectors) missing
kind_of (compact t new taken out missing) = as_commit (λ id s. compact_operations t (new_of new) taken s.vectors) missing
kind_of pin = as_pin
kind_of (unpin e) = as_unpin e
kind_of (vacuum ts rs) = as_vacuum
kind_of (report landed) = as_report landed
kind_of (checkpoint out stale) = as_checkpoint (length out)
kind_of (reopen out stale) = as_reopen (length out)
