-- Delete vectors: what the port writes, keeps in memory and clears is what the Rust does, and where their readers differ. Assumes nothing.
use Rattle.std.specs.Prelude.{◌≡◌, Bool, true, cond, not, List, [], ◌∷◌, map, ℕ, ◌<◌, ltb, eqb, length, Err}
use Rattle.lists.specs.Keyed.{ascending}
use Rattle.ids.specs.declared.refusal.Refusal.TheVariants.{WrongCount}
use Rattle.ids.specs.Verdicts.{judged}
use Rattle.delete_vector.specs.Records.{records_of, Rows, Bad, records_in, is_bad}
use Rattle.delete_vector.specs.Memory.{row_key, is_in, in_memory}
use Rattle.delete_vector.specs.Mask.{masked}
use Rattle.delete_vector.specs.Laws.{are_rows}
use Rattle.delete_vector.specs.Says.{most_records, read_rules}
use Rattle.risinglight.specs.Maps.{fails, ok, and_then}
use Rattle.risinglight.specs.DeleteVector.{wire_of, tag_of, decode_key, skip_group, skip_field, merge_next, merged, merge_loop, decode_length_delimited, decode_all, write_all, new, «open», apply_to}

-- the Rust opens the file, and the port does not
pub record ReaderDiffers (file : List ℕ) : Type 0 where
  pub deletes : List ℕ
  pub opens : «open» file ≡ ok deletes
  pub place : ℕ
  pub refuses : records_in file ≡ Bad place

-- an example of it, with one row
pub record RowOf (file : List ℕ) (row : ℕ) : Type 0 where
  pub opens : «open» file ≡ ok (row ∷ [])
  pub refuses : records_in file ≡ Bad 0

pub record NoRow (file : List ℕ) : Type 0 where
  pub fails_too : «open» file ≡ fails
  pub refuses : records_in file ≡ Bad 0

-- bytes that no writer of the two makes
pub record Examples : Type 0 where
  -- row 0 written out
  pub zero_row : RowOf (0x02 ∷ 0x08 ∷ 0x00 ∷ []) 0
  -- a varint longer than needed, also at the widest row
  pub long_varint : RowOf (0x03 ∷ 0x08 ∷ 0x81 ∷ 0x00 ∷ []) 1
  pub long_widest : RowOf (0x07 ∷ 0x08 ∷ 0xff ∷ 0xff ∷ 0xff ∷ 0xff ∷ 0x8f ∷ 0x00 ∷ []) 4294967295
  -- a value above 32 bits, cut to its low ones
  pub wide : RowOf (0x06 ∷ 0x08 ∷ 0xff ∷ 0xff ∷ 0xff ∷ 0xff ∷ 0x1f ∷ []) 4294967295
  pub wide_zero : RowOf (0x06 ∷ 0x08 ∷ 0x80 ∷ 0x80 ∷ 0x80 ∷ 0x80 ∷ 0x10 ∷ []) 0
  -- an unknown field after the row, and alone
  pub unknown_after : RowOf (0x04 ∷ 0x08 ∷ 0x01 ∷ 0x10 ∷ 0x05 ∷ []) 1
  pub unknown_alone : RowOf (0x02 ∷ 0x10 ∷ 0x05 ∷ []) 0
  -- the row twice: the last counts
  pub twice : RowOf (0x04 ∷ 0x08 ∷ 0x01 ∷ 0x08 ∷ 0x02 ∷ []) 2
  -- a key of two bytes, and a length of two
  pub long_key : RowOf (0x03 ∷ 0x88 ∷ 0x00 ∷ 0x01 ∷ []) 1
  pub long_length : RowOf (0x82 ∷ 0x00 ∷ 0x08 ∷ 0x01 ∷ []) 1
  pub long_empty : RowOf (0x80 ∷ 0x00 ∷ []) 0
  -- an unfinished varint, a body past the file's end, another wire type for the row, field number 0
  pub unfinished : NoRow (0x02 ∷ 0x08 ∷ 0x80 ∷ [])
  pub past_end : NoRow (0x03 ∷ 0x08 ∷ 0x01 ∷ [])
  pub other_wire : NoRow (0x05 ∷ 0x0d ∷ 0x01 ∷ 0x00 ∷ 0x00 ∷ 0x00 ∷ [])
  pub field_zero : NoRow (0x02 ∷ 0x00 ∷ 0x01 ∷ [])

-- a byte of the port's mask as a bit
abbrev pub is_set : ℕ → Bool
is_set byte = not (eqb byte 0)

-- each loop of the reader is one turn of it and itself again, without a bound
pub record Loops : Type 0 where
  pub groups : (depth tag : ℕ) (buf : List ℕ) → skip_group (skip_field depth) tag buf ≡ and_then (decode_key buf) (λ k.
      cond (eqb (wire_of k) 4)
      (cond (eqb (tag_of k) tag) (ok k.left) fails)
      (and_then (skip_field depth (wire_of k) (tag_of k) k.left) (λ rest. skip_group (skip_field depth) tag rest)))
  pub fields : (limit row : ℕ) (buf : List ℕ) → merge_loop limit row buf ≡
      cond (ltb limit (length buf)) (and_then (merge_next row buf) (λ r. merge_loop limit r.value r.left)) (merged limit row buf)
  pub records : (b : ℕ) (buf : List ℕ) → decode_all (b ∷ buf) ≡
      and_then (decode_length_delimited (b ∷ buf)) (λ r. and_then (decode_all r.left) (λ rows. ok (r.value ∷ rows)))

pub record DeleteVectorLaws : Type 0 where
  pub loops : Loops
  pub writes : (rows : List ℕ) → are_rows rows ≡ true → write_all rows ≡ records_of rows
  -- what the port's reader accepts the Rust opens, with the same rows in memory
  pub opens : (file rows : List ℕ) → records_in file ≡ Rows rows → «open» file ≡ ok (in_memory rows)
  -- what the Rust does not open the port's reader refuses
  pub refuses : (file : List ℕ) → «open» file ≡ fails → is_bad (records_in file) ≡ true
  -- the converses fail: for bytes that the writer does not make
  pub examples : Examples
  -- and for more than 4,096 records, which the port refuses whatever is lent
  pub over : (rows out : List ℕ) → are_rows rows ≡ true → most_records < length rows
      → (judged (read_rules (records_of rows) out) ≡ Err WrongCount) × («open» (records_of rows) ≡ ok (in_memory rows))
  -- where the readers differ, the bytes are none that the writer makes
  pub never_written : (file rows : List ℕ) → ReaderDiffers file → are_rows rows ≡ true → file ≡ records_of rows → ⊥
  -- and of those that it does not make, they differ on all that the Rust opens
  pub differs : (file deletes : List ℕ) → «open» file ≡ ok deletes → ((rows : List ℕ) → are_rows rows ≡ true → file ≡ records_of rows → ⊥) → ReaderDiffers file
  pub memory : (rows : List ℕ) → new rows ≡ in_memory rows
  -- A mask may go past the last row of 32 bits. There the Rust compares with rows from 0 on again, but has none left: those below
  -- the offset it has skipped, and the others it has cleared
  pub mask : (rows bytes : List ℕ) (offset : ℕ) → are_rows rows ≡ true → ascending row_key rows ≡ true
      → apply_to rows (map is_set bytes) offset ≡ map is_set (masked (is_in rows) offset bytes)
  -- of rows in any order, which the port masks as they are
  pub mask_new : (rows bytes : List ℕ) (offset : ℕ) → are_rows rows ≡ true → apply_to (new rows) (map is_set bytes) offset ≡ map is_set (masked (is_in rows) offset bytes)
