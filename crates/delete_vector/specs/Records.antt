-- A vector's file: what is written of rows, and what is read of bytes. Assumes nothing.
use Rattle.std.specs.Prelude.{ℕ, zero, suc, ◌+◌, Bool, true, false, cond, ◌&&◌, List, [], ◌∷◌, ◌++◌, length, take, drop, ◌==◌, nat_lt}
use Rattle.delete_vector.specs.Encoding.{value_of, uint_field, delimited}

-- row numbers are below this
abbrev pub row_limit : ℕ
row_limit = 4294967296

-- a record, `DeleteRecord { uint32 row_id = 1 }`: a length byte, then the tag byte and the row, both left out for row 0
unfoldable pub record_of : ℕ → List ℕ
record_of row = delimited (uint_field 1 row)

-- the file of rows, in the order given, repeats kept
abbrev pub records_of : List ℕ → List ℕ
records_of [] = []
records_of (row ∷ rows) = record_of row ++ records_of rows

-- s starts with p
abbrev pub starts_with : List ℕ → List ℕ → Bool
starts_with [] s = true
starts_with (x ∷ p) [] = false
starts_with (x ∷ p) (y ∷ s) = y == x && starts_with p s

-- the row that the first record of s has room for, going by its length byte
abbrev pub row_in : List ℕ → ℕ
row_in [] = 0
row_in (n ∷ s) = value_of (drop 1 (take n s))

-- the first record of s is what the writer makes of that row
unfoldable pub is_record : List ℕ → Bool
is_record s = nat_lt (row_in s) row_limit && starts_with (record_of (row_in s)) s

-- its size
unfoldable pub size_in : List ℕ → ℕ
size_in s = length (record_of (row_in s))

-- what a file holds: the rows of its records, or the place of the first bad one
pub data Records : Type 0 where
  Rows : List ℕ → Records
  Bad : ℕ → Records

abbrev pub and_row : ℕ → Records → Records
and_row row (Rows rows) = Rows (row ∷ rows)
and_row row (Bad place) = Bad place

abbrev pub no_bytes : List ℕ → Bool
no_bytes [] = true
no_bytes (b ∷ s) = false

-- f bounds the count of records, the Bool says whether s is empty, and s stands at `at` of the file
unfoldable pub records_by : ℕ → Bool → List ℕ → ℕ → Records
records_by zero empty s at = Rows []
records_by (suc f) true s at = Rows []
records_by (suc f) false s at =
    cond (is_record s)
    (and_row (row_in s) (records_by f (no_bytes (drop (size_in s) s)) (drop (size_in s) s) (at + size_in s)))
    (Bad at)

unfoldable pub records_at : List ℕ → ℕ → Records
records_at s at = records_by (length s) (no_bytes s) s at

abbrev pub records_in : List ℕ → Records
records_in file = records_at file 0

abbrev pub is_bad : Records → Bool
is_bad (Rows rows) = false
is_bad (Bad place) = true

abbrev pub bad_place : Records → ℕ
bad_place (Rows rows) = 0
bad_place (Bad place) = place

abbrev pub rows_in : Records → List ℕ
rows_in (Rows rows) = rows
rows_in (Bad place) = []
