-- What the definitions say together: the reader and the writer are each other's inverse, and in memory is the same set. Assumes nothing.
use Rattle.std.specs.Prelude.{◌≡◌, ℕ, ◌+◌, ◌*◌, ◌^◌, ◌<◌, ◌≤◌, Bool, true, List, ◌++◌, length, ◌≢◌, nat_lt}
use Rattle.lists.specs.Keyed.{all_of, ascending}
use Rattle.delete_vector.specs.Encoding.{varint}
use Rattle.delete_vector.specs.Sizes.{significant_bits, varint_size, record_size}
use Rattle.delete_vector.specs.Records.{row_limit, record_of, records_of, Rows, Bad, records_in}
use Rattle.delete_vector.specs.Memory.{row_key, is_in, in_memory}

-- each is a row number
abbrev pub are_rows : List ℕ → Bool
are_rows rows = all_of (λ row. nat_lt row row_limit) rows

-- the record at the place is bad: the file is records up to there, and no row's record stands there
pub record BadFrom (file : List ℕ) (place : ℕ) : Type 0 where
  pub rows : List ℕ
  pub rest : List ℕ
  pub split : file ≡ records_of rows ++ rest
  pub before : are_rows rows ≡ true
  pub here : place ≡ length (records_of rows)
  pub more : 0 < length rest
  pub none : (row : ℕ) (t : List ℕ) → row < row_limit → rest ≢ record_of row ++ t

pub record Laws : Type 0 where
  -- the significant bits are those that a number needs
  pub bits_counted : (n : ℕ) → (n < 2 ^ significant_bits n) × (2 ^ significant_bits n ≤ 2 * n + 1)
  -- the sizes by the formulas are the counts of the bytes
  pub varint_sized : (n : ℕ) → length (varint n) ≡ varint_size n
  pub record_sized : (row : ℕ) → row < row_limit → length (record_of row) ≡ record_size row
  -- what the writer writes reads back to the same rows in the same order
  pub reads_back : (rows : List ℕ) → are_rows rows ≡ true → records_in (records_of rows) ≡ Rows rows
  -- what the reader accepts is exactly what the writer writes
  pub only_written : (file rows : List ℕ) → records_in file ≡ Rows rows → (file ≡ records_of rows) × (are_rows rows ≡ true)
  -- a bad record is the first, and is bad
  pub first_bad : (file : List ℕ) (place : ℕ) → records_in file ≡ Bad place → BadFrom file place
  -- in memory rows ascend strictly, so each is there once
  pub ascends : (rows : List ℕ) → ascending row_key (in_memory rows) ≡ true
  -- and they are the same set
  pub same_set : (rows : List ℕ) (row : ℕ) → is_in (in_memory rows) row ≡ is_in rows row
  -- rows that rise strictly already are their own form
  pub own_form : (rows : List ℕ) → ascending row_key rows ≡ true → in_memory rows ≡ rows
  -- a set of rows has one form in memory
  pub one_form : (l m : List ℕ) → ((row : ℕ) → is_in l row ≡ is_in m row) → in_memory l ≡ in_memory m
