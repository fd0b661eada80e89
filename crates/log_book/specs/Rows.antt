-- Entries on rows and masks. Assumes nothing.
use Rattle.std.specs.Prelude.{◌≡◌, [], ◌∷◌}
use Rattle.delete_vector.specs.Records.{record_of, records_of, records_in, Rows}
use Rattle.delete_vector.specs.Memory.{is_in}
use Rattle.delete_vector.specs.Mask.{masked}

pub record RowCases : Type 0 where
  -- records of one, three and four bytes, alone and as a file
  pub row0 : record_of 0 ≡ 0x00 ∷ []
  pub row1 : record_of 1 ≡ 0x02 ∷ 0x08 ∷ 0x01 ∷ []
  pub row128 : record_of 128 ≡ 0x03 ∷ 0x08 ∷ 0x80 ∷ 0x01 ∷ []
  pub written : records_of (0 ∷ 1 ∷ 128 ∷ []) ≡ 0x00 ∷ 0x02 ∷ 0x08 ∷ 0x01 ∷ 0x03 ∷ 0x08 ∷ 0x80 ∷ 0x01 ∷ []
  pub read : records_in (0x00 ∷ 0x02 ∷ 0x08 ∷ 0x01 ∷ 0x03 ∷ 0x08 ∷ 0x80 ∷ 0x01 ∷ []) ≡ Rows (0 ∷ 1 ∷ 128 ∷ [])
  -- of two deleted rows one is below the offset
  pub offset4 : masked (is_in (3 ∷ 5 ∷ [])) 4 (1 ∷ 1 ∷ 1 ∷ 1 ∷ []) ≡ 1 ∷ 0 ∷ 1 ∷ 1 ∷ []
  -- the last row is cleared; the bit after it stands for no row, and not for row 0
  pub last_row : masked (is_in (0 ∷ 4294967295 ∷ [])) 4294967295 (1 ∷ 1 ∷ []) ≡ 0 ∷ 1 ∷ []
