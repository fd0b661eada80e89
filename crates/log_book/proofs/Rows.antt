-- The entries on rows and masks, by computing. Assumes nothing.
use mathlib.Core.Path.{refl}
use Rattle.delete_vector.specs.Encoding.{varint_by, varint, uint_field, delimited}
use Rattle.delete_vector.specs.Records.{record_of, is_record, size_in, records_by, records_at}
use Rattle.log_book.specs.Rows.{RowCases}

pub row-cases : RowCases
unfolding varint_by varint uint_field delimited record_of is_record size_in records_by records_at
row-cases = record { row0 = refl; row1 = refl; row128 = refl; written = refl; read = refl; offset4 = refl; last_row = refl }
