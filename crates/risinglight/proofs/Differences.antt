-- The cases in which the Rust and the port differ, worked out. Assumes nothing.
use mathlib.Core.Path.{refl}
use borrow.Author.Tests.{lt-ltb}
use Rattle.text.specs.Class.{is_digit, is_lower, is_capital, class_of}
use Rattle.text.specs.Decimal.{digits_by, digits, read_on, read_in, read_at}
use Rattle.text.specs.Name.{is_name_byte, is_name}
use Rattle.manifest.specs.Lines.{field_at, named, one_field, two_fields, three_fields, table_fields, line_by, line_of, fields_text, text_of}
use Rattle.manifest.specs.Split.{lines_on, lines}
use Rattle.snapshot.specs.Entries.{gone_at, shown_at}
use Rattle.operations.specs.Steps.{step_of}
use Rattle.risinglight.specs.Differences.{OpeningDiffers, ListsDiffer, CommitsDiffer, Differences}

opening : OpeningDiffers
unfolding is_digit is_lower is_capital class_of digits_by digits read_on read_in read_at is_name_byte is_name field_at named one_field two_fields three_fields table_fields line_by line_of fields_text text_of lines_on lines gone_at shown_at step_of
opening =
    record {
      second_begin = (refl, refl, refl);
      orphan_vector = (refl, refl, refl);
      orphan_without_table = (refl, refl, refl);
      rowset_without_table = (refl, refl);
      live_name = (refl, refl);
      unknown_table = (refl, refl);
      live_id = (refl, refl, refl);
      tables = (refl, refl, refl);
      bytes = λ src h. rw (lt-ltb _ _ h);
      operations = λ s m n os o h. (rw h, refl);
      last_id = (refl, refl, refl);
      torn_tail = (refl, refl);
      first_epoch = (refl, refl);
    }

lists : ListsDiffer
unfolding is_digit is_lower is_capital class_of digits_by digits read_on read_in read_at is_name_byte is_name field_at named one_field two_fields three_fields table_fields line_by line_of fields_text text_of lines_on lines gone_at shown_at step_of
lists =
    record {
      ids_forgotten = (refl, refl, refl);
      vacuum_order = (refl, refl, refl);
      pool_of_vectors = (refl, refl);
      rewritten = (refl, refl);
    }

commits : CommitsDiffer
unfolding is_digit is_lower is_capital class_of digits_by digits read_on read_in read_at is_name_byte is_name field_at named one_field two_fields three_fields table_fields line_by line_of fields_text text_of lines_on lines gone_at shown_at step_of
commits =
    record {
      absent_rowset = (refl, refl);
      absent_table = (refl, refl);
      absent_vector = (refl, refl);
      not_drawn = (refl, refl);
      waiting_again = (refl, refl);
      left_behind = (refl, refl);
      unknown_table = (refl, refl);
      pin_at_zero = refl;
    }

pub differences : Differences
differences = record { opening = opening; lists = lists; commits = commits }
