-- The worked examples, by computing. Assumes nothing.
use mathlib.Core.Path.{refl}
use Rattle.text.specs.Class.{is_digit, is_lower, is_capital, class_of}
use Rattle.text.specs.Decimal.{digits_by, digits, read_on, read_in, read_at}
use Rattle.manifest.specs.Lines.{field_at, two_fields, three_fields, line_by, line_of, fields_text, text_of}
use Rattle.manifest.specs.Split.{lines_on, lines}
use Rattle.plain_record.specs.Examples.{Examples}

pub worked : Examples
unfolding is_digit is_lower is_capital class_of digits_by digits read_on read_in read_at field_at two_fields three_fields line_by line_of fields_text text_of lines_on lines
worked =
    record {
      first = refl;
      second = refl;
      equal = refl;
      between = refl;
      once = refl;
      out = refl;
      in_order = refl;
      pinned = refl;
      unpinned = refl;
      blocks = refl;
      own_epoch = refl;
      one_line = refl;
      added = refl;
      zero = refl;
      told = refl;
      kept = refl;
      taken_back = refl;
      undrawn = refl;
      drawn = refl;
    }
