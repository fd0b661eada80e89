-- The entries on manifests, by computing. Assumes nothing.
use mathlib.Core.Path.{refl}
use Rattle.text.specs.Class.{is_digit, is_lower, is_capital, class_of}
use Rattle.text.specs.Decimal.{digits_by, digits, read_on, read_in, read_at}
use Rattle.text.specs.Name.{is_name_byte, is_name}
use Rattle.manifest.specs.Lines.{field_at, named, one_field, two_fields, three_fields, table_fields, line_by, line_of, fields_text, text_of}
use Rattle.manifest.specs.Split.{lines_on, lines}
use Rattle.snapshot.specs.Entries.{gone_at, shown_at}
use Rattle.log_book.specs.Manifests.{ManifestCases}

pub manifest-cases : ManifestCases
unfolding is_digit is_lower is_capital class_of digits_by digits read_on read_in read_at is_name_byte is_name field_at named one_field two_fields three_fields table_fields line_by line_of fields_text text_of lines_on lines gone_at shown_at
manifest-cases = record { nothing = refl; nothing_text = refl; frames = refl; frames_text = refl; begun_again = refl; unended = refl }
