-- The specification's limits. Assumes nothing.
use Rattle.std.specs.Prelude.{ℕ}

abbrev pub most_tables : ℕ
most_tables = 16

-- pairs held, and vectors held
abbrev pub most_held : ℕ
most_held = 256

-- the operations of a commit, and of a frame
abbrev pub most_operations : ℕ
most_operations = 600

-- the bytes of a line with its newline, at most
abbrev pub longest_line : ℕ
longest_line = 57

abbrev pub last_epoch : ℕ
last_epoch = 4294967295

-- bytes of a manifest
abbrev pub longest_manifest : ℕ
longest_manifest = 65536
