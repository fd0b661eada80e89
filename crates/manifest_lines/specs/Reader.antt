-- What the reader hands out: the line at its place, and it goes on at the place after that. Assumes nothing.
use Rattle.std.specs.Prelude.{ℕ, ◌-◌, ◌≡◌, Option, Some, None, length}
use Rattle.std.specs.Iterator.{Count, at_most}
use Rattle.manifest.specs.declared.reader.LineAt.{LineAt}
use Rattle.manifest.specs.Split.{line_at}
use Rattle.manifest_lines.specs.declared.ManifestLines.{ManifestLines}

-- the place after a line; where there is none, the reader stays
abbrev pub place_after : Option LineAt → ℕ → ℕ
place_after (Some l) at = l.next
place_after None at = at

pub record NextLine (s : ManifestLines) (r : Option LineAt) (t : ManifestLines) : Type 0 where
  pub line : r ≡ line_at s.src.now s.at
  pub src : t.src ≡ s.src
  pub at : t.at ≡ place_after r s.at

-- each line has a byte at least
abbrev pub lines_left : ManifestLines → Count
lines_left s = at_most (length s.src.now - s.at)
