-- The lines of a byte list, and the line at a place. Assumes nothing.
use Rattle.std.specs.Prelude.{Option, Some, None, ℕ, ◌+◌, cond, List, [], ◌∷◌, ◌++◌, drop}
use Rattle.text.specs.Class.{newline, is_newline}
use Rattle.manifest.specs.declared.reader.LineAt.{LineAt}

-- the complete lines of what follows `so`, the start of a line
unfoldable pub lines_on : List ℕ → List ℕ → List (List ℕ)
lines_on so [] = []
lines_on so (b ∷ s) = cond (is_newline b) (so ∷ lines_on [] s) (lines_on (so ++ (b ∷ [])) s)

-- what stands after the last newline
unfoldable pub rest_on : List ℕ → List ℕ → List ℕ
rest_on so [] = so
rest_on so (b ∷ s) = cond (is_newline b) (rest_on [] s) (rest_on (so ++ (b ∷ [])) s)

-- the complete lines of s, without their newlines; bytes after the last newline are ignored
unfoldable pub lines : List ℕ → List (List ℕ)
lines s = lines_on [] s

-- the complete lines of s from the place i on
unfoldable pub lines_from : List ℕ → ℕ → List (List ℕ)
lines_from s i = lines (drop i s)

-- lines, each with its newline
abbrev pub joined : List (List ℕ) → List ℕ
joined [] = []
joined (l ∷ ls) = l ++ (newline ∷ joined ls)

-- the line that starts at `at`, where the bytes s from i on are left to look at
unfoldable pub line_in : ℕ → List ℕ → ℕ → Option LineAt
line_in at [] i = None
line_in at (b ∷ s) i = cond (is_newline b) (Some (record { start = at; end = i; next = i + 1 })) (line_in at s (i + 1))

-- the line that starts at `at`
unfoldable pub line_at : List ℕ → ℕ → Option LineAt
line_at s at = line_in at (drop at s) at
