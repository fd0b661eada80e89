-- Operations lent as lines. Assumes nothing.
use Rattle.std.specs.Prelude.{cond, List, [], ◌∷◌, ◌++◌, map, ℕ, ◌-◌, length, get_or, take}
use Rattle.text.specs.Class.{is_newline}
use Rattle.manifest.specs.Operations.{Operation, next_ids, Line, begin, end, torn, operation, bad, well_formed}
use Rattle.manifest.specs.Lines.{line_of}
use Rattle.manifest.specs.Split.{lines, rest_on}

-- what is no line of an operation stands as `N`, which is no operation of a commit
abbrev pub operation_said : Line → Operation
operation_said begin = next_ids 0 0 0
operation_said end = next_ids 0 0 0
operation_said torn = next_ids 0 0 0
operation_said (operation o) = o
operation_said bad = next_ids 0 0 0

-- how an operation of a typed batch is lent: one that is not well formed stands as `N` too
abbrev pub as_line : Operation → Operation
as_line o = cond (well_formed o) o (next_ids 0 0 0)

-- bytes after the last newline are one more, that is no line
abbrev pub unended : List ℕ → List Operation
unended [] = []
unended (b ∷ s) = next_ids 0 0 0 ∷ []

-- each newline ends one operation
unfoldable pub operations_in : List ℕ → List Operation
operations_in s = map (λ l. operation_said (line_of l)) (lines s) ++ unended (rest_on [] s)

-- what a piece of lent bytes is read as, which its newline ends, or the last byte
abbrev pub piece_said : List ℕ → Operation
piece_said l = cond (is_newline (get_or l (length l - 1) 0)) (operation_said (line_of (take (length l - 1) l))) (next_ids 0 0 0)
