-- The rewritten manifest of next ids and sets: `B`, `N`, then `T`, `A`, `V` lines, ascending by their ids, `E`. Assumes nothing.
use Rattle.std.specs.Prelude.{List, ◌∷◌, ◌++◌, map, ℕ, get_or}
use Rattle.ids.specs.Limits.{longest_line}
use Rattle.manifest.specs.Operations.{Operation, create_table, add_rowset, add_vector, next_ids}
use Rattle.snapshot.specs.Tables.{TableEntry}
use Rattle.version_state.specs.State.{State}
use Rattle.ids.specs.Ids.{Next}
use Rattle.version_state.specs.Sets.{Sets, sets_of, next_of}
use Rattle.frames.specs.Frames.{frame_of}

abbrev pub create_of : TableEntry → Operation
create_of t = create_table t.table t.shape t.name

abbrev pub add_of : List ℕ → Operation
add_of k = add_rowset (get_or k 0 0) (get_or k 1 0)

abbrev pub add_vector_of : List ℕ → Operation
add_vector_of k = add_vector (get_or k 0 0) (get_or k 1 0) (get_or k 2 0)

-- the operations that make the sets of nothing, after the next ids
abbrev pub rewrite_of : Next → Sets → List Operation
rewrite_of n z =
    next_ids n.table n.rowset n.vector
    ∷ ((map create_of z.tables ++ map add_of z.pairs) ++ map add_vector_of z.vectors)

abbrev pub written_of : Next → Sets → List ℕ
written_of n z = frame_of (rewrite_of n z)

-- of what the state shows now
abbrev pub rewritten_of : State → List ℕ
rewritten_of s = written_of (next_of s) (sets_of s)

-- bytes that always hold it
abbrev pub longest_rewritten : ℕ
longest_rewritten = 18625

-- bytes that always hold one line of it: `N`, `T`, `A`, `V`
abbrev pub longest_next : ℕ
longest_next = 45

abbrev pub longest_create : ℕ
longest_create = longest_line

abbrev pub longest_add : ℕ
longest_add = 24

abbrev pub longest_add_vector : ℕ
longest_add_vector = 45
