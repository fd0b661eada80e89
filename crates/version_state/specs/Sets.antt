-- What a state has committed, whatever its epochs: live tables, the pairs and vectors that it shows now, and the next ids. Assumes nothing.
use Rattle.std.specs.Prelude.{List, map, ℕ}
use Rattle.ids.specs.Ids.{Next, next}
use Rattle.snapshot.specs.Tables.{TableEntry, created}
use Rattle.version_state.specs.State.{State, pairs_at, vectors_at}

pub record Sets : Type 0 where
  pub tables : List TableEntry
  pub pairs : List (List ℕ)
  pub vectors : List (List ℕ)

abbrev pub sets : List TableEntry → List (List ℕ) → List (List ℕ) → Sets
sets t p v = record { tables = t; pairs = p; vectors = v }

-- a table without its lock: no manifest speaks of locks
abbrev pub unlocked : TableEntry → TableEntry
unlocked t = created t.table t.shape t.name

abbrev pub sets_of : State → Sets
sets_of s = sets (map unlocked s.tables) (pairs_at s.epoch s) (vectors_at s.epoch s)

abbrev pub next_of : State → Next
next_of s = next s.next_table s.next_rowset s.next_vector
