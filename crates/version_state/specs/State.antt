-- What a manager holds, as contracts speak of it. What a call does to a state is said by `start` and the `with` helpers alone. Assumes nothing.
use Rattle.std.specs.Prelude.{◌≡◌, Bool, ◌&&◌, List, [], ℕ, ◌+◌, ◌≤◌, leb}
use Rattle.snapshot.specs.Entries.{Entry, shown}
use Rattle.snapshot.specs.Tables.{TableEntry}
use Rattle.snapshot.specs.Views.{tables_of, rowsets_of, vectors_of}
use Rattle.ids.specs.Limits.{most_tables, most_held}
use Rattle.version_state.specs.declared.NextIds.{NextIds}
use Rattle.version_state.specs.declared.VersionManagerInner.{VersionManagerInner}

pub record State : Type 0 where
  pub epoch : ℕ
  -- the next ids
  pub next_table : ℕ
  pub next_rowset : ℕ
  pub next_vector : ℕ
  -- live tables, and all pairs and vectors that are held, shown now or waiting
  pub tables : List TableEntry
  pub pairs : List Entry
  pub vectors : List Entry
  -- the manifest's length
  pub manifest : ℕ

-- fresh: epoch 0, no tables, next ids 0, empty manifest
abbrev pub start : State
start = record { epoch = 0; next_table = 0; next_rowset = 0; next_vector = 0; tables = []; pairs = []; vectors = []; manifest = 0 }

abbrev pub with_tables : State → List TableEntry → State
with_tables s l =
    record { epoch = s.epoch; next_table = s.next_table; next_rowset = s.next_rowset; next_vector = s.next_vector; tables = l; pairs = s.pairs; vectors = s.vectors; manifest = s.manifest }

abbrev pub with_pairs : State → List Entry → State
with_pairs s l =
    record { epoch = s.epoch; next_table = s.next_table; next_rowset = s.next_rowset; next_vector = s.next_vector; tables = s.tables; pairs = l; vectors = s.vectors; manifest = s.manifest }

abbrev pub with_vectors : State → List Entry → State
with_vectors s l =
    record { epoch = s.epoch; next_table = s.next_table; next_rowset = s.next_rowset; next_vector = s.next_vector; tables = s.tables; pairs = s.pairs; vectors = l; manifest = s.manifest }

-- with other next ids
abbrev pub with_next : State → ℕ → ℕ → ℕ → State
with_next s t r v =
    record { epoch = s.epoch; next_table = t; next_rowset = r; next_vector = v; tables = s.tables; pairs = s.pairs; vectors = s.vectors; manifest = s.manifest }

-- at another epoch, with a manifest of another length
abbrev pub with_epoch : State → ℕ → ℕ → State
with_epoch s e n =
    record { epoch = e; next_table = s.next_table; next_rowset = s.next_rowset; next_vector = s.next_vector; tables = s.tables; pairs = s.pairs; vectors = s.vectors; manifest = n }

-- a state by its epoch, next ids, lists and manifest length
abbrev pub state_by : ℕ → NextIds → List TableEntry → List Entry → List Entry → ℕ → State
state_by e n ts ps vs k =
    record { epoch = e; next_table = n.table.0; next_rowset = n.rowset.0; next_vector = n.vector.0; tables = ts; pairs = ps; vectors = vs; manifest = k }

abbrev pub state_of : VersionManagerInner → State
state_of m = state_by m.epoch m.next (tables_of m.tables) (rowsets_of m.rowsets) (vectors_of m.vectors) m.manifest

-- the same with n bytes more in its manifest
abbrev pub lengthened : ℕ → VersionManagerInner → VersionManagerInner
lengthened n m = record { epoch = m.epoch; next = m.next; tables = m.tables; rowsets = m.rowsets; vectors = m.vectors; manifest = m.manifest + n }

-- the counts of the arrays are within the specification's limits
abbrev pub counts_fit : VersionManagerInner → Bool
counts_fit m = leb m.tables.count most_tables && (leb m.rowsets.count most_held && leb m.vectors.count most_held)

-- the same, as facts
pub record Fit (m : VersionManagerInner) : Type 0 where
  pub tables : m.tables.count ≤ most_tables
  pub rowsets : m.rowsets.count ≤ most_held
  pub vectors : m.vectors.count ≤ most_held

-- what is handed back stands for the state s
pub record Hands (m : VersionManagerInner) (s : State) : Type 0 where
  pub fits : Fit m
  pub state : state_of m ≡ s

-- what an epoch shows: the pairs, and the vectors
abbrev pub pairs_at : ℕ → State → List (List ℕ)
pairs_at e s = shown e s.pairs

abbrev pub vectors_at : ℕ → State → List (List ℕ)
vectors_at e s = shown e s.vectors
