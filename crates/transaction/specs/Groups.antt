-- A transaction's row handles, grouped: one delete vector a rowset. Assumes nothing.
use Rattle.std.specs.Prelude.{List, [], ◌∷◌, ◌++◌, map, ℕ, eqb, length, take}
use Rattle.lists.specs.Keyed.{keep}
use Rattle.ids.specs.declared.SecondaryRowHandler.{SecondaryRowHandler}
use Rattle.delete_vector.specs.Records.{records_of}
use Rattle.delete_vector.specs.Memory.{in_memory}
use Rattle.transaction.specs.declared.Handles.{Handles}

-- a row handle: its rowset and its row
pub record Handle : Type 0 where
  pub rowset : ℕ
  pub row : ℕ

abbrev pub handle_of : SecondaryRowHandler → Handle
handle_of h = record { rowset = h.0.0; row = h.1.0 }

-- the handles of a call, in the order given: the first `count`
abbrev pub handles_of : Handles → List Handle
handles_of h = map handle_of (take h.count h.items)

-- the rows of the handles of the rowset r, in their order, repeats kept
abbrev pub rows_of : ℕ → List Handle → List ℕ
rows_of r hs = map (λ (h : Handle). h.row) (keep (λ (h : Handle). eqb h.rowset r) hs)

-- the rowsets that the handles name, ascending, each once
abbrev pub rowsets_of : List Handle → List ℕ
rowsets_of hs = in_memory (map (λ (h : Handle). h.rowset) hs)

-- a delete vector: its rowset, the bytes of its file and its rows in memory
pub record Vector : Type 0 where
  pub rowset : ℕ
  pub file : List ℕ
  pub memory : List ℕ

-- the vector of the rowset r
abbrev pub vector_of : List Handle → ℕ → Vector
vector_of hs r = record { rowset = r; file = records_of (rows_of r hs); memory = in_memory (rows_of r hs) }

-- one vector a rowset, ascending by rowset
abbrev pub vectors_of : List Handle → List Vector
vectors_of hs = map (vector_of hs) (rowsets_of hs)

-- the rows by rowset, one rowset after another
abbrev pub runs_of : List ℕ → List Handle → List ℕ
runs_of [] hs = []
runs_of (r ∷ rs) hs = rows_of r hs ++ runs_of rs hs

-- What is told of vectors: each one's rowset, the length of its file and how many rows it has in memory, all files one after
-- another, and all rows in memory one after another.
abbrev pub rowsets_in : List Vector → List ℕ
rowsets_in vs = map (λ (v : Vector). v.rowset) vs

abbrev pub lengths_in : List Vector → List ℕ
lengths_in vs = map (λ (v : Vector). length v.file) vs

abbrev pub counts_in : List Vector → List ℕ
counts_in vs = map (λ (v : Vector). length v.memory) vs

abbrev pub files_in : List Vector → List ℕ
files_in [] = []
files_in (v ∷ vs) = v.file ++ files_in vs

abbrev pub memories_in : List Vector → List ℕ
memories_in [] = []
memories_in (v ∷ vs) = v.memory ++ memories_in vs
