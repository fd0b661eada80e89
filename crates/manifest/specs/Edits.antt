-- What an operation does to all that a manifest speaks of: tables, pairs, vectors and the next ids. Assumes nothing.
use Rattle.std.specs.Prelude.{ℕ, List, [], ◌∷◌, get_or}
use Rattle.ids.specs.Ids.{Next, next}
use Rattle.manifest.specs.Operations.{Operation, create_table, drop_table, add_rowset, delete_rowset, add_vector, delete_vector, next_ids}

-- to one list: nothing, an entry is added, or what has this key is deleted
pub data Edit (A : Type 0) : Type 0 where
  leaves : Edit A
  adds : A → Edit A
  deletes : List ℕ → Edit A

pub record Table : Type 0 where
  pub id : ℕ
  pub shape : ℕ
  pub name : List ℕ

abbrev pub table : ℕ → ℕ → List ℕ → Table
table t h n = record { id = t; shape = h; name = n }

-- a pair is (table, rowset), a vector (table, rowset, vector)
abbrev pub rowset_in : List ℕ → ℕ
rowset_in k = get_or k 1 0

abbrev pub vector_in : List ℕ → ℕ
vector_in k = get_or k 2 0

-- to the next ids, beside what is added: nothing, or they are at least these
pub data Raise : Type 0 where
  keeps : Raise
  at_least : Next → Raise

-- to all of them
pub record Edits : Type 0 where
  pub tables : Edit Table
  pub pairs : Edit (List ℕ)
  pub vectors : Edit (List ℕ)
  pub next : Raise

abbrev pub on_tables : Edit Table → Edits
on_tables d = record { tables = d; pairs = leaves; vectors = leaves; next = keeps }

abbrev pub on_pairs : Edit (List ℕ) → Edits
on_pairs d = record { tables = leaves; pairs = d; vectors = leaves; next = keeps }

abbrev pub on_vectors : Edit (List ℕ) → Edits
on_vectors d = record { tables = leaves; pairs = leaves; vectors = d; next = keeps }

abbrev pub on_next : Raise → Edits
on_next r = record { tables = leaves; pairs = leaves; vectors = leaves; next = r }

abbrev pub edits_of : Operation → Edits
edits_of (create_table t h n) = on_tables (adds (table t h n))
edits_of (drop_table t) = on_tables (deletes (t ∷ []))
edits_of (add_rowset t r) = on_pairs (adds (t ∷ r ∷ []))
edits_of (delete_rowset t r) = on_pairs (deletes (t ∷ r ∷ []))
edits_of (add_vector t r v) = on_vectors (adds (t ∷ r ∷ v ∷ []))
edits_of (delete_vector t r v) = on_vectors (deletes (t ∷ r ∷ v ∷ []))
edits_of (next_ids t r v) = on_next (at_least (next t r v))

-- the table that an operation names
abbrev pub table_of : Operation → ℕ
table_of (create_table t h n) = t
table_of (drop_table t) = t
table_of (add_rowset t r) = t
table_of (delete_rowset t r) = t
table_of (add_vector t r v) = t
table_of (delete_vector t r v) = t
table_of (next_ids t r v) = t
