-- The lists that columns with a count stand for, and what is read of one place. Assumes nothing.
use Rattle.std.specs.Prelude.{List, [], ◌∷◌, ℕ}
use Rattle.ids.specs.Names.{name_of}
use Rattle.snapshot.specs.Entries.{Entry, entries}
use Rattle.snapshot.specs.Tables.{TableEntry, table_rows}
use Rattle.snapshot.specs.declared.held.Held.{Held}
use Rattle.snapshot.specs.declared.rowsets.RowsetIds.{RowsetIds}
use Rattle.snapshot.specs.declared.rowsets.Rowsets.{Rowsets}
use Rattle.snapshot.specs.declared.vectors.VectorIds.{VectorIds}
use Rattle.snapshot.specs.declared.vectors.Vectors.{Vectors}
use Rattle.snapshot.specs.declared.tables.Tables.{Tables}
use Rattle.snapshot.specs.declared.tables.Table.{Table}

abbrev pub rowsets_of : Rowsets → List Entry
rowsets_of s = entries (s.tables ∷ s.rowsets ∷ []) s.added s.deleted s.count

abbrev pub vectors_of : Vectors → List Entry
vectors_of s = entries (s.tables ∷ s.rowsets ∷ s.vectors ∷ []) s.added s.deleted s.count

abbrev pub tables_of : Tables → List TableEntry
tables_of s = table_rows s.ids s.shapes s.lengths s.names s.locked s.count

-- ids in field order
abbrev pub pair_ids : RowsetIds → List ℕ
pair_ids k = k.table.0 ∷ k.rowset.0 ∷ []

abbrev pub vector_ids : VectorIds → List ℕ
vector_ids k = k.table.0 ∷ k.rowset.0 ∷ k.vector.0 ∷ []

-- what is read of one place, by the numbers of its ids
abbrev pub entry_of : {I : Type 0} → (I → List ℕ) → Held I → Entry
entry_of numbers x = record { ids = numbers x.ids; added = x.added; deleted = x.deleted }

abbrev pub rowset_of : Held RowsetIds → Entry
rowset_of = entry_of pair_ids

abbrev pub vector_of : Held VectorIds → Entry
vector_of = entry_of vector_ids

abbrev pub table_of : Table → TableEntry
table_of x = record { table = x.table.0; shape = x.shape; name = name_of x.name; locked = x.locked }
