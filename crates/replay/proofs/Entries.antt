-- What a change of a list does to the entries that it stands for. Assumes nothing.
use Rattle.std.proofs.Common.{◌≡◌, refl, sym, ap, ◌∙◌, List, [], ◌∷◌, map, ℕ}
use Rattle.lists.specs.Order.{same}
use Rattle.lists.specs.Keyed.{any_of, all_of, is_at, has, put, without}
use Rattle.lists.proofs.Keyed.{any_of-map}
use Rattle.ids.specs.Names.{name_of}
use Rattle.columns.specs.Rows.{rows, across, plain}
use Rattle.columns.proofs.Rows.{rows-map}
use Rattle.snapshot.specs.Entries.{by_ids, entry_at, entries}
use Rattle.snapshot.specs.Tables.{TableEntry, by_table, name_taken}
use Rattle.snapshot.specs.Views.{pair_ids, vector_ids}
use Rattle.snapshot.specs.declared.rowsets.RowsetIds.{RowsetIds}
use Rattle.snapshot.specs.declared.vectors.VectorIds.{VectorIds}
use Rattle.version_state.specs.Sound.{has_table, has_rowset}
use Rattle.replay.specs.declared.sets.LiveTable.{LiveTable}
use Rattle.replay.specs.Sets.{table_entry, rowset_entry, vector_entry}
use Rattle.replay.proofs.Maps.{map-put, map-without}

module _ (l : List LiveTable) where
  pub table-has : (k : List ℕ) → has by_table k (map table_entry l) ≡ has (λ (x : LiveTable). x.table.0 ∷ []) k l
  table-has k = any_of-map table_entry (is_at by_table k) l

  pub name-taken : (n : List ℕ) → name_taken n (map table_entry l) ≡ any_of (λ (x : LiveTable). same (name_of x.name) n) l
  name-taken n = any_of-map table_entry (λ (x : TableEntry). same x.name n) l

  pub table-put : (x : LiveTable) → map table_entry (put (λ (x : LiveTable). x.table.0 ∷ []) x l) ≡ put by_table (table_entry x) (map table_entry l)
  table-put x = sym (map-put table_entry (λ (x : LiveTable). x.table.0 ∷ []) by_table (λ u v. refl) (λ u v. refl) x l)

  pub table-without : (k : List ℕ) → map table_entry (without (λ (x : LiveTable). x.table.0 ∷ []) k l) ≡ without by_table k (map table_entry l)
  table-without k = sym (map-without table_entry (λ (x : LiveTable). x.table.0 ∷ []) by_table k k (λ u. refl) l)

-- whether each rowset has its table
pub has-tables : (ts : List LiveTable) (l : List RowsetIds) → all_of (has_table (map table_entry ts)) (map rowset_entry l) ≡ all_of (λ (x : RowsetIds). has (λ (y : LiveTable). y.table.0 ∷ []) (x.table.0 ∷ []) ts) l
has-tables ts [] = refl
has-tables ts (x ∷ l) = rw (table-has, has-tables ts l) refl

module _ (l : List RowsetIds) where
  pub rowset-put : (x : RowsetIds) → map rowset_entry (put pair_ids x l) ≡ put by_ids (rowset_entry x) (map rowset_entry l)
  rowset-put x = sym (map-put rowset_entry pair_ids by_ids (λ u v. refl) (λ u v. refl) x l)

  pub rowset-without : (k : List ℕ) → map rowset_entry (without pair_ids k l) ≡ without by_ids k (map rowset_entry l)
  rowset-without k = sym (map-without rowset_entry pair_ids by_ids k k (λ u. refl) l)

module _ (l : List VectorIds) where
  pub vector-put : (x : VectorIds) → map vector_entry (put vector_ids x l) ≡ put by_ids (vector_entry x) (map vector_entry l)
  vector-put x = sym (map-put vector_entry vector_ids by_ids (λ u v. refl) (λ u v. refl) x l)

  pub vector-without : (k : List ℕ) → map vector_entry (without vector_ids k l) ≡ without by_ids k (map vector_entry l)
  vector-without k = sym (map-without vector_entry vector_ids by_ids k k (λ u. refl) l)

-- whether a vector's rowset is live
pub has-rowset : (l : List RowsetIds) (x : VectorIds) → has_rowset (map rowset_entry l) (vector_entry x) ≡ has pair_ids (x.table.0 ∷ x.rowset.0 ∷ []) l
has-rowset l x = any_of-map rowset_entry (is_at by_ids (x.table.0 ∷ x.rowset.0 ∷ [])) l

-- whether a key is held is told by the keys alone
pub has-ids : (ks : List (List ℕ)) (a d : List ℕ) (n : ℕ) (k : List ℕ) → has by_ids k (entries ks a d n) ≡ has plain k (rows (across ks) n)
has-ids ks a d n k = sym (any_of-map by_ids (is_at plain k) (entries ks a d n)) ∙ ap (has plain k) (rows-map (entry_at ks a d) by_ids n)
