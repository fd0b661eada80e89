-- The live tables. Assumes nothing.
use Rattle.std.specs.Prelude.{Bool, false, cond, ◌&&◌, List, [], ◌∷◌, ℕ, ◌*◌, leb, drop}
use Rattle.lists.specs.Order.{same}
use Rattle.lists.specs.Keyed.{any_of, is_at}
use Rattle.ids.specs.Limits.{most_tables}
use Rattle.ids.specs.Names.{longest_name, name_in}
use Rattle.columns.specs.Rows.{rows, column, marks}

-- a live table, and whether its lock is held
pub record TableEntry : Type 0 where
  pub table : ℕ
  pub shape : ℕ
  pub name : List ℕ
  pub locked : Bool

-- a table that is created, its lock free
abbrev pub created : ℕ → ℕ → List ℕ → TableEntry
created t h n = record { table = t; shape = h; name = n; locked = false }

-- what stands for no table
abbrev pub no_table : TableEntry
no_table = created 0 0 []

abbrev pub by_table : TableEntry → List ℕ
by_table t = t.table ∷ []

-- a live table has the name
abbrev pub name_taken : List ℕ → List TableEntry → Bool
name_taken n l = any_of (λ t. same t.name n) l

-- the lock of a live table of the id is held
abbrev pub lock_held : ℕ → List TableEntry → Bool
lock_held t l = any_of (λ x. is_at by_table (t ∷ []) x && x.locked) l

-- a table, its lock held or free
abbrev pub with_lock : Bool → TableEntry → TableEntry
with_lock b x = record { table = x.table; shape = x.shape; name = x.name; locked = b }

-- how many bytes a name has whose length is said so; a length that no name has stands for no bytes at all
abbrev pub length_in : ℕ → ℕ
length_in n = cond (leb n longest_name) n 0

-- the name at i of a column that has room for the longest name at each place, and of a column of lengths
abbrev pub name_at : List ℕ → List ℕ → ℕ → List ℕ
name_at lengths names i = name_in (column lengths i) (drop (longest_name * i) names)

-- the table at i of columns: ids, shapes, lengths of names, names, locks
abbrev pub table_at : List ℕ → List ℕ → List ℕ → List ℕ → List Bool → ℕ → TableEntry
table_at ids shapes lengths names locked i =
    record { table = column ids i; shape = column shapes i; name = name_at lengths names i; locked = marks locked i }

-- the first n tables of columns
abbrev pub table_rows : List ℕ → List ℕ → List ℕ → List ℕ → List Bool → ℕ → List TableEntry
table_rows ids shapes lengths names locked n = rows (table_at ids shapes lengths names locked) n

-- the bytes of all names
abbrev pub name_bytes : ℕ
name_bytes = most_tables * longest_name
