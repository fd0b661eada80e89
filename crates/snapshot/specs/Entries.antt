-- What is held: pairs and vectors with the epochs at which they were added and deleted, and what an epoch shows of them. Assumes nothing.
use Rattle.std.specs.Prelude.{Bool, true, false, not, ◌&&◌, List, [], ◌∷◌, map, ℕ, leb, ltb, eqb, get_or}
use Rattle.lists.specs.Keyed.{keep}
use Rattle.columns.specs.Rows.{rows, column, across}

-- a held pair or vector: its ids in field order (table, rowset; or table, rowset, vector), and its epochs; deleted is 0 while it is not
pub record Entry : Type 0 where
  pub ids : List ℕ
  pub added : ℕ
  pub deleted : ℕ

-- an entry that an epoch adds
abbrev pub added_at : ℕ → List ℕ → Entry
added_at e k = record { ids = k; added = e; deleted = 0 }

-- the entry, deleted at an epoch
abbrev pub deleted_at : ℕ → Entry → Entry
deleted_at e x = record { ids = x.ids; added = x.added; deleted = e }

-- what stands for no entry
abbrev pub nothing : Entry
nothing = record { ids = []; added = 0; deleted = 0 }

-- deleted at or before an epoch e; an entry with d = 0 is not deleted
unfoldable pub gone_at : ℕ → ℕ → Bool
gone_at e d = not (eqb d 0) && leb d e

-- an epoch shows what was added at or before it and not deleted by then
unfoldable pub shown_at : ℕ → ℕ → ℕ → Bool
shown_at e a d = leb a e && not (gone_at e d)

-- a deletion that waits for a vacuum
abbrev pub waits : Entry → Bool
waits x = not (eqb x.deleted 0)

-- its epochs pass a test
abbrev pub passes : (ℕ → ℕ → Bool) → Entry → Bool
passes t x = t x.added x.deleted

abbrev pub gone_by : ℕ → Entry → Bool
gone_by e x = gone_at e x.deleted

abbrev pub shown_by : ℕ → Entry → Bool
shown_by e x = shown_at e x.added x.deleted

-- what an epoch shows, ascending field by field where the list is
abbrev pub shown : ℕ → List Entry → List (List ℕ)
shown e l = map (λ (x : Entry). x.ids) (keep (shown_by e) l)

-- a pair or vector of the table t
abbrev pub of_table : ℕ → Entry → Bool
of_table t x = eqb (get_or x.ids 0 0) t

-- by its ids; a vacuum's list is by epoch and then ids
abbrev pub by_ids : Entry → List ℕ
by_ids x = x.ids

abbrev pub by_deletion : Entry → List ℕ
by_deletion x = x.deleted ∷ x.ids

-- each id is below the next one of its kind
abbrev pub below_next : List ℕ → List ℕ → Bool
below_next [] ns = true
below_next (x ∷ l) [] = false
below_next (x ∷ l) (n ∷ ns) = ltb x n && below_next l ns

-- its epochs are not above an epoch, and its ids below the next ones
abbrev pub within : ℕ → List ℕ → Entry → Bool
within e ns x = leb x.added e && (leb x.deleted e && below_next x.ids ns)

-- one field of the ids of each entry
abbrev pub field : ℕ → List Entry → List ℕ
field n l = map (λ (x : Entry). get_or x.ids n 0) l

-- the entry at i of columns: those of its ids, in field order, and those of its epochs
abbrev pub entry_at : List (List ℕ) → List ℕ → List ℕ → ℕ → Entry
entry_at ks a d i = record { ids = across ks i; added = column a i; deleted = column d i }

-- the first n entries of columns
abbrev pub entries : List (List ℕ) → List ℕ → List ℕ → ℕ → List Entry
entries ks a d n = rows (entry_at ks a d) n
