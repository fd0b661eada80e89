-- What an operation does to the sets at an epoch, and to the next ids: one definition, for a commit and for a replay. Assumes nothing.
use Rattle.std.specs.Prelude.{List, [], ◌∷◌, ℕ, ◌+◌, max}
use Rattle.lists.specs.Keyed.{put, without, changed}
use Rattle.ids.specs.Ids.{Next, next}
use Rattle.manifest.specs.Operations.{Operation}
use Rattle.manifest.specs.Edits.{Edit, leaves, adds, deletes, Table, rowset_in, vector_in, Raise, keeps, at_least, Edits, edits_of}
use Rattle.snapshot.specs.Entries.{Entry, added_at, deleted_at, by_ids}
use Rattle.snapshot.specs.Tables.{TableEntry, created, by_table}
use Rattle.version_state.specs.Sets.{next_of}
use Rattle.version_state.specs.State.{State, with_tables, with_pairs, with_vectors, with_next}

-- what is added is put in, as f makes it an entry; what is deleted is taken out
abbrev pub edited : {A B : Type 0} → (B → List ℕ) → (A → B) → Edit A → List B → List B
edited key f leaves l = l
edited key f (adds x) l = put key (f x) l
edited key f (deletes k) l = without key k l

-- what is added is put in as added at epoch e; what is deleted stays, marked with it
abbrev pub marked : ℕ → Edit (List ℕ) → List Entry → List Entry
marked e leaves l = l
marked e (adds k) l = put by_ids (added_at e k) l
marked e (deletes k) l = changed by_ids k (deleted_at e) l

abbrev pub as_entry : Table → TableEntry
as_entry t = created t.id t.shape t.name

-- tables are put in and taken out; pairs and vectors are edited by f
abbrev pub edited_by : (Edit (List ℕ) → List Entry → List Entry) → Operation → State → State
edited_by f o s =
    with_vectors
    (with_pairs (with_tables s (edited by_table as_entry (edits_of o).tables s.tables)) (f (edits_of o).pairs s.pairs))
    (f (edits_of o).vectors s.vectors)

abbrev pub effect : ℕ → Operation → State → State
effect e o s = edited_by (marked e) o s

-- past the id of what is added
abbrev pub past : {A : Type 0} → (A → ℕ) → Edit A → ℕ → ℕ
past id leaves n = n
past id (adds x) n = max n (id x + 1)
past id (deletes k) n = n

abbrev pub lifted : Raise → Next → Next
lifted keeps x = x
lifted (at_least n) x = next (max x.table n.table) (max x.rowset n.rowset) (max x.vector n.vector)

-- `T`, `A` and `V` raise the next id past theirs, each its own kind; `N` raises the three to at least its own
abbrev pub raised : Edits → Next → Next
raised d x = lifted d.next (next (past (λ t. t.id) d.tables x.table) (past rowset_in d.pairs x.rowset) (past vector_in d.vectors x.vector))

abbrev pub raise : Operation → State → State
raise o s = with_next s (raised (edits_of o) (next_of s)).table (raised (edits_of o) (next_of s)).rowset (raised (edits_of o) (next_of s)).vector

abbrev pub applied : ℕ → Operation → State → State
applied e o s = raise o (effect e o s)

-- operations in order, at epoch e
abbrev pub applied_all : ℕ → List Operation → State → State
applied_all e [] s = s
applied_all e (o ∷ os) s = applied_all e os (applied e o s)
