-- The plain record's sets of tables, pairs and vectors, and what an operation does to them. Assumes nothing.
use Rattle.std.specs.Prelude.{List, [], ◌∷◌, ℕ}
use Rattle.lists.specs.Keyed.{put, without}
use Rattle.manifest.specs.Operations.{Operation}
use Rattle.manifest.specs.Edits.{Edit, leaves, adds, deletes, Table, edits_of}

-- a pair is (table, rowset), a vector (table, rowset, vector)
pub record Sets : Type 0 where
  pub tables : List Table
  pub pairs : List (List ℕ)
  pub vectors : List (List ℕ)

abbrev pub sets : List Table → List (List ℕ) → List (List ℕ) → Sets
sets t p v = record { tables = t; pairs = p; vectors = v }

abbrev pub none : Sets
none = sets [] [] []

-- tables are in the order of their ids, pairs and vectors field by field
abbrev pub by_id : Table → List ℕ
by_id t = t.id ∷ []

abbrev pub itself : List ℕ → List ℕ
itself k = k

-- what is added is put in, what is deleted is taken out
abbrev pub edit : {A : Type 0} → (A → List ℕ) → Edit A → List A → List A
edit key leaves l = l
edit key (adds x) l = put key x l
edit key (deletes k) l = without key k l

abbrev pub apply : Operation → Sets → Sets
apply o s =
    sets (edit by_id (edits_of o).tables s.tables) (edit itself (edits_of o).pairs s.pairs) (edit itself (edits_of o).vectors s.vectors)

-- the operations of a commit, in order
abbrev pub apply_all : List Operation → Sets → Sets
apply_all [] s = s
apply_all (o ∷ os) s = apply_all os (apply o s)
