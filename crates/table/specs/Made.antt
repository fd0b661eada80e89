-- Commits that a call makes from what is shown now: their operations in order, and what an accepted one leaves. Assumes nothing.
use Rattle.std.specs.Prelude.{Bool, ◌&&◌, List, [], ◌∷◌, ◌++◌, map, ℕ, ◌+◌, eqb, length, get_or}
use Rattle.lists.specs.Keyed.{keep, any_of}
use Rattle.manifest.specs.Operations.{Operation, create_table, drop_table, add_rowset, delete_rowset, delete_vector}
use Rattle.version_state.specs.State.{State, with_epoch}
use Rattle.operations.specs.Effect.{applied_all}
use Rattle.commit.specs.Commit.{append_of}

-- what an accepted commit of os leaves
abbrev pub committed : List Operation → State → State
committed os s = with_epoch (applied_all (s.epoch + 1) os s) (s.epoch + 1) (s.manifest + length (append_of os))

-- the pair or vector of these ids is deleted
abbrev pub delete_rowset_of : List ℕ → Operation
delete_rowset_of k = delete_rowset (get_or k 0 0) (get_or k 1 0)

abbrev pub delete_vector_of : List ℕ → Operation
delete_vector_of k = delete_vector (get_or k 0 0) (get_or k 1 0) (get_or k 2 0)

-- a pair or vector of the table t
abbrev pub of_table : ℕ → List ℕ → Bool
of_table t k = eqb (get_or k 0 0) t

-- create: a `T` with the next table id
abbrev pub create_operations : ℕ → ℕ → List ℕ → List Operation
create_operations next shape name = create_table next shape name ∷ []

-- drop: `X`, then `W` and then `D` for all the table's vectors and rowsets, of the pairs and vectors that are shown
abbrev pub drop_operations : ℕ → List (List ℕ) → List (List ℕ) → List Operation
drop_operations t pairs vectors = drop_table t ∷ (map delete_vector_of (keep (of_table t) vectors) ++ map delete_rowset_of (keep (of_table t) pairs))

-- rowsets by their numbers
abbrev pub by_number : ℕ → List ℕ
by_number r = r ∷ []

-- a vector over one of the rowsets rs of the table t
abbrev pub is_over : ℕ → List ℕ → List ℕ → Bool
is_over t rs k = of_table t k && any_of (eqb (get_or k 1 0)) rs

-- compaction: `A` for the new rowset, of which there is one or none, then `W` for the vectors over the taken ones, and `D` for these
abbrev pub compact_operations : ℕ → List ℕ → List ℕ → List (List ℕ) → List Operation
compact_operations t new taken vectors =
    map (add_rowset t) new ++ (map delete_vector_of (keep (is_over t taken) vectors) ++ map (delete_rowset t) taken)
