-- Where the Rust groups a transaction's deletes as the port does, and where not. Assumes nothing.
use Rattle.std.specs.Prelude.{◌≡◌, Bool, true, false, not, List, [], ◌∷◌, map, ℕ, zero, suc, ◌+◌, length, Ok}
use Rattle.lists.specs.Keyed.{arranged, ascending}
use Rattle.delete_vector.specs.Records.{records_of}
use Rattle.delete_vector.specs.Memory.{row_key}
use Rattle.transaction.specs.declared.Handles.{Handles}
use Rattle.transaction.specs.Groups.{Handle, handles_of, rows_of, rowsets_of, Vector, vectors_of}
use Rattle.transaction.specs.Says.{used_up}
use Rattle.version_manager.specs.declared.VersionManager.{VersionManager}
use Rattle.version_manager.specs.Managers.{held_by}
use Rattle.version_manager.specs.Group.{grouped_by, group_verdict}
use Rattle.risinglight.specs.Maps.{unwrap_or, Binding, binding, get, keys}
use Rattle.risinglight.specs.Transaction.{split, DeleteVector, dvs}

abbrev pub by_key : Binding (List ℕ) → List ℕ
by_key b = b.key ∷ []

-- m is the map of the handles, in some order
abbrev pub Walks : List Handle → List (Binding (List ℕ)) → Type 0
Walks hs m = arranged by_key m ≡ arranged by_key (split hs)

-- grouping-order: it is walked in another order than upwards
abbrev pub grouping_order : List (Binding (List ℕ)) → Bool
grouping_order m = not (ascending by_key m)

-- a vector of the Rust's as one of the port's
abbrev pub vector_in : DeleteVector → Vector
vector_in v = record { rowset = v.rowset_id; file = records_of v.records; memory = v.deletes }

abbrev pub by_rowset : Vector → List ℕ
by_rowset v = v.rowset ∷ []

-- n ids from v on
abbrev pub following : ℕ → ℕ → List ℕ
following v zero = []
following v (suc n) = v ∷ following (v + 1) n

abbrev pub handle : ℕ → ℕ → Handle
handle r row = record { rowset = r; row = row }

abbrev pub handles : List Handle
handles = handle 2 1 ∷ handle 1 1 ∷ handle 3 1 ∷ handle 2 1 ∷ []

abbrev pub otherwise : List (Binding (List ℕ))
otherwise = binding 2 (1 ∷ 1 ∷ []) ∷ binding 1 (1 ∷ []) ∷ binding 3 (1 ∷ []) ∷ []

-- a higher id for a lower rowset
pub record OrderTells : Type 0 where
  pub walks : Walks handles otherwise
  pub apart : grouping_order otherwise ≡ true
  pub ids : map (λ (v : DeleteVector). v.dv_id) (dvs 0 otherwise) ≡ 0 ∷ 1 ∷ 2 ∷ []
  pub rust : map (λ (v : DeleteVector). v.rowset_id) (dvs 0 otherwise) ≡ 2 ∷ 1 ∷ 3 ∷ []
  pub port : rowsets_of handles ≡ 1 ∷ 2 ∷ 3 ∷ []

pub record GroupingLaws : Type 0 where
  -- a rowset has the same rows in the same order
  pub rows : (hs : List Handle) (r : ℕ) → unwrap_or [] (get r (split hs)) ≡ rows_of r hs
  -- and one binding where a handle names it
  pub rowsets : (hs : List Handle) → arranged row_key (keys (split hs)) ≡ rowsets_of hs
  -- in any order there are the same vectors
  pub vectors : (hs : List Handle) (m : List (Binding (List ℕ))) (next : ℕ) → Walks hs m → arranged by_rowset (map vector_in (dvs next m)) ≡ vectors_of hs
  -- with the same ids, where the port has so many
  pub ids : (hs : List Handle) (m : List (Binding (List ℕ))) (next : ℕ) → Walks hs m → used_up next (vectors_of hs) ≡ false
      → map (λ (v : DeleteVector). v.dv_id) (dvs next m) ≡ following next (length (vectors_of hs))
  -- which it has for a grouping that it accepts
  pub accepted : (m : VersionManager) (h : Handles) (rs ls cs fs ms : List ℕ) (b : List (Binding (List ℕ))) → group_verdict m h rs ls cs fs ms ≡ Ok tt → Walks (handles_of h) b
      → map (λ (v : DeleteVector). v.dv_id) (dvs (held_by m).next_vector b) ≡ following (held_by m).next_vector (length (grouped_by h))
  -- and upwards in the same order, so that each has the same id
  pub upwards : (hs : List Handle) (m : List (Binding (List ℕ))) (next : ℕ) → Walks hs m → grouping_order m ≡ false → map vector_in (dvs next m) ≡ vectors_of hs
  -- where they differ
  pub order : OrderTells
