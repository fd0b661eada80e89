-- The deletes of `commit_inner` of transaction.rs. Assumes nothing.
use Rattle.std.specs.Prelude.{List, [], ◌∷◌, ◌++◌, ℕ, ◌+◌}
use Rattle.transaction.specs.Groups.{Handle}
use Rattle.risinglight.specs.Maps.{unwrap_or, Binding, get, insert}
use Rattle.risinglight.specs.Numbers.{wrapping}
use Rattle.risinglight.specs.DeleteVector as vector

-- `entry(k).or_insert_with(Vec::new).push(row)`
abbrev pub pushed : ℕ → ℕ → List (Binding (List ℕ)) → List (Binding (List ℕ))
pushed k row m = insert k (unwrap_or [] (get k m) ++ (row ∷ [])) m

-- `delete_split_map`: by rowset, the rows in the order of the handles
abbrev pub split_on : List Handle → List (Binding (List ℕ)) → List (Binding (List ℕ))
split_on [] m = m
split_on (h ∷ delete-buffer) m = split_on delete-buffer (pushed h.rowset h.row m)

abbrev pub split : List Handle → List (Binding (List ℕ))
split delete-buffer = split_on delete-buffer []

-- a vector with its file: the records that `write_all` is given, in their order
pub record DeleteVector : Type 0 where
  pub dv_id : ℕ
  pub rowset_id : ℕ
  pub deletes : List ℕ
  pub records : List ℕ

-- `DeleteVector::new`
abbrev pub new : ℕ → ℕ → List ℕ → DeleteVector
new v r deletes = record { dv_id = v; rowset_id = r; deletes = vector.new deletes; records = deletes }

-- the loop over the map in the order in which its bindings come, the next id being v; `fetch_add` wraps
abbrev pub dvs : ℕ → List (Binding (List ℕ)) → List DeleteVector
dvs v [] = []
dvs v (b ∷ delete-split-map) = new v b.key b.value ∷ dvs (wrapping (v + 1)) delete-split-map
