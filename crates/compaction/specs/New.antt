-- The new rowset of a compaction, of which there is one or none. Assumes nothing.
use Rattle.std.specs.Prelude.{List, [], ◌∷◌, ℕ, Option, Some, None}
use Rattle.ids.specs.declared.RowsetNo.{RowsetNo}

abbrev pub NewRowset : Type 0
NewRowset = Option RowsetNo

abbrev pub new_of : NewRowset → List ℕ
new_of None = []
new_of (Some r) = r.0 ∷ []
