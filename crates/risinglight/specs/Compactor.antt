-- The loop of `compact_table` of compactor.rs: which rowsets of a table are compacted. Assumes nothing.
use Rattle.std.specs.Prelude.{cond, List, [], ◌∷◌, map, ℕ, ◌+◌, leb, length}
use Rattle.lists.specs.Keyed.{arranged}
use Rattle.compactor.specs.Selection.{Sized}
use Rattle.risinglight.specs.Maps.{unwrap_or, get}
use Rattle.risinglight.specs.Snapshot.{Snapshot}
use Rattle.risinglight.specs.Numbers.{wrapping}

-- `get_rowsets_of`: the set that is walked; where a table has none, nothing is
abbrev pub get_rowsets_of : ℕ → Snapshot → List ℕ
get_rowsets_of t s = unwrap_or [] (get t s.rowsets)

abbrev pub sized_rowset_id : Sized → ℕ
sized_rowset_id x = x.rowset

-- a rowset, by its id
abbrev pub by_rowset : Sized → List ℕ
by_rowset x = sized_rowset_id x ∷ []

-- the loop over the rowsets in the order in which they come, with sizes of the sum current-size selected
abbrev pub selecting : ℕ → ℕ → List Sized → List Sized
selecting target-rowset-size current-size [] = []
selecting target-rowset-size current-size (x ∷ rowsets) =
    cond (leb (wrapping (x.size + current-size)) target-rowset-size)
    (x ∷ selecting target-rowset-size (wrapping (current-size + x.size)) rowsets)
    (selecting target-rowset-size current-size rowsets)

-- at most one: nothing is compacted. Else they are sorted by their ids
abbrev pub select : ℕ → List Sized → List ℕ
select target-rowset-size rowsets =
    let selected-rowsets = selecting target-rowset-size 0 rowsets in
    cond (leb (length selected-rowsets) 1) [] (map sized_rowset_id (arranged by_rowset selected-rowsets))
