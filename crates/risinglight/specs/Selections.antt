-- Where the Rust selects what the port does for a compaction, and where not. Assumes nothing.
use Rattle.std.specs.Prelude.{◌≡◌, Bool, true, false, cond, not, ◌&&◌, ◌||◌, List, [], ◌∷◌, map, ℕ, ◌+◌, ◌≤◌, leb, ltb, length}
use Rattle.lists.specs.Keyed.{has, arranged, ascending}
use Rattle.ids.specs.Ids.{largest64}
use Rattle.version_state.specs.declared.VersionManagerInner.{VersionManagerInner}
use Rattle.snapshot.specs.Entries.{added_at}
use Rattle.version_state.specs.State.{State, start, with_vectors, state_of, pairs_at}
use Rattle.version_state.specs.Sound.{bad_inner}
use Rattle.delete_vector.specs.Memory.{in_memory}
use Rattle.compactor.specs.Selection.{Sized, sized_as, taken, sized, rowsets_now, taken_now, any_over, compacted, selected}
use Rattle.compactor.specs.Laws.{total}
use Rattle.plain_record.specs.Sets.{itself}
use Rattle.risinglight.specs.Snapshot.{Snapshot, has_rowset}
use Rattle.risinglight.specs.Differences.{one_held}
use Rattle.risinglight.specs.Compactor.{get_rowsets_of, sized_rowset_id, by_rowset, select}

-- what the port selects of rowsets that no vector lies over
abbrev pub selected_of : ℕ → List Sized → List ℕ
selected_of target l = compacted 0 (map sized_rowset_id (taken target l)) start

-- lone-rowset: of the table t one is taken, and a vector lies over it
abbrev pub lone_rowset : ℕ → List ℕ → State → Bool
lone_rowset t rs s = leb (length rs) 1 && any_over t rs s

-- selection-order: they come in another order than upwards
abbrev pub selection_order : List Sized → Bool
selection_order l = not (ascending by_rowset l)

-- with sizes of the sum n taken, a sum on the way passes 64 bits
abbrev pub wraps_on : ℕ → ℕ → List Sized → Bool
wraps_on target n [] = false
wraps_on target n (x ∷ l) = ltb largest64 (n + x.size) || wraps_on target (cond (leb (n + x.size) target) (n + x.size) n) l

-- selection-wraps
abbrev pub selection_wraps : ℕ → List Sized → Bool
selection_wraps target l = wraps_on target 0 l

-- 50, 40 and 20, upwards and in another order
abbrev pub upwards : List Sized
upwards = sized_as 0 50 ∷ sized_as 1 40 ∷ sized_as 2 20 ∷ []

abbrev pub otherwise : List Sized
otherwise = sized_as 1 40 ∷ sized_as 2 20 ∷ sized_as 0 50 ∷ []

pub record OrderTells : Type 0 where
  pub apart : selection_order otherwise ≡ true
  pub alike : arranged by_rowset otherwise ≡ upwards
  pub fits : selection_wraps 70 otherwise ≡ false
  pub rust : select 70 otherwise ≡ 1 ∷ 2 ∷ []
  pub port : selected_of 70 upwards ≡ 0 ∷ 2 ∷ []

-- two sizes whose sum is 0 in 64 bits
abbrev pub large : List Sized
large = sized_as 0 18446744073709551615 ∷ sized_as 1 1 ∷ []

pub record WrapsTells : Type 0 where
  pub apart : selection_wraps 18446744073709551615 large ≡ true
  pub ordered : selection_order large ≡ false
  pub rust : select 18446744073709551615 large ≡ 0 ∷ 1 ∷ []
  pub port : selected_of 18446744073709551615 large ≡ []

-- one rowset, with a vector over it
abbrev pub lone : State
lone = with_vectors one_held (added_at 1 (0 ∷ 0 ∷ 0 ∷ []) ∷ [])

pub record LoneTells : Type 0 where
  pub apart : lone_rowset 0 (taken_now 0 60 (40 ∷ []) lone) lone ≡ true
  pub fits : selection_wraps 60 (sized (rowsets_now 0 lone) (40 ∷ [])) ≡ false
  pub rust : select 60 (sized (rowsets_now 0 lone) (40 ∷ [])) ≡ []
  pub port : selected 0 60 (40 ∷ []) lone ≡ 0 ∷ []

pub record SelectionLaws : Type 0 where
  pub same : (target : ℕ) (l : List Sized) → selection_order l ≡ false → selection_wraps target l ≡ false → select target l ≡ selected_of target l
  -- of fewer than two that are taken the Rust selects none
  pub few : (target : ℕ) (l : List Sized) → selection_wraps target l ≡ false → length (taken target l) ≤ 1 → select target l ≡ []
  -- of the rowsets of a table that the current epoch shows, with their sizes
  pub shown : (m : VersionManagerInner) → bad_inner m ≡ false → (t target : ℕ) (ns : List ℕ) → selection_wraps target (sized (rowsets_now t (state_of m)) ns) ≡ false
      → lone_rowset t (taken_now t target ns (state_of m)) (state_of m) ≡ false → select target (sized (rowsets_now t (state_of m)) ns) ≡ selected t target ns (state_of m)
  -- which are the set of a snapshot that has the same pairs, in ascending order
  pub walked : (m : VersionManagerInner) → bad_inner m ≡ false → (t : ℕ) (s : Snapshot) → ((r : ℕ) → has itself (t ∷ r ∷ []) (pairs_at m.epoch (state_of m)) ≡ has_rowset t r s)
      → in_memory (get_rowsets_of t s) ≡ rowsets_now t (state_of m)
  -- no sum passes 64 bits where all sizes together do not
  pub fits : (target : ℕ) (l : List Sized) → total l ≤ largest64 → selection_wraps target l ≡ false
  -- in any order where all are taken
  pub all : (target : ℕ) (l : List Sized) → total l ≤ target → target ≤ largest64 → select target l ≡ selected_of target (arranged by_rowset l)
  -- where they differ
  pub order : OrderTells
  pub wraps : WrapsTells
  pub lone : LoneTells
