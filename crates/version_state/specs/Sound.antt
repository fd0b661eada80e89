-- 17 and 29: what a state may not show, and what no call hands out. Assumes nothing.
use Rattle.std.specs.Prelude.{Bool, not, ◌&&◌, ◌||◌, List, [], ◌∷◌, ℕ, ltb, take}
use Rattle.lists.specs.Keyed.{keep, all_of, has, ascending, sorted}
use Rattle.text.specs.Name.{is_name}
use Rattle.snapshot.specs.Entries.{Entry, by_ids, shown_by, within}
use Rattle.snapshot.specs.Tables.{TableEntry, by_table}
use Rattle.ids.specs.Limits.{longest_manifest}
use Rattle.version_state.specs.State.{State, state_of, counts_fit}
use Rattle.version_state.specs.declared.VersionManagerInner.{VersionManagerInner}

-- the table of a pair is among ts, the rowset of a vector among ps
abbrev pub has_table : List TableEntry → Entry → Bool
has_table ts p = has by_table (take 1 (by_ids p)) ts

abbrev pub has_rowset : List Entry → Entry → Bool
has_rowset ps v = has by_ids (take 2 (by_ids v)) ps

-- in what epoch e shows of pairs and vectors, a vector is without its rowset or a rowset without its table
abbrev pub left_of : ℕ → List TableEntry → List Entry → List Entry → Bool
left_of e ts ps vs =
    not (all_of (has_rowset (keep (shown_by e) ps)) (keep (shown_by e) vs)
    && all_of (has_table ts) (keep (shown_by e) ps))

-- 17
abbrev pub left_behind : ℕ → State → Bool
left_behind e s = left_of e s.tables s.pairs s.vectors

-- beyond the limits: a list too long, a manifest too long, a name that is none
abbrev pub beyond_limits : VersionManagerInner → Bool
beyond_limits m =
    not (counts_fit m) || (ltb longest_manifest (state_of m).manifest || not (all_of (λ t. is_name t.name) (state_of m).tables))

-- a list that does not rise strictly by its ids
abbrev pub out_of_order : State → Bool
out_of_order s = not (ascending by_table s.tables && (ascending by_ids s.pairs && ascending by_ids s.vectors))

-- lists in order as far as a walk along two of them needs it: two vectors of one rowset may stand either way
abbrev pub in_walking_order : State → Bool
in_walking_order s = ascending by_table s.tables && (ascending by_ids s.pairs && sorted (λ v. take 2 (by_ids v)) s.vectors)

-- an epoch above the state's own, or an id not below the next one
abbrev pub above_own : State → Bool
above_own s =
    not (all_of (λ t. ltb t.table s.next_table) s.tables
    && (all_of (within s.epoch (s.next_table ∷ s.next_rowset ∷ [])) s.pairs
    && all_of (within s.epoch (s.next_table ∷ s.next_rowset ∷ s.next_vector ∷ [])) s.vectors))

-- 29
abbrev pub bad_inner : VersionManagerInner → Bool
bad_inner m = beyond_limits m || (out_of_order (state_of m) || (above_own (state_of m) || left_behind (state_of m).epoch (state_of m)))
