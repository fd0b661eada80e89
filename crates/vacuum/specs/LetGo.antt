-- What a vacuum lets go up to an epoch b: the deletions it lists, and the state that is left. Assumes nothing.
use Rattle.std.specs.Prelude.{Bool, not, List, ℕ, get_or}
use Rattle.lists.specs.Keyed.{keep, arranged}
use Rattle.snapshot.specs.Entries.{Entry, gone_by, by_deletion}
use Rattle.version_state.specs.State.{State, with_pairs, with_vectors}

-- the vacuum's list: deletions whose epoch is at most b, by epoch, table, rowset
abbrev pub vacuum_list : ℕ → State → List Entry
vacuum_list b s = arranged by_deletion (keep (gone_by b) s.pairs)

-- a deletion as it is listed: its epoch, table and rowset
abbrev pub deletion_of : Entry → ℕ × ℕ × ℕ
deletion_of x = (x.deleted, get_or x.ids 0 0, get_or x.ids 1 0)

-- not let go
abbrev pub stays_by : ℕ → Entry → Bool
stays_by b x = not (gone_by b x)

-- what is left; waiting vectors are let go by the same rule, unlisted
abbrev pub vacuumed : ℕ → State → State
vacuumed b s = with_vectors (with_pairs s (keep (stays_by b) s.pairs)) (keep (stays_by b) s.vectors)
