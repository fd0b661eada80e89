-- Selection: which of a table's rowsets a compaction takes. Assumes nothing.
use Rattle.std.specs.Prelude.{Bool, cond, ◌||◌, List, [], ◌∷◌, map, ℕ, ◌+◌, leb, length, get_or}
use Rattle.lists.specs.Keyed.{keep, any_of}
use Rattle.version_state.specs.State.{State, pairs_at, vectors_at}
use Rattle.table.specs.Made.{of_table, is_over}

-- a rowset and its size
pub record Sized : Type 0 where
  pub rowset : ℕ
  pub size : ℕ

abbrev pub sized_as : ℕ → ℕ → Sized
sized_as r n = record { rowset = r; size = n }

-- with sizes of the sum n taken: of the entries in order, each is taken if its size plus those taken is at most the target
abbrev pub taken_on : ℕ → ℕ → List Sized → List Sized
taken_on target n [] = []
taken_on target n (x ∷ l) = cond (leb (n + x.size) target) (x ∷ taken_on target (n + x.size) l) (taken_on target n l)

abbrev pub taken : ℕ → List Sized → List Sized
taken target l = taken_on target 0 l

-- each rowset with its size
abbrev pub sized : List ℕ → List ℕ → List Sized
sized [] ns = []
sized (r ∷ rs) [] = []
sized (r ∷ rs) (n ∷ ns) = sized_as r n ∷ sized rs ns

-- the rowsets of a table that the current epoch shows, ascending where the pairs are
abbrev pub rowsets_now : ℕ → State → List ℕ
rowsets_now t s = map (λ k. get_or k 1 0) (keep (of_table t) (pairs_at s.epoch s))

-- those that are taken, their sizes being ns
abbrev pub taken_now : ℕ → ℕ → List ℕ → State → List ℕ
taken_now t target ns s = map (λ (x : Sized). x.rowset) (taken target (sized (rowsets_now t s) ns))

-- a vector that the current epoch shows lies over one of the rowsets rs of the table t
abbrev pub any_over : ℕ → List ℕ → State → Bool
any_over t rs s = any_of (is_over t rs) (vectors_at s.epoch s)

-- what is taken is enough for a compaction if it is two rowsets or more, or one that such a vector lies over; else there is none
abbrev pub compacted : ℕ → List ℕ → State → List ℕ
compacted t rs s = cond (leb 2 (length rs) || any_over t rs s) rs []

-- the rowsets of table t that are to be compacted
abbrev pub selected : ℕ → ℕ → List ℕ → State → List ℕ
selected t target ns s = compacted t (taken_now t target ns s) s
