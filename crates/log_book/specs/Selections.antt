-- Entries on selection, of every manager that stands for a state. Assumes nothing.
use Rattle.std.specs.Prelude.{◌≡◌, false, List, [], ◌∷◌, ℕ, Ok, Err}
use Rattle.ids.specs.declared.TableNo.{TableNo}
use Rattle.ids.specs.declared.refusal.Refusal.TheVariants.{OutputTooShort}
use Rattle.ids.specs.Answers.{Told, told}
use Rattle.manifest.specs.Operations.{create_table, add_rowset, add_vector, delete_vector}
use Rattle.snapshot.specs.Entries.{Entry, added_at, deleted_at}
use Rattle.snapshot.specs.Tables.{TableEntry}
use Rattle.version_state.specs.State.{State, start, Hands}
use Rattle.commit.specs.Commit.{commit_of}
use Rattle.compactor.specs.Says.{select_told, SelectAnswer}
use Rattle.version_manager.specs.declared.VersionManager.{VersionManager}
use Rattle.version_manager.specs.Managers.{bad_former}
use Rattle.version_manager.specs.Draw.{rowset_drawn, vector_drawn}
use Rattle.version_manager.specs.Select.{SelectSays}
use Rattle.log_book.specs.Manifests.{slots, table}

-- table 0 with the rowsets 0, 1, 2
abbrev pub three : State
three = record { epoch = 1; next_table = 1; next_rowset = 3; next_vector = 0; tables = table ∷ []; pairs = added_at 1 (0 ∷ 0 ∷ []) ∷ added_at 1 (0 ∷ 1 ∷ []) ∷ added_at 1 (0 ∷ 2 ∷ []) ∷ []; vectors = []; manifest = 36 }

-- table 0 with the rowset 0, and the vector 0 over it
abbrev pub lone_pair : Entry
lone_pair = added_at 1 (0 ∷ 0 ∷ [])

abbrev pub over_it : Entry
over_it = added_at 1 (0 ∷ 0 ∷ 0 ∷ [])

abbrev pub lone : State
lone = record { epoch = 1; next_table = 1; next_rowset = 1; next_vector = 1; tables = table ∷ []; pairs = lone_pair ∷ []; vectors = over_it ∷ []; manifest = 32 }

-- the vector deleted
abbrev pub waiting : State
waiting = record { epoch = 2; next_table = 1; next_rowset = 1; next_vector = 1; tables = table ∷ []; pairs = lone_pair ∷ []; vectors = deleted_at 2 over_it ∷ []; manifest = 46 }

-- table 1 with a rowset of the same id, and the vector over that one
abbrev pub rides : List ℕ
rides = 114 ∷ 105 ∷ 100 ∷ 101 ∷ 115 ∷ []

abbrev pub other_table : TableEntry
other_table = record { table = 1; shape = 7; name = rides; locked = false }

abbrev pub beside : State
beside = record { epoch = 1; next_table = 2; next_rowset = 1; next_vector = 1; tables = table ∷ other_table ∷ []; pairs = lone_pair ∷ added_at 1 (1 ∷ 0 ∷ []) ∷ []; vectors = added_at 1 (1 ∷ 0 ∷ 0 ∷ []) ∷ []; manifest = 50 }

-- a selection for the target among table 0's rowsets of the sizes ns, lent the slice out, tells x and leaves l in it
abbrev pub Selects : State → ℕ → List ℕ → List ℕ → Told → List ℕ → Type 0
Selects s target ns out x l = (m : VersionManager) (t : TableNo) → Hands m.inner s → bad_former m ≡ false → t.0 ≡ 0 → (r : SelectAnswer) (out' : List ℕ) → SelectSays m t target ns out r out'
    → (select_told r ≡ x) × (out' ≡ l)

-- so many rowsets, or none for want of room
abbrev pub selects : ℕ → Told
selects n = told (Ok tt) (n ∷ [])

abbrev pub too_short : Told
too_short = told (Err OutputTooShort) []

pub record SelectionCases : Type 0 where
  pub adds : commit_of (rowset_drawn (rowset_drawn (rowset_drawn start))) 4 (create_table 0 7 slots ∷ add_rowset 0 0 ∷ add_rowset 0 1 ∷ add_rowset 0 2 ∷ []) 36 ≡ Ok three
  -- the second is passed over and the third still fits; one alone, without vectors, is none
  pub target60 : Selects three 60 (40 ∷ 70 ∷ 20 ∷ []) (9 ∷ 9 ∷ 9 ∷ []) (selects 2) (0 ∷ 2 ∷ 9 ∷ [])
  pub target59 : Selects three 59 (40 ∷ 70 ∷ 20 ∷ []) (9 ∷ 9 ∷ 9 ∷ []) (selects 0) (9 ∷ 9 ∷ 9 ∷ [])
  -- one alone with a vector over it is enough, and wants room
  pub adds_lone : commit_of (vector_drawn (rowset_drawn start)) 3 (create_table 0 7 slots ∷ add_rowset 0 0 ∷ add_vector 0 0 0 ∷ []) 32 ≡ Ok lone
  pub lone40 : Selects lone 40 (40 ∷ []) (9 ∷ []) (selects 1) (0 ∷ [])
  pub lone_short : Selects lone 40 (40 ∷ []) [] too_short []
  pub lone39 : Selects lone 39 (40 ∷ []) (9 ∷ []) (selects 0) (9 ∷ [])
  -- a vector that waits is none
  pub deletes : commit_of lone 1 (delete_vector 0 0 0 ∷ []) 14 ≡ Ok waiting
  pub waiting40 : Selects waiting 40 (40 ∷ []) (9 ∷ []) (selects 0) (9 ∷ [])
  -- nor is one over another table's rowset
  pub adds_beside : commit_of (vector_drawn (rowset_drawn start)) 5 (create_table 0 7 slots ∷ create_table 1 7 rides ∷ add_rowset 0 0 ∷ add_rowset 1 0 ∷ add_vector 1 0 0 ∷ []) 50 ≡ Ok beside
  pub beside40 : Selects beside 40 (40 ∷ []) (9 ∷ []) (selects 0) (9 ∷ [])
