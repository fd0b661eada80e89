-- Entries on deletions and pins, of every manager and book that stand for a state and its pins. Assumes nothing.
use Rattle.std.specs.Prelude.{◌≡◌, false, List, [], ◌∷◌, Ok}
use Rattle.manifest.specs.Operations.{create_table, add_rowset, delete_rowset}
use Rattle.snapshot.specs.Entries.{Entry}
use Rattle.version_state.specs.State.{State, start, Hands}
use Rattle.commit.specs.Commit.{commit_of}
use Rattle.pins.specs.declared.PinBook.{PinBook}
use Rattle.pins.specs.Book.{PinEntry, place_on, Keeps}
use Rattle.pins.specs.Counts.{with_pin, without_pin}
use Rattle.vacuum.specs.LetGo.{vacuumed}
use Rattle.vacuum.specs.Says.{bound_of, list_of}
use Rattle.version_manager.specs.declared.VersionManager.{VersionManager}
use Rattle.version_manager.specs.Managers.{held_by, bad_former, bad_manager}
use Rattle.version_manager.specs.Draw.{rowset_drawn}
use Rattle.version_manager.specs.Vacuum.{vacuum_verdict}
use Rattle.log_book.specs.Manifests.{slots, table}

-- the pair (0, 0), added at epoch 1, and then deleted at 2
abbrev pub shown_pair : Entry
shown_pair = record { ids = 0 ∷ 0 ∷ []; added = 1; deleted = 0 }

abbrev pub pair : Entry
pair = record { ids = 0 ∷ 0 ∷ []; added = 1; deleted = 2 }

-- the pair is added at epoch 1, deleted at 2, and let go
abbrev pub one : State
one = record { epoch = 1; next_table = 1; next_rowset = 1; next_vector = 0; tables = table ∷ []; pairs = shown_pair ∷ []; vectors = []; manifest = 24 }

abbrev pub two : State
two = record { epoch = 2; next_table = 1; next_rowset = 1; next_vector = 0; tables = table ∷ []; pairs = pair ∷ []; vectors = []; manifest = 36 }

abbrev pub cleared : State
cleared = record { epoch = 2; next_table = 1; next_rowset = 1; next_vector = 0; tables = table ∷ []; pairs = []; vectors = []; manifest = 36 }

-- one pin on epoch 1 alone, one on 2 alone
abbrev pub on1 : List PinEntry
on1 = record { epoch = 1; count = 1 } ∷ []

abbrev pub on2 : List PinEntry
on2 = record { epoch = 2; count = 1 } ∷ []

-- a manager that 29 lets pass: the vacuum of it, lent one place in each slice, is accepted, lists es and leaves s
pub record Lists (m : VersionManager) (b : PinBook) (es : List Entry) (s : State) : Type 0 where
  pub passes : bad_manager m ≡ false
  pub verdict : vacuum_verdict m b 1 1 ≡ Ok tt
  pub list : list_of (held_by m) b ≡ es
  pub leaves : vacuumed (bound_of (held_by m) b) (held_by m) ≡ s

-- the same of every manager that stands for s, whatever it keeps that passes 29, and of every book that stands for the pins l
abbrev pub Vacuum : State → List PinEntry → List Entry → State → Type 0
Vacuum s l es t = (m : VersionManager) (b : PinBook) → Hands m.inner s → bad_former m ≡ false → Keeps b l → Lists m b es t

pub record VacuumCases : Type 0 where
  -- a pair is added at epoch 1 and pinned there, and deleted at 2
  pub adds : commit_of (rowset_drawn start) 2 (create_table 0 7 slots ∷ add_rowset 0 0 ∷ []) 24 ≡ Ok one
  pub pins : with_pin (place_on 1) [] ≡ on1
  pub deletes : commit_of one 1 (delete_rowset 0 0 ∷ []) 12 ≡ Ok two
  -- the pin keeps it; without the pin it is listed, and once
  pub pinned : Vacuum two on1 [] two
  pub unpins : without_pin (place_on 1) on1 ≡ []
  pub unpinned : Vacuum two [] (pair ∷ []) cleared
  pub then : Vacuum cleared [] [] cleared
  -- a pin on the deletion's own epoch does not keep it
  pub pins_later : with_pin (place_on 2) [] ≡ on2
  pub own_epoch : Vacuum two on2 (pair ∷ []) cleared
