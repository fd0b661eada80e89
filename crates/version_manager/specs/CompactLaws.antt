-- What an accepted compaction hands out, whoever made the manager that it was given. Assumes nothing.
use Rattle.std.specs.Prelude.{◌≡◌, Bool, true, false, ◌||◌, List, ℕ, ◌≤◌, ltb, length, take, Ok}
use Rattle.ids.specs.declared.TableNo.{TableNo}
use Rattle.snapshot.specs.Tables.{TableEntry}
use Rattle.version_state.specs.State.{State, with_tables, pairs_at, vectors_at}
use Rattle.version_state.specs.Sound.{left_behind}
use Rattle.version_state.specs.Widths.{Narrow}
use Rattle.version_manager.specs.declared.VersionManager.{VersionManager}
use Rattle.version_manager.specs.Answered.{Committed}
use Rattle.version_manager.specs.Managers.{held_by, bad_manager}
use Rattle.version_manager.specs.Compact.{compact_verdict, CompactSays}
use Rattle.version_manager.specs.Select.{SelectSays}

-- the current epoch of s shows fewer pairs than that of u, or fewer vectors
abbrev pub shows_fewer : State → State → Bool
shows_fewer s u = ltb (length (pairs_at s.epoch s)) (length (pairs_at u.epoch u)) || ltb (length (vectors_at s.epoch s)) (length (vectors_at u.epoch u))

pub record CompactLaws : Type 0 where
  -- it passes 29
  pub sound : (m : VersionManager) (t : ℕ) (new taken out : List ℕ) (r : Committed) (out' : List ℕ) → Narrow (held_by m) → length new ≤ 1
      → CompactSays m t new taken out r out' → compact_verdict m t new taken (length out) ≡ Ok tt → bad_manager r.manager ≡ false
  -- it shows no vector over a rowset that is not shown
  pub covered : (m : VersionManager) (t : ℕ) (new taken out : List ℕ) (r : Committed) (out' : List ℕ) → Narrow (held_by m) → length new ≤ 1
      → CompactSays m t new taken out r out' → compact_verdict m t new taken (length out) ≡ Ok tt
      → left_behind (held_by r.manager).epoch (held_by r.manager) ≡ false
  -- of the n rowsets that a selection by m took, with a new rowset or none; k holds what m did, but for the tables' locks: it shows fewer pairs or
  -- fewer vectors than before
  pub smaller : (m : VersionManager) (t : TableNo) (target : ℕ) (ns out : List ℕ) (n : ℕ) (chosen : List ℕ) → SelectSays m t target ns out (Ok n) chosen → 1 ≤ n
      → (k : VersionManager) (tables : List TableEntry) → held_by k ≡ with_tables (held_by m) tables
      → (new room : List ℕ) (r : Committed) (room' : List ℕ) → Narrow (held_by k) → length new ≤ 1
      → CompactSays k t.0 new (take n chosen) room r room' → compact_verdict k t.0 new (take n chosen) (length room) ≡ Ok tt
      → shows_fewer (held_by r.manager) (held_by k) ≡ true
