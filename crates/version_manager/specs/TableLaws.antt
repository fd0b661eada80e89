-- What create and drop hand out passes 29, whoever made the manager that they were given, and a refused create changes nothing. Assumes nothing.
use Rattle.std.specs.Prelude.{◌≡◌, false, List, ℕ, ◌≤◌, length, Ok, Err}
use Rattle.ids.specs.Ids.{largest32}
use Rattle.ids.specs.declared.refusal.Refusal.{Refusal}
use Rattle.version_state.specs.Widths.{Narrow}
use Rattle.version_manager.specs.declared.VersionManager.{VersionManager}
use Rattle.version_manager.specs.Answered.{Committed, Created}
use Rattle.version_manager.specs.Managers.{held_by, bad_manager}
use Rattle.version_manager.specs.Create.{create_verdict, CreateSays}
use Rattle.version_manager.specs.Drop.{drop_verdict, DropSays}

pub record TableLaws : Type 0 where
  pub create : (m : VersionManager) (shape : ℕ) (name out : List ℕ) (r : Created) (out' : List ℕ) → shape ≤ largest32
      → CreateSays m shape name out r out' → create_verdict m shape name (length out) ≡ Ok tt → bad_manager r.manager ≡ false
  pub drop : (m : VersionManager) (t : ℕ) (out : List ℕ) (r : Committed) (out' : List ℕ) → Narrow (held_by m)
      → DropSays m t out r out' → drop_verdict m t (length out) ≡ Ok tt → bad_manager r.manager ≡ false
  -- the very same manager, and nothing written
  pub create_refused : (m : VersionManager) (shape : ℕ) (name out : List ℕ) (r : Created) (out' : List ℕ) (k : Refusal)
      → CreateSays m shape name out r out' → create_verdict m shape name (length out) ≡ Err k → (r.manager ≡ m) × (out' ≡ out)
