-- `Snapshot` of version_manager.rs: what an epoch has. Assumes nothing.
use Rattle.std.specs.Prelude.{Bool, cond, List, [], ℕ}
use Rattle.risinglight.specs.Maps.{Outcome, ok, and_then, unwrap, unwrap_or, contains, with_number, without_number, is_empty, Binding, get, insert, remove}

pub record Snapshot : Type 0 where
  -- by table: rowsets
  pub rowsets : List (Binding (List ℕ))
  -- by table and rowset: vectors
  pub dvs : List (Binding (List (Binding (List ℕ))))

abbrev pub snapshot : List (Binding (List ℕ)) → List (Binding (List (Binding (List ℕ)))) → Snapshot
snapshot r d = record { rowsets = r; dvs = d }

abbrev pub default : Snapshot
default = snapshot [] []

-- a set or map that holds nothing any more is removed
abbrev pub settled : {A : Type 0} → ℕ → List A → List (Binding (List A)) → List (Binding (List A))
settled k l m = cond (is_empty l) (remove k m) (insert k l m)

abbrev pub snapshot_add_rowset : ℕ → ℕ → Snapshot → Snapshot
snapshot_add_rowset t r s = snapshot (insert t (with_number r (unwrap_or [] (get t s.rowsets))) s.rowsets) s.dvs

abbrev pub snapshot_delete_rowset : ℕ → ℕ → Snapshot → Outcome Snapshot
snapshot_delete_rowset t r s = and_then (unwrap (get t s.rowsets)) (λ table. ok (snapshot (settled t (without_number r table) s.rowsets) s.dvs))

abbrev pub snapshot_add_dv : ℕ → ℕ → ℕ → Snapshot → Snapshot
snapshot_add_dv t r v s =
    let table = unwrap_or [] (get t s.dvs) in
    snapshot s.rowsets (insert t (insert r (with_number v (unwrap_or [] (get r table))) table) s.dvs)

abbrev pub snapshot_delete_dv : ℕ → ℕ → ℕ → Snapshot → Outcome Snapshot
snapshot_delete_dv t r v s =
    and_then (unwrap (get t s.dvs))
    (λ table. and_then (unwrap (get r table)) (λ dvs. ok (snapshot s.rowsets (settled t (settled r (without_number v dvs) table) s.dvs))))

-- what it has
abbrev pub has_rowset : ℕ → ℕ → Snapshot → Bool
has_rowset t r s = contains r (unwrap_or [] (get t s.rowsets))

abbrev pub has_dv : ℕ → ℕ → ℕ → Snapshot → Bool
has_dv t r v s = contains v (unwrap_or [] (get r (unwrap_or [] (get t s.dvs))))
