-- `VersionManagerInner` and the methods of `VersionManager` and `Version`, of version_manager.rs. Assumes nothing.
use Rattle.std.specs.Prelude.{Bool, false, cond, not, List, [], ◌∷◌, ◌++◌, ℕ, ◌+◌, ◌-◌, min, eqb, leb}
use Rattle.std.proofs.Math.Option.{Option, none, some}
use Rattle.lists.specs.Keyed.{keep, without}
use Rattle.manifest.specs.Operations.{Operation, create_table, drop_table, add_rowset, delete_rowset, add_vector, delete_vector, next_ids}
use Rattle.plain_record.specs.Sets.{itself}
use Rattle.risinglight.specs.Maps.{Outcome, ok, and_then, unwrap, unwrap_or, Binding, get, insert, remove, keys}
use Rattle.risinglight.specs.Snapshot.{Snapshot, default, snapshot_add_rowset, snapshot_delete_rowset, snapshot_add_dv, snapshot_delete_dv}

pub record Inner : Type 0 where
  pub status : List (Binding Snapshot)
  -- the pools of rowsets, by (table, rowset), and of vectors, by (table, vector): what has an object
  pub rowsets : List (List ℕ)
  pub dvs : List (List ℕ)
  pub ref_cnt : List (Binding ℕ)
  -- by epoch: pairs (table, rowset)
  pub rowset_deletion_to_apply : List (Binding (List (List ℕ)))
  pub epoch : ℕ

abbrev pub inner : List (Binding Snapshot) → List (List ℕ) → List (List ℕ) → List (Binding ℕ) → List (Binding (List (List ℕ))) → ℕ → Inner
inner s r v c d e = record { status = s; rowsets = r; dvs = v; ref_cnt = c; rowset_deletion_to_apply = d; epoch = e }

-- `VersionManagerInner::default`
abbrev pub fresh : Inner
fresh = inner [] [] [] [] [] 0

-- an object in the place of what has its key
abbrev pub pooled : List ℕ → List (List ℕ) → List (List ℕ)
pooled k l = k ∷ without itself k l

-- `commit_changes`: the snapshot, the pools and the deletions, operation by operation
pub record Changing : Type 0 where
  pub snapshot : Snapshot
  pub rowsets : List (List ℕ)
  pub dvs : List (List ℕ)
  pub deletions : List (List ℕ)

abbrev pub changing : Snapshot → List (List ℕ) → List (List ℕ) → List (List ℕ) → Changing
changing s r v d = record { snapshot = s; rowsets = r; dvs = v; deletions = d }

abbrev pub change : Operation → Changing → Outcome Changing
change (create_table t h n) c = ok c
change (drop_table t) c = ok c
change (add_rowset t r) c = ok (changing (snapshot_add_rowset t r c.snapshot) (pooled (t ∷ r ∷ []) c.rowsets) c.dvs c.deletions)
change (delete_rowset t r) c =
    and_then (snapshot_delete_rowset t r c.snapshot) (λ s. ok (changing s c.rowsets c.dvs (c.deletions ++ ((t ∷ r ∷ []) ∷ []))))
change (add_vector t r v) c = ok (changing (snapshot_add_dv t r v c.snapshot) c.rowsets (pooled (t ∷ v ∷ []) c.dvs) c.deletions)
change (delete_vector t r v) c = and_then (snapshot_delete_dv t r v c.snapshot) (λ s. ok (changing s c.rowsets c.dvs c.deletions))
change (next_ids t r v) c = ok c

abbrev pub changes : List Operation → Changing → Outcome Changing
changes [] c = ok c
changes (o ∷ os) c = and_then (change o c) (changes os)

abbrev pub latest : Inner → Snapshot
latest m = unwrap_or default (get m.epoch m.status)

abbrev pub committed : Inner → Changing → Inner
committed m c =
    let e = m.epoch + 1 in
    inner (insert e c.snapshot m.status) c.rowsets c.dvs m.ref_cnt (insert e c.deletions m.rowset_deletion_to_apply) e

-- the new epoch is the answer
abbrev pub commit_changes : List Operation → Inner → Outcome Inner
commit_changes ops m = and_then (changes ops (changing (latest m) m.rowsets m.dvs [])) (λ c. ok (committed m c))

-- `pin`: the `Version`, and what is left
pub record Pinned : Type 0 where
  pub epoch : ℕ
  pub snapshot : Snapshot
  pub left : Inner

abbrev pub with_counts : List (Binding ℕ) → Inner → Inner
with_counts c m = inner m.status m.rowsets m.dvs c m.rowset_deletion_to_apply m.epoch

abbrev pub pin : Inner → Outcome Pinned
pin m =
    let n = unwrap_or 0 (get m.epoch m.ref_cnt) in
    and_then (unwrap (get m.epoch m.status))
    (λ s. ok (record { epoch = m.epoch; snapshot = s; left = with_counts (insert m.epoch (n + 1) m.ref_cnt) m }))

-- `Drop` of a `Version` of epoch e: whether a notice is sent, and what is left
pub record Dropped : Type 0 where
  pub notice : Bool
  pub left : Inner

abbrev pub dropped : Bool → Inner → Dropped
dropped b m = record { notice = b; left = m }

abbrev pub drop : ℕ → Inner → Outcome Dropped
drop e m =
    and_then (unwrap (get e m.ref_cnt))
    (λ n. ok (cond (eqb (n - 1) 0)
    (dropped (not (eqb e m.epoch)) (with_counts (remove e m.ref_cnt) m))
    (dropped false (with_counts (insert e (n - 1) m.ref_cnt) m))))

-- `find-vacuum`
abbrev pub smallest : ℕ → List ℕ → ℕ
smallest x [] = x
smallest x (y ∷ l) = min x (smallest y l)

abbrev pub minimum : List ℕ → Option ℕ
minimum [] = none
minimum (x ∷ l) = some (smallest x l)

abbrev pub vacuum_epoch : Inner → ℕ
vacuum_epoch m = unwrap_or m.epoch (minimum (keys m.ref_cnt))

abbrev pub can_apply : Inner → Binding (List (List ℕ)) → Bool
can_apply m b = leb b.key (vacuum_epoch m)

abbrev pub extended : List (Binding (List (List ℕ))) → List (List ℕ)
extended [] = []
extended (b ∷ l) = b.value ++ extended l

-- the deletions, and what is left
pub record Vacuumed : Type 0 where
  pub deletions : List (List ℕ)
  pub left : Inner

-- what is listed leaves the pool
abbrev pub released : List (List ℕ) → List (List ℕ) → List (List ℕ)
released [] pool = pool
released (k ∷ l) pool = released l (without itself k pool)

abbrev pub find_vacuum : Inner → Vacuumed
find_vacuum m =
    let d = m.rowset_deletion_to_apply in
    let l = extended (keep (can_apply m) d) in
    record { deletions = l; left = inner m.status (released l m.rowsets) m.dvs m.ref_cnt (keep (λ b. not (can_apply m b)) d) m.epoch }
