-- The laws of commits that a call makes itself. Assumes nothing.
use mathlib.Core.Path.{◌≡◌}
use mathlib.Core.Bool.{true, false, not, ◌&&◌}
use mathlib.Core.List.{List, [], ◌∷◌, ◌++◌, map}
use Prim.Native.Nat.{ℕ, ◌+◌, ◌≤◌}
use native.Mathlib.Omega.{arith}
use lib.Dec.{leb}
use lib.ListN.{length, length-append, length-map}
use borrow.Author.Tests.{leb-false, ltb-false, not-false}
use Rattle.std.specs.Prelude.{Ok}
use Rattle.lists.specs.Keyed.{keep, all_of, has, ascending}
use Rattle.lists.proofs.Tests.{both, neither}
use Rattle.lists.proofs.Keyed.{all_of-all, ascend-to}
use Rattle.ids.specs.Ids.{largest32, is_id32}
use Rattle.ids.specs.Limits.{most_tables, most_held, last_epoch, longest_manifest, most_operations}
use Rattle.ids.specs.Verdicts.{judged}
use Rattle.ids.proofs.Verdicts.{none-judged}
use Rattle.snapshot.specs.Entries.{by_ids}
use Rattle.version_state.specs.declared.VersionManagerInner.{VersionManagerInner}
use Rattle.version_state.specs.State.{state_of, pairs_at, vectors_at}
use Rattle.version_state.specs.Sound.{bad_inner}
use Rattle.version_state.proofs.Facts.{sound-of}
use Rattle.manifest.specs.Operations.{add_rowset, delete_rowset}
use Rattle.operations.specs.Judge.{is_shown}
use Rattle.commit.specs.Commit.{append_of}
use Rattle.table.specs.Made.{committed, of_table, by_number, is_over, delete_vector_of}
use Rattle.table.specs.Create.{created_by, create_rules}
use Rattle.table.specs.Drop.{dropped_by, drop_rules}
use Rattle.table.specs.Compact.{compacted_by, compact_rules, valid_compaction}
use Rattle.version_state.specs.Widths.{Narrow}
use Rattle.table.specs.Laws.{Accepts, MadeLaws, Compacts}
use Rattle.table.proofs.Creating.{create-accepts}
use Rattle.table.proofs.Dropping.{drop-accepts, drop-pairs, drop-vectors}
use Rattle.table.proofs.Compacting.{few, none-compacts, one-compacts}

create-law : (m : VersionManagerInner) (shape : ℕ) (name : List ℕ) (room : ℕ) → bad_inner m ≡ false → shape ≤ largest32
    → judged (create_rules (state_of m) shape name room) ≡ Ok tt → Accepts (state_of m) (created_by (state_of m) shape name) room
create-law m shape name room b h j =
    let s = state_of m in
    let p = none-judged (create_rules s shape name room) j in
    create-accepts m (sound-of m b) shape name h (not-false _ p.0) (leb-false largest32 s.next_table p.1.1.1.1.1.0) p.1.0 (leb-false most_tables (length s.tables) p.1.1.1.0)
    room (leb-false last_epoch s.epoch p.1.1.0) (ltb-false longest_manifest (s.manifest + length (append_of (created_by s shape name))) p.1.1.1.1.0) (ltb-false room (length (append_of (created_by s shape name))) p.1.1.1.1.1.1.0)

drop-law : (m : VersionManagerInner) (t room : ℕ) → bad_inner m ≡ false → Narrow (state_of m)
    → judged (drop_rules (state_of m) t room) ≡ Ok tt → Accepts (state_of m) (dropped_by (state_of m) t) room
drop-law m t room b w j =
    let s = state_of m in
    let p = none-judged (drop_rules s t room) j in
    drop-accepts m (sound-of m b) w t (not-false _ p.0) (not-false _ p.1.0)
    room (leb-false last_epoch s.epoch p.1.1.0) (ltb-false longest_manifest (s.manifest + length (append_of (dropped_by s t))) p.1.1.1.0) (ltb-false room (length (append_of (dropped_by s t))) p.1.1.1.1.0)

-- what a drop that is accepted shows
module _ (m : VersionManagerInner) (t room : ℕ) (b : bad_inner m ≡ false) (w : Narrow (state_of m)) (j : judged (drop_rules (state_of m) t room) ≡ Ok tt) where
  pairs-law : pairs_at (m.epoch + 1) (committed (dropped_by (state_of m) t) (state_of m)) ≡ keep (λ k. not (of_table t k)) (pairs_at m.epoch (state_of m))
  pairs-law = let p = none-judged (drop_rules (state_of m) t room) j in drop-pairs m (sound-of m b) w t (not-false _ p.0) (not-false _ p.1.0)

  vectors-law : vectors_at (m.epoch + 1) (committed (dropped_by (state_of m) t) (state_of m)) ≡ keep (λ k. not (of_table t k)) (vectors_at m.epoch (state_of m))
  vectors-law = let p = none-judged (drop_rules (state_of m) t room) j in drop-vectors m (sound-of m b) w t (not-false _ p.0) (not-false _ p.1.0)

compact-law : (m : VersionManagerInner) (t : ℕ) (new taken : List ℕ) (room : ℕ) → bad_inner m ≡ false → Narrow (state_of m) → length new ≤ 1
    → judged (compact_rules (state_of m) t new taken room) ≡ Ok tt → Compacts (state_of m) t new taken room
compact-law m t [] taken room b w few j =
    let s = state_of m in
    let p = none-judged (compact_rules s t [] taken room) j in
    let v = both (is_id32 t) (all_of is_id32 taken && ascending by_number taken) (not-false _ p.0) in
    let u = both (all_of is_id32 taken) (ascending by_number taken) v.1 in
    none-compacts m (sound-of m b) w t v.0 taken (all_of-all is_id32 taken u.0) (ascend-to by_number taken u.1) (all_of-all _ taken (not-false _ p.1.1.1.0))
    room (leb-false last_epoch s.epoch p.1.1.1.1.1.1.0) (ltb-false longest_manifest (s.manifest + length (append_of (compacted_by s t [] taken))) p.1.1.1.1.1.1.1.1.0) (ltb-false room (length (append_of (compacted_by s t [] taken))) p.1.1.1.1.1.1.1.1.1.1.0)
compact-law m t (r ∷ []) taken room b w few j =
    let s = state_of m in
    let new = r ∷ [] in
    let p = none-judged (compact_rules s t new taken room) j in
    let v = both (is_id32 t) ((is_id32 r && true) && (all_of is_id32 taken && ascending by_number taken)) (not-false _ p.0) in
    let x = both (is_id32 r && true) (all_of is_id32 taken && ascending by_number taken) v.1 in
    let y = both (is_id32 r) true x.0 in
    let u = both (all_of is_id32 taken) (ascending by_number taken) x.1 in
    let drawn = neither (leb s.next_rowset r) false p.1.1.1.1.0 in
    let held = neither (has by_ids (t ∷ r ∷ []) s.pairs) false p.1.1.1.1.1.0 in
    let full = neither (leb most_held (length s.pairs)) false p.1.1.1.1.1.1.1.0 in
    one-compacts m (sound-of m b) w t v.0 taken (all_of-all is_id32 taken u.0) (ascend-to by_number taken u.1) (all_of-all _ taken (not-false _ p.1.1.1.0))
    r y.0 (not-false _ p.1.1.0) (leb-false s.next_rowset r drawn.0) held.0 (leb-false most_held (length s.pairs) full.0)
    room (leb-false last_epoch s.epoch p.1.1.1.1.1.1.0) (ltb-false longest_manifest (s.manifest + length (append_of (compacted_by s t new taken))) p.1.1.1.1.1.1.1.1.0) (ltb-false room (length (append_of (compacted_by s t new taken))) p.1.1.1.1.1.1.1.1.1.1.0)
compact-law m t (r ∷ q ∷ new) taken room b w few j = absurd (omega arith)

few-law : (m : VersionManagerInner) (t : ℕ) (new taken : List ℕ) → bad_inner m ≡ false → Narrow (state_of m) → valid_compaction (state_of m) t new taken ≡ true → length new ≤ 1
    → all_of (λ r. is_shown m.epoch (t ∷ r ∷ []) (state_of m).pairs) taken ≡ true → length (compacted_by (state_of m) t new taken) ≤ most_operations
few-law m t new taken b w v h shown =
    let a = both (is_id32 t) (all_of is_id32 new && (all_of is_id32 taken && ascending by_number taken)) v in
    let x = both (all_of is_id32 new) (all_of is_id32 taken && ascending by_number taken) a.1 in
    let u = both (all_of is_id32 taken) (ascending by_number taken) x.1 in
    let n = few m (sound-of m b) w t a.0 taken (all_of-all is_id32 taken u.0) (ascend-to by_number taken u.1) (all_of-all _ taken shown) (length new) h in
    let vs = keep (is_over t taken) (vectors_at m.epoch (state_of m)) in
    omega (arith, n, length-append (map (add_rowset t) new) (map delete_vector_of vs ++ map (delete_rowset t) taken), length-map new (add_rowset t))

pub made-laws : MadeLaws
made-laws = record { create = create-law; drop = drop-law; compact = compact-law; few = few-law; drop_pairs = pairs-law; drop_vectors = vectors-law }
