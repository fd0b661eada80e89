-- What an accepted compaction hands out. Assumes nothing.
use mathlib.Core.Path.{◌≡◌, sym, ap, subst, ◌∙◌}
use mathlib.Core.Bool.{true, false, ◌||◌}
use mathlib.Core.List.{List}
use Prim.Native.Nat.{ℕ, ◌≤◌}
use native.Mathlib.Omega.{arith}
use lib.Dec.{leb}
use lib.ListN.{length, take}
use Rattle.std.specs.Prelude.{Ok}
use Rattle.lists.proofs.Keyed.{Ascending, ascend-to}
use Rattle.ids.specs.declared.TableNo.{TableNo}
use Rattle.ids.specs.declared.refusal.Refusal.TheVariants.{BadManager}
use Rattle.ids.specs.Verdicts.{Verdict}
use Rattle.ids.specs.Answers.{Told}
use Rattle.manifest.specs.Operations.{Operation}
use Rattle.snapshot.specs.Tables.{TableEntry}
use Rattle.commit.specs.Commit.{append_of}
use Rattle.version_state.proofs.Facts.{sound-of}
use Rattle.version_state.specs.State.{with_tables}
use Rattle.version_state.specs.Widths.{Narrow}
use Rattle.table.specs.Made.{by_number, committed}
use Rattle.table.specs.Compact.{compacted_by, compact_rules}
use Rattle.table.proofs.Laws.{made-laws}
use Rattle.compactor.specs.Selection.{any_over, taken_now, selected}
use Rattle.compactor.proofs.Rising.{selected-rises}
use Rattle.version_manager.specs.declared.VersionManager.{VersionManager}
use Rattle.version_manager.specs.Answered.{Committed}
use Rattle.version_manager.specs.Managers.{held_by, bad_manager, HandsOn}
use Rattle.version_manager.specs.Compact.{compact_verdict, CompactSays}
use Rattle.version_manager.specs.Made.{MadeSays}
use Rattle.version_manager.specs.Select.{select_verdict, SelectSays}
use Rattle.version_manager.specs.CompactLaws.{shows_fewer, CompactLaws}
use Rattle.version_manager.proofs.Managers.{inner-passes}
use Rattle.version_manager.proofs.TableLaws.{passed, made-sound}
use Rattle.version_manager.proofs.Smaller.{selected-enough, smaller-then, took}

sound : (m : VersionManager) (t : ℕ) (new taken out : List ℕ) (r : Committed) (out' : List ℕ) → Narrow (held_by m) → length new ≤ 1
    → CompactSays m t new taken out r out' → compact_verdict m t new taken (length out) ≡ Ok tt → bad_manager r.manager ≡ false
sound m t new taken out r out' w few h e =
    let p = passed (bad_manager m) BadManager (compact_rules (held_by m) t new taken (length out)) e in
    made-sound _ (compacted_by (held_by m) t new taken) _ m out _ r.manager out' h e p.0 (made-laws.compact m.inner t new taken (length out) (inner-passes m p.0) w few p.1).accepts

-- an accepted one stands for what its commit leaves
made-state : (v : Verdict) (os : List Operation) (values : List ℕ) (m : VersionManager) (out : List ℕ) (t : Told) (n : VersionManager) (out' : List ℕ)
    → MadeSays v os values m out t n out' → v ≡ Ok tt → held_by n ≡ committed os (held_by m)
made-state v os values m out t n out' h e = (subst (λ (d : Verdict). HandsOn d m (committed os (held_by m)) (length (append_of os)) n) e h.manager).hands.state

smaller : (m : VersionManager) (t : TableNo) (target : ℕ) (ns out : List ℕ) (n : ℕ) (chosen : List ℕ) → SelectSays m t target ns out (Ok n) chosen → 1 ≤ n
    → (k : VersionManager) (tables : List TableEntry) → held_by k ≡ with_tables (held_by m) tables
    → (new room : List ℕ) (r : Committed) (room' : List ℕ) → Narrow (held_by k) → length new ≤ 1
    → CompactSays k t.0 new (take n chosen) room r room' → compact_verdict k t.0 new (take n chosen) (length room) ≡ Ok tt
    → shows_fewer (held_by r.manager) (held_by k) ≡ true
smaller m t target ns out n chosen a some k tables same new room r room' w few h e =
    let d = took (held_by m) t.0 target ns out (select_verdict m t target ns (length out)) n chosen a in
    let q : selected t.0 target ns (held_by k) ≡ selected t.0 target ns (held_by m) = ap (selected t.0 target ns) same in
    let rs = take n chosen in
    let is : rs ≡ selected t.0 target ns (held_by k) = d.1 ∙ sym q in
    let p = passed (bad_manager k) BadManager (compact_rules (held_by k) t.0 new rs (length room)) e in
    let b = inner-passes k p.0 in
    let rising : Ascending by_number rs = subst (Ascending by_number) (sym is) (ascend-to by_number _ (selected-rises k.inner b t.0 target ns)) in
    let enough : leb 2 (length rs) || any_over t.0 rs (held_by k) ≡ true =
    subst (λ l. leb 2 (length l) || any_over t.0 l (held_by k) ≡ true) (sym is)
    (selected-enough t.0 (taken_now t.0 target ns (held_by k)) (held_by k) (let z = ap length q in omega (arith, d.0, some, z))) in
    subst (λ s. shows_fewer s (held_by k) ≡ true) (sym (made-state _ (compacted_by (held_by k) t.0 new rs) _ k room _ r.manager room' h e))
    (smaller-then k.inner b w t.0 new rs few rising (length room) p.1 enough)

pub compact-laws : CompactLaws
compact-laws =
    record {
      sound = sound;
      covered = λ m t new taken out r out' w few h e. (sound-of r.manager.inner (inner-passes r.manager (sound m t new taken out r out' w few h e))).whole;
      smaller = smaller;
    }
