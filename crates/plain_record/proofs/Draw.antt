-- Draws, grouping and locks keep the invariant: a next id rises or a lock changes, and all else is as before. Assumes nothing.
use mathlib.Core.Path.{◌≡◌, refl, subst, ◌∙◌}
use mathlib.Core.Bool.{Bool, false}
use mathlib.Core.List.{List, [], ◌∷◌}
use Prim.Native.Nat.{ℕ, ◌+◌}
use native.Mathlib.Omega.{arith}
use lib.ListN.{length}
use Rattle.std.specs.Prelude.{Ok}
use Rattle.ids.specs.declared.TableNo.{TableNo}
use Rattle.ids.specs.Verdicts.{Verdict}
use Rattle.ids.specs.Answers.{Told}
use Rattle.transaction.specs.declared.Handles.{Handles}
use Rattle.version_state.specs.State.{State}
use Rattle.transaction_manager.specs.Locks.{relocked}
use Rattle.transaction_manager.proofs.Laws.{relocked-sound, tables-kept}
use Rattle.version_manager.specs.declared.VersionManager.{VersionManager}
use Rattle.version_manager.specs.Managers.{held_by, bad_manager, HandsBack}
use Rattle.version_manager.specs.Draw.{rowset_verdict, vector_verdict, rowset_drawn, vector_drawn}
use Rattle.version_manager.specs.Group.{vectors_drawn, grouped_by, group_verdict}
use Rattle.version_manager.specs.Lock.{lock_verdict, RelockSays}
use Rattle.version_manager.proofs.Managers.{inner-passes, nothing-passes}
use Rattle.version_manager.proofs.Laws.{draw-laws}
use Rattle.plain_record.specs.Calls.{quiet}
use Rattle.plain_record.specs.Plain.{Record, turn}
use Rattle.plain_record.specs.Run.{World, is_accepted, port, DrewRowset, DrewVector, DidGroup, DidLock}
use Rattle.plain_record.proofs.Invariant.{Inv}
use Rattle.plain_record.proofs.Quiet.{Unmoved, unmoved-raised, quiet-kept}

module _ (id : ℕ) (w : World) (r : Record) (t : Told) (l : List (List ℕ)) (v : World) (i : Inv w r) where
  pub draw-rowset-kept : DrewRowset port w t l v → Inv v (turn quiet (is_accepted t) id r)
  draw-rowset-kept d =
      let s = held_by w.manager in
      quiet-kept id w r d.result.manager (rowset_drawn s) (rowset_verdict w.manager) (s.next_rowset ∷ []) t v i d.after (d.told ∙ d.says.answer) d.says.manager
      (draw-laws.rowset w.manager d.result d.says) (unmoved-raised s (s.next_rowset + 1) s.next_vector (omega arith) (omega arith))

  pub draw-vector-kept : DrewVector port w t l v → Inv v (turn quiet (is_accepted t) id r)
  draw-vector-kept d =
      let s = held_by w.manager in
      quiet-kept id w r d.result.manager (vector_drawn s) (vector_verdict w.manager) (s.next_vector ∷ []) t v i d.after (d.told ∙ d.says.answer) d.says.manager
      (draw-laws.vector w.manager d.result d.says) (unmoved-raised s s.next_rowset (s.next_vector + 1) (omega arith) (omega arith))

  pub group-kept : (h : Handles) (rs ls cs fs ms : List ℕ) → DidGroup port w t l v h rs ls cs fs ms → Inv v (turn quiet (is_accepted t) id r)
  group-kept h rs ls cs fs ms d =
      let s = held_by w.manager in
      let n = length (grouped_by h) in
      quiet-kept id w r d.result.manager (vectors_drawn n s) (group_verdict w.manager h rs ls cs fs ms) (n ∷ s.next_vector ∷ []) t v i d.after (d.told ∙ d.says.answer) d.says.manager
      (draw-laws.group w.manager h rs ls cs fs ms d.result d.rowsets d.lengths d.counts d.files d.memories d.says) (unmoved-raised s s.next_rowset (s.next_vector + n) (omega arith) (omega arith))

  unmoved-relocked : (n : ℕ) (b : Bool) (s : State) → Unmoved s (relocked n b s)
  unmoved-relocked n b s =
      record { epoch = refl; tables = tables-kept n b s; pairs = refl; vectors = refl; manifest = refl; next = record { table = omega arith; rowset = omega arith; vector = omega arith } }

  relock-sound : (m o : VersionManager) (n : ℕ) (b : Bool) (x : Verdict) → bad_manager m ≡ false → HandsBack x m (relocked n b (held_by m)) o → x ≡ Ok tt → bad_manager o ≡ false
  relock-sound m o n b x h k q =
      let g = subst (λ (y : Verdict). HandsBack y m (relocked n b (held_by m)) o) q k in
      nothing-passes o (relocked-sound n b m.inner o.inner (inner-passes m h) g.hands) g.nothing

  pub relock-kept : (b : Bool) (n : TableNo) → DidLock port w t l v (λ m o x. RelockSays m o b x) n → Inv v (turn quiet (is_accepted t) id r)
  relock-kept b n d =
      let s = held_by w.manager in
      quiet-kept id w r d.result.manager (relocked n.0 b s) (lock_verdict w.manager n.0 b) [] t v i d.after (d.told ∙ d.says.answer) d.says.manager
      (relock-sound w.manager d.result.manager n.0 b (lock_verdict w.manager n.0 b) i.sound d.says.manager) (unmoved-relocked n.0 b s)
