-- A checkpoint keeps what holds between calls, and is never refused where enough is lent. Assumes nothing.
use mathlib.Core.Path.{◌≡◌, refl, sym, ap, subst, ◌∙◌}
use mathlib.Core.Bool.{Bool, true, cond}
use mathlib.Core.List.{List, [], ◌∷◌}
use Prim.Native.Nat.{ℕ, ◌+◌, ◌≤◌}
use native.Mathlib.Omega.{arith}
use lib.ListN.{length, take}
use Rattle.std.specs.Prelude.{Ok}
use Rattle.lists.specs.Written.{over}
use Rattle.ids.specs.Ids.{Next}
use Rattle.ids.specs.Verdicts.{Verdict}
use Rattle.ids.specs.Answers.{Told, told, after}
use Rattle.version_state.specs.State.{State}
use Rattle.version_state.specs.Sets.{next_of}
use Rattle.version_state.proofs.Facts.{sound-of}
use Rattle.operations.proofs.Edits.{Risen}
use Rattle.rewrite.specs.Rewritten.{rewritten_of, longest_rewritten}
use Rattle.rewrite.specs.Says.{with_rewritten}
use Rattle.recovery.specs.Laws.{Replaces}
use Rattle.recovery.proofs.Appending.{replaces}
use Rattle.version_manager.specs.declared.VersionManager.{VersionManager}
use Rattle.version_manager.specs.Managers.{held_by, HandsBack}
use Rattle.version_manager.specs.Checkpoint.{checkpoint_verdict}
use Rattle.version_manager.proofs.Laws.{checkpoint-laws}
use Rattle.plain_record.specs.Calls.{as_checkpoint}
use Rattle.plain_record.specs.Plain.{Plain, gone, Record, recorded, turn}
use Rattle.plain_record.specs.Run.{port, no_append, World, world, is_accepted, value, replaced, DidCheckpoint}
use Rattle.plain_record.proofs.Invariant.{Filed, Torn, Inv, passes}
use Rattle.plain_record.proofs.Landed.{landed}
use Rattle.plain_record.proofs.CommitIds.{Rise, next-rise}
use Rattle.plain_record.proofs.Stands.{Stands, stands_of, of-stands, shows-now, refused-stands, by-verdict}
use Rattle.plain_record.proofs.Reopen.{replaced-torn, written-first}

module _ (w : World) (t : Told) (l : List (List ℕ)) (v : World) (out : List ℕ) (stale : Bool) (r : Record) (i : Inv w r) (d : DidCheckpoint port w t l v out stale) where
  abbrev m : VersionManager
  m = d.result.manager

  abbrev s : State
  s = held_by w.manager

  abbrev new : List ℕ
  new = rewritten_of s

  abbrev p : Plain
  p = r.whole

  abbrev verdict : Verdict
  verdict = checkpoint_verdict w.manager (length out)

  -- the manifest that it replaces holds what the manager shows, and so does the new one
  c : Replaces i.file.state w.manager.inner
  c = replaces w.file i.file.state w.manager.inner i.file.holds i.file.same (passes w r i) d.narrow

  rise : Rise s c.state
  rise = subst (λ (n : Next). Risen (next_of s) n) (sym c.next) (record { table = omega arith; rowset = omega arith; vector = omega arith })

  filed : Filed new (with_rewritten s) p
  filed = record { state = c.state; holds = c.holds; same = i.file.same ∙ sym c.sets; long = refl; next = next-rise s c.state p.added rise i.next }

  stood : Stands s w.book w.file p
  stood = stands_of w r i

  stands : Stands (with_rewritten s) w.book new p
  stands =
      record { book = i.book; epoch = i.epoch; tables = i.tables; pairs = i.pairs; vectors = i.vectors; pins = i.pins; waiting = i.waiting; next = next-rise s (with_rewritten s) p.added (record { table = omega arith; rowset = omega arith; vector = omega arith }) i.next; file = filed }

  old-torn : Torn w.file p
  old-torn = landed w.file s p (sound-of w.manager.inner (passes w r i)).manifest (shows-now s w.book w.file p stood) i.file

  new-torn : Torn new p
  new-torn = landed new (with_rewritten s) p (omega (arith, c.room)) (shows-now s w.book w.file p stood) filed

  handed-on : verdict ≡ Ok tt → Inv (replaced m w.book w.file new stale) (recorded p p gone (r.place + 1))
  handed-on q =
      let k = subst (λ (x : Verdict). HandsBack x w.manager (with_rewritten s) m) q d.says.manager in
      of-stands m w.book new (cond stale w.file new) no_append p p gone (r.place + 1) (checkpoint-laws.sound w.manager out d.result d.left d.says q)
      (subst (λ (u : State). Stands u w.book new p) (sym k.hands.state) stands)
      (replaced-torn w.file new p stale old-torn new-torn) k.nothing

  tells : t ≡ told verdict (length new ∷ [])
  tells = d.told ∙ d.says.answer

  -- the bytes that are handed out
  bytes : verdict ≡ Ok tt → take (value 0 t) d.left ≡ new
  bytes q =
      let n : value 0 t ≡ length new = ap (value 0) (tells ∙ ap (λ (x : Verdict). told x (length new ∷ [])) q) in
      let b : d.left ≡ over new out = d.says.bytes ∙ ap (λ (x : Verdict). after x (over new out) out) q in
      ap (λ (k : ℕ). take k d.left) n ∙ ap (take (length new)) b ∙ written-first new out

  pub checkpoint-kept : (id : ℕ) → Inv v (turn (as_checkpoint (length out)) (is_accepted t) id r)
  checkpoint-kept id =
      subst (λ (u : World). Inv u (turn (as_checkpoint (length out)) (is_accepted t) id r)) (sym d.after)
      (by-verdict (λ a. Inv (cond a (replaced m w.book w.file (take (value 0 t) d.left) stale) (world m w.book w.file w.torn w.last)) (turn (as_checkpoint (length out)) a id r)) verdict (length new ∷ []) t tells
      (λ q. rw (bytes q) (handed-on q))
      (λ j q. refused-stands w r m w.book (subst (λ (x : Verdict). HandsBack x w.manager (with_rewritten s) m) q d.says.manager) refl i))

  -- Over what a checkpoint did, as that of a reopen is over what it did: one lemma would take the hypotheses of both, and be no plainer.
  pub checkpoint-accepted : longest_rewritten ≤ length out → is_accepted t ≡ true
  checkpoint-accepted h = ap is_accepted (tells ∙ ap (λ (x : Verdict). told x (length new ∷ [])) (checkpoint-laws.accepted w.manager out d.result d.left d.says i.sound h))
