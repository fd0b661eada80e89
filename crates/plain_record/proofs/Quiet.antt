-- A call that changes nothing in the record keeps the invariant. Assumes nothing.
use mathlib.Core.Path.{◌≡◌, refl, sym, ap, subst, ◌∙◌}
use mathlib.Core.Bool.{false}
use mathlib.Core.List.{List, map}
use Prim.Native.Nat.{ℕ, ◌+◌, ◌≤◌}
use native.Mathlib.Omega.{arith}
use Rattle.std.specs.Prelude.{Ok, Err}
use Rattle.ids.specs.Verdicts.{Verdict}
use Rattle.ids.specs.Answers.{Told, told}
use Rattle.version_state.specs.State.{State, with_next}
use Rattle.pins.specs.declared.PinBook.{PinBook}
use Rattle.version_manager.specs.declared.VersionManager.{VersionManager}
use Rattle.version_manager.specs.Managers.{held_by, bad_manager, HandsBack}
use Rattle.version_state.specs.Sets.{unlocked}
use Rattle.plain_record.specs.Calls.{quiet}
use Rattle.plain_record.specs.Plain.{Plain, gone, Record, turn}
use Rattle.plain_record.specs.Run.{World, is_accepted, onward}
use Rattle.plain_record.proofs.Invariant.{plain_table, Inv}
use Rattle.plain_record.proofs.CommitSets.{plain-unlocked}
use Rattle.plain_record.proofs.CommitIds.{Rise, next-rise}
use Rattle.plain_record.proofs.Stands.{Stands, stands_of, accepted-stands, onward-kept}

-- the state u is s, but for locks and next ids that have risen
pub record Unmoved (s u : State) : Type 0 where
  pub epoch : u.epoch ≡ s.epoch
  pub tables : map unlocked u.tables ≡ map unlocked s.tables
  pub pairs : u.pairs ≡ s.pairs
  pub vectors : u.vectors ≡ s.vectors
  pub manifest : u.manifest ≡ s.manifest
  pub next : Rise s u

-- next ids of rowsets and vectors that rise
pub unmoved-raised : (s : State) (r v : ℕ) → s.next_rowset ≤ r → s.next_vector ≤ v → Unmoved s (with_next s s.next_table r v)
unmoved-raised s r v h k =
    record { epoch = refl; tables = refl; pairs = refl; vectors = refl; manifest = refl; next = record { table = omega arith; rowset = h; vector = k } }

stands-unmoved : (s u : State) (b : PinBook) (f : List ℕ) (p : Plain) → Unmoved s u → Stands s b f p → Stands u b f p
stands-unmoved s u b f p a k =
    record {
      book = rw a.epoch k.book;
      epoch = a.epoch ∙ k.epoch;
      tables = sym (plain-unlocked u.tables) ∙ ap (map plain_table) a.tables ∙ plain-unlocked s.tables ∙ k.tables;
      pairs = rw (a.epoch, a.pairs) k.pairs;
      vectors = rw (a.epoch, a.vectors) k.vectors;
      pins = k.pins;
      waiting = rw a.pairs k.waiting;
      next = next-rise s u p.added a.next k.next;
      file =
          record {
            state = k.file.state;
            holds = k.file.holds;
            same = rw (a.epoch, a.tables, a.pairs, a.vectors) k.file.same;
            long = k.file.long ∙ sym a.manifest;
            next = k.file.next;
          };
    }

-- a call that hands on the manager m, which stands for s where it is accepted
pub quiet-kept : (id : ℕ) (w : World) (r : Record) (m : VersionManager) (s : State) (x : Verdict) (vs : List ℕ) (t : Told) (v : World) → Inv w r
    → v ≡ onward m w.book t w → t ≡ told x vs → HandsBack x w.manager s m → (x ≡ Ok tt → bad_manager m ≡ false) → Unmoved (held_by w.manager) s
    → Inv v (turn quiet (is_accepted t) id r)
quiet-kept id w r m s x vs t v i after e back sound a =
    onward-kept quiet id w r m w.book x vs t v i after e
    (λ q. accepted-stands m w.book w.file w.last s r.whole gone (r.place + 1) (sound q) (handed (Ok tt) q).hands.state
    (stands-unmoved (held_by w.manager) s w.book w.file r.whole a (stands_of w r i)) (handed (Ok tt) q).nothing)
    (λ j q. (handed (Err j) q, refl))
  where
    handed : (y : Verdict) → x ≡ y → HandsBack y w.manager s m
    handed y q = subst (λ (z : Verdict). HandsBack z w.manager s m) q back
