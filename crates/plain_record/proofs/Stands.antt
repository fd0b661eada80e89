-- The invariant by the manager's state alone, and the two turns of a call that leaves the file as it is: refused and accepted. Assumes nothing.
use mathlib.Core.Path.{◌≡◌, refl, sym, ap, subst, ◌∙◌}
use mathlib.Core.Bool.{Bool, true, false, cond}
use mathlib.Core.List.{List, map}
use Prim.Native.Nat.{ℕ, ◌+◌, ◌≤◌}
use native.Mathlib.Omega.{arith}
use lib.ListN.{get_or-eq_default}
use Rattle.std.specs.Prelude.{Ok, Err}
use Rattle.lists.specs.Keyed.{all_of}
use Rattle.ids.specs.declared.refusal.Refusal.{Refusal}
use Rattle.ids.specs.Verdicts.{Verdict}
use Rattle.ids.specs.Answers.{Told, told}
use Rattle.version_state.specs.State.{State, pairs_at, vectors_at}
use Rattle.version_state.proofs.Facts.{sound-of}
use Rattle.pins.specs.declared.PinBook.{PinBook}
use Rattle.pins.specs.Book.{pins_of, bad_book}
use Rattle.pins.specs.Guards.{guards_of, bound}
use Rattle.pins.proofs.Bound.{bound-le}
use Rattle.version_manager.specs.declared.VersionManager.{VersionManager}
use Rattle.version_manager.specs.Managers.{held_by, bad_manager}
use Rattle.version_manager.proofs.Managers.{inner-passes}
use Rattle.plain_record.specs.Sets.{Sets, sets}
use Rattle.plain_record.specs.Calls.{Kind}
use Rattle.plain_record.specs.Plain.{Plain, epoch_of, sets_at, Former, Record, recorded, accepts, turn}
use Rattle.plain_record.specs.Run.{Append, World, world, is_accepted, onward}
use Rattle.plain_record.specs.Claim.{waiting_in, waiting_of, below_next}
use Rattle.plain_record.proofs.Invariant.{plain_table, plain_sets, Filed, Torn, Recalled, Inv}
use Rattle.plain_record.proofs.Landed.{landed}
use Rattle.plain_record.proofs.Refused.{refused-number}

-- a manager in the state s, the book b and the file f, beside the record's p
pub record Stands (s : State) (b : PinBook) (f : List ℕ) (p : Plain) : Type 0 where
  pub book : bad_book s.epoch b ≡ false
  pub epoch : s.epoch ≡ epoch_of p
  pub tables : map plain_table s.tables ≡ p.now.tables
  pub pairs : (d : ℕ) → bound (guards_of s b) ≤ d → pairs_at d s ≡ (sets_at d p).pairs
  pub vectors : (d : ℕ) → bound (guards_of s b) ≤ d → vectors_at d s ≡ (sets_at d p).vectors
  pub pins : pins_of b ≡ p.pinned
  pub waiting : waiting_in s ≡ waiting_of p
  pub next : all_of (below_next s) p.added ≡ true
  pub file : Filed f s p

pub stands_of : (w : World) (r : Record) → Inv w r → Stands (held_by w.manager) w.book w.file r.whole
stands_of w r i =
    record { book = i.book; epoch = i.epoch; tables = i.tables; pairs = i.pairs; vectors = i.vectors; pins = i.pins; waiting = i.waiting; next = i.next; file = i.file }

pub of-stands : (m : VersionManager) (b : PinBook) (f t : List ℕ) (a : Append) (p q : Plain) (x : Former) (n : ℕ) → bad_manager m ≡ false → Stands (held_by m) b f p → Torn t q → Recalled m b a p x
    → Inv (world m b f t a) (recorded p q x n)
of-stands m b f t a p q x n good s k c =
    record { sound = good; book = s.book; epoch = s.epoch; tables = s.tables; pairs = s.pairs; vectors = s.vectors; pins = s.pins; waiting = s.waiting; next = s.next; file = s.file; torn = k; recalled = c }

-- the current epoch is the record's last
sets-now : (p : Plain) → sets_at (epoch_of p) p ≡ p.now
sets-now p = get_or-eq_default p.past p.now (omega arith)

pub shows-now : (s : State) (b : PinBook) (f : List ℕ) (p : Plain) → Stands s b f p → plain_sets s ≡ p.now
shows-now s b f p k =
    let e : sets_at s.epoch p ≡ p.now = ap (λ (d : ℕ). sets_at d p) k.epoch ∙ sets-now p in
    let x = k.pairs s.epoch (bound-le (guards_of s b)) ∙ ap (λ (z : Sets). z.pairs) e in
    let y = k.vectors s.epoch (bound-le (guards_of s b)) ∙ ap (λ (z : Sets). z.vectors) e in
    λ i. sets (k.tables i) (x i) (y i)

-- an accepted call that hands on a manager in the state s
pub accepted-stands : (m : VersionManager) (b : PinBook) (f : List ℕ) (a : Append) (s : State) (p : Plain) (x : Former) (n : ℕ) → bad_manager m ≡ false → held_by m ≡ s → Stands s b f p → Recalled m b a p x
    → Inv (world m b f f a) (recorded p p x n)
accepted-stands m b f a s p x n good e k c =
    let q = subst (λ (u : State). Stands u b f p) (sym e) k in
    of-stands m b f f a p p x n good q (landed f (held_by m) p (sound-of m.inner (inner-passes m good)).manifest (shows-now (held_by m) b f p q) q.file) c

-- after a refused call all stands as it stood, but the place
pub inv-stays : (w v : World) (r : Record) (n : ℕ) → v.manager ≡ w.manager → v.book ≡ w.book → v.file ≡ w.file → v.torn ≡ w.torn → v.last ≡ w.last
    → Inv w r → Inv v (recorded r.whole r.torn r.former n)
inv-stays w v r n m b f t a i =
    record {
      sound = rw m i.sound;
      book = rw (m, b) i.book;
      epoch = rw m i.epoch;
      tables = rw m i.tables;
      pairs = rw (m, b) i.pairs;
      vectors = rw (m, b) i.vectors;
      pins = rw b i.pins;
      waiting = rw m i.waiting;
      next = rw m i.next;
      file = rw (m, f) i.file;
      torn = rw t i.torn;
      recalled = rw (m, b, a) i.recalled;
    }

pub refused-stands : (w : World) (r : Record) (m : VersionManager) (b : PinBook) → m ≡ w.manager → b ≡ w.book → Inv w r
    → Inv (world m b w.file w.torn w.last) (recorded r.whole r.torn r.former (r.place + 1))
refused-stands w r m b e h i = inv-stays w (world m b w.file w.torn w.last) r (r.place + 1) e h refl refl refl i

-- the two turns of a call, by its verdict v; t is what its answer tells
pub by-verdict : (P : Bool → Type 0) (v : Verdict) (vs : List ℕ) (t : Told) → t ≡ told v vs → (v ≡ Ok tt → P true) → ((k : Refusal) → v ≡ Err k → P false) → P (is_accepted t)
by-verdict P (Ok _) vs t e a r = subst (λ (u : Told). P (is_accepted u)) (sym e) (a refl)
by-verdict P (Err k) vs t e a r = subst (λ (u : Told). P (is_accepted u)) (sym e) (subst P (sym (refused-number k)) (r k refl))

-- a call of the kind k that appends nothing and hands on the manager m and the book b; x is its verdict
pub onward-kept : (k : Kind) (id : ℕ) (w : World) (r : Record) (m : VersionManager) (b : PinBook) (x : Verdict) (vs : List ℕ) (t : Told) (v : World) → Inv w r
    → v ≡ onward m b t w → t ≡ told x vs → (x ≡ Ok tt → Inv (world m b w.file w.file w.last) (accepts k id r)) → ((j : Refusal) → x ≡ Err j → (m ≡ w.manager) × (b ≡ w.book))
    → Inv v (turn k (is_accepted t) id r)
onward-kept k id w r m b x vs t v i after e took stayed =
    subst (λ (u : World). Inv u (turn k (is_accepted t) id r)) (sym after)
    (by-verdict (λ a. Inv (world m b w.file (cond a w.file w.torn) w.last) (turn k a id r)) x vs t e took
    (λ j q. refused-stands w r m b (stayed j q).0 (stayed j q).1 i))
