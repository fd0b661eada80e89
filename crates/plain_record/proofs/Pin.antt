-- Pin keeps the invariant, and answers the record's epoch. Assumes nothing.
use mathlib.Core.Path.{◌≡◌, refl, ap, ap₂, subst, ◌∙◌}
use mathlib.Core.Bool.{true, false}
use mathlib.Core.List.{List, [], ◌∷◌}
use Prim.Native.Nat.{ℕ, ◌+◌, ◌≤◌}
use native.Mathlib.Omega.{arith}
use borrow.Author.Tests.{ne_eqb}
use Rattle.lists.proofs.Tests.{clash}
use Rattle.ids.specs.Verdicts.{Verdict}
use Rattle.ids.specs.Answers.{Told, told}
use Rattle.version_state.specs.State.{State}
use Rattle.pins.specs.declared.PinBook.{PinBook}
use Rattle.pins.specs.Book.{PinEntry, pins_of, place_on, Keeps, bad_book}
use Rattle.pins.specs.Guards.{guards_of, bound}
use Rattle.pins.specs.Counts.{pins_at, with_pin}
use Rattle.pins.proofs.Bound.{bound-le, bound-recounted}
use Rattle.version_manager.specs.declared.VersionManager.{VersionManager}
use Rattle.version_manager.specs.Managers.{held_by, former_by}
use Rattle.pinning.specs.Says.{BookAfter, pin_verdict}
use Rattle.pinning.proofs.Laws.{pin-laws}
use Rattle.plain_record.specs.Calls.{as_pin}
use Rattle.plain_record.specs.Plain.{Plain, epoch_of, one_pin, with_pins, Former, gone, former, Record, turn}
use Rattle.plain_record.specs.Run.{Append, World, is_accepted, value, port, DidPin}
use Rattle.plain_record.proofs.Invariant.{Filed, Recalled, Inv}
use Rattle.plain_record.proofs.Stands.{Stands, stands_of, accepted-stands, by-verdict, onward-kept}

pub filed-pins : (f : List ℕ) (s : State) (l : List PinEntry) (p : Plain) → Filed f s p → Filed f s (with_pins l p)
filed-pins f s l p k = record { state = k.state; holds = k.holds; same = k.same; long = k.long; next = k.next }

pub with-pin : (e : ℕ) (l : List PinEntry) → with_pin (place_on e) l ≡ one_pin e l
with-pin e l = rw (ne_eqb (pins_at (place_on e) l + 1) 0 (omega arith))

-- a book with other pins, whose bound is not lower
pub stands-pins : (s : State) (b b' : PinBook) (f : List ℕ) (l : List PinEntry) (p : Plain) → Stands s b f p → bad_book s.epoch b' ≡ false → pins_of b' ≡ l
    → bound (guards_of s b) ≤ bound (guards_of s b') → Stands s b' f (with_pins l p)
stands-pins s b b' f l p k g e h =
    record {
      book = g;
      epoch = k.epoch;
      tables = k.tables;
      pairs = λ d q. k.pairs d (omega arith);
      vectors = λ d q. k.vectors d (omega arith);
      pins = e;
      waiting = k.waiting;
      next = k.next;
      file = filed-pins f s l p k.file;
    }

-- and what is kept for a report, beside such a book
pub recalled-book : (m : VersionManager) (b b' : PinBook) (a : Append) (p : Plain) (f : Former) (l : List PinEntry) → Recalled m b a p f
    → ((former_by m).epoch ≤ epoch_of p → bound (guards_of (former_by m) b) ≤ bound (guards_of (former_by m) b')) → Recalled m b' a (with_pins l p) f
recalled-book m b b' a p gone l k h = k
recalled-book m b b' a p (former q) l k h =
    let g = h (omega (arith, k.current)) in
    record {
      current = k.current;
      long = k.long;
      epoch = k.epoch;
      tables = k.tables;
      pairs = λ d x. k.pairs d (omega arith);
      vectors = λ d x. k.vectors d (omega arith);
      waiting = k.waiting;
      next = k.next;
      cut = k.cut;
    }

module _ (w : World) (r : Record) (t : Told) (l : List (List ℕ)) (v : World) (i : Inv w r) (d : DidPin port w t l v) where
  abbrev epoch : ℕ
  epoch = w.manager.inner.epoch

  stands-pinned : Keeps d.book (with_pin (place_on epoch) (pins_of w.book))
      → Stands (held_by w.manager) d.book w.file (with_pins (one_pin (epoch_of r.whole) r.whole.pinned) r.whole)
  stands-pinned k =
      let s = held_by w.manager in
      let e : pins_of d.book ≡ one_pin (epoch_of r.whole) r.whole.pinned = k.pins ∙ with-pin epoch (pins_of w.book) ∙ ap₂ one_pin i.epoch i.pins in
      let h = bound-recounted s w.book d.book (place_on epoch) (pins_at (place_on epoch) (pins_of w.book) + 1) k (bound-le (guards_of s w.book)) in
      stands-pins (held_by w.manager) w.book d.book w.file (one_pin (epoch_of r.whole) r.whole.pinned) r.whole (stands_of w r i)
      (pin-laws.pin w.manager w.book d.answer d.book d.says i.book) e h

  recalled-pinned : Keeps d.book (with_pin (place_on epoch) (pins_of w.book))
      → Recalled w.manager d.book w.last (with_pins (one_pin (epoch_of r.whole) r.whole.pinned) r.whole) r.former
  recalled-pinned k =
      let f = former_by w.manager in
      recalled-book w.manager w.book d.book w.last r.whole r.former (one_pin (epoch_of r.whole) r.whole.pinned) i.recalled
      (λ h. bound-recounted f w.book d.book (place_on epoch) (pins_at (place_on epoch) (pins_of w.book) + 1) k (omega (arith, i.epoch, bound-le (guards_of f w.book))))

  abbrev After : Verdict → Type 0
  After x = BookAfter x w.book (with_pin (place_on epoch) (pins_of w.book)) d.book

  pub pin-kept : (id : ℕ) → Inv v (turn as_pin (is_accepted t) id r)
  pin-kept id =
      let p = with_pins (one_pin (epoch_of r.whole) r.whole.pinned) r.whole in
      onward-kept as_pin id w r w.manager d.book (pin_verdict w.manager w.book) (epoch ∷ []) t v i d.after (d.told ∙ d.says.answer)
      (λ a. accepted-stands w.manager d.book w.file w.last (held_by w.manager) p r.former (r.place + 1) i.sound refl (stands-pinned (subst After a d.says.book)) (recalled-pinned (subst After a d.says.book)))
      (λ k a. (refl, subst After a d.says.book))

  pub pin-answers : is_accepted t ≡ true → value 0 t ≡ epoch_of r.whole
  pin-answers =
      let e = d.told ∙ d.says.answer in
      by-verdict (λ a. a ≡ true → value 0 t ≡ epoch_of r.whole) (pin_verdict w.manager w.book) (epoch ∷ []) t e
      (λ a h. ap (value 0) (e ∙ ap (λ (x : Verdict). told x (epoch ∷ [])) a) ∙ i.epoch)
      (λ k a h. clash h refl)
