-- Unpin keeps the invariant. Assumes nothing.
use mathlib.Core.Path.{◌≡◌, refl, ap, subst, ◌∙◌}
use mathlib.Core.Bool.{true}
use mathlib.Core.List.{List, [], ◌∷◌}
use Prim.Native.Nat.{ℕ, ◌+◌, ◌-◌}
use native.Mathlib.Omega.{arith}
use lib.Dec.{leb}
use borrow.Author.Tests.{eq-eqb, ne_eqb, leb-true, leb-false, not-false}
use Rattle.std.specs.Prelude.{Ok}
use Rattle.lists.proofs.Tests.{by_cases}
use Rattle.ids.specs.Verdicts.{Verdict}
use Rattle.ids.specs.Answers.{Told}
use Rattle.ids.proofs.Verdicts.{none-judged}
use Rattle.pins.specs.Book.{PinEntry, pins_of, place_on, Keeps, has_place}
use Rattle.pins.specs.Guards.{guards_of}
use Rattle.pins.specs.Counts.{pins_at, left_on, without_pin}
use Rattle.pins.proofs.Bound.{bound-guarded, held-pinned, bound-recounted}
use Rattle.version_manager.specs.Managers.{held_by, former_by}
use Rattle.pinning.specs.Says.{BookAfter, unpin_rules, unpin_verdict, is_due, flag, ready_of}
use Rattle.pinning.proofs.Laws.{pin-laws}
use Rattle.plain_record.specs.Calls.{as_unpin}
use Rattle.plain_record.specs.Plain.{one_less, with_pins, Record, turn}
use Rattle.plain_record.specs.Run.{World, is_accepted, port, DidUnpin}
use Rattle.plain_record.proofs.Invariant.{Recalled, Inv}
use Rattle.plain_record.proofs.Stands.{Stands, stands_of, accepted-stands, onward-kept}
use Rattle.plain_record.proofs.Pin.{stands-pins, recalled-book}

pub without-pin : (e : ℕ) (l : List PinEntry) → without_pin (place_on e) l ≡ one_less e l
without-pin e l =
    let n = pins_at (place_on e) l in
    by_cases (leb n 1)
    (λ t. rw (t, eq-eqb (n - 1) 0 (omega (arith, leb-true n 1 t))))
    (λ t. rw (t, ne_eqb (n - 1) 0 (omega (arith, leb-false n 1 t))))

module _ (w : World) (r : Record) (t : Told) (l : List (List ℕ)) (v : World) (e : ℕ) (i : Inv w r) (d : DidUnpin port w t l v e) where
  abbrev epoch : ℕ
  epoch = w.manager.inner.epoch

  abbrev pins_held : List PinEntry
  pins_held = pins_of w.book

  stands-unpinned : has_place (place_on e) pins_held ≡ true → Keeps d.book (without_pin (place_on e) pins_held)
      → Stands (held_by w.manager) d.book w.file (with_pins (one_less e r.whole.pinned) r.whole)
  stands-unpinned on k =
      let s = held_by w.manager in
      let q : pins_of d.book ≡ one_less e r.whole.pinned = k.pins ∙ without-pin e pins_held ∙ ap (one_less e) i.pins in
      let h = bound-recounted s w.book d.book (place_on e) (left_on (place_on e) pins_held) k (bound-guarded (guards_of s w.book) e (held-pinned (place_on e) pins_held on)) in
      stands-pins (held_by w.manager) w.book d.book w.file (one_less e r.whole.pinned) r.whole (stands_of w r i)
      (pin-laws.unpin w.manager e w.book d.answer d.book d.says i.book) q h

  recalled-unpinned : has_place (place_on e) pins_held ≡ true → Keeps d.book (without_pin (place_on e) pins_held)
      → Recalled w.manager d.book w.last (with_pins (one_less e r.whole.pinned) r.whole) r.former
  recalled-unpinned on k =
      let f = former_by w.manager in
      recalled-book w.manager w.book d.book w.last r.whole r.former (one_less e r.whole.pinned) i.recalled
      (λ h. bound-recounted f w.book d.book (place_on e) (left_on (place_on e) pins_held) k (bound-guarded (guards_of f w.book) e (held-pinned (place_on e) pins_held on)))

  is_held : unpin_verdict w.manager e w.book ≡ Ok tt → has_place (place_on e) pins_held ≡ true
  is_held a = not-false (has_place (place_on e) pins_held) (none-judged (unpin_rules w.manager e w.book) a).1.1.0

  abbrev After : Verdict → Type 0
  After x = BookAfter x w.book (without_pin (place_on e) pins_held) d.book

  pub unpin-kept : (id : ℕ) → Inv v (turn (as_unpin e) (is_accepted t) id r)
  unpin-kept id =
      let p = with_pins (one_less e r.whole.pinned) r.whole in
      onward-kept (as_unpin e) id w r w.manager d.book (unpin_verdict w.manager e w.book) (flag (is_due w.manager e w.book) ∷ ready_of d.answer ∷ []) t v i d.after (d.told ∙ d.says.answer)
      (λ a. accepted-stands w.manager d.book w.file w.last (held_by w.manager) p r.former (r.place + 1) i.sound refl (stands-unpinned (is_held a) (subst After a d.says.book)) (recalled-unpinned (is_held a) (subst After a d.says.book)))
      (λ k a. (refl, subst After a d.says.book))
