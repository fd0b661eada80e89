-- The verdicts of pin and unpin, what an accepted one tells, and what each call then says. Assumes nothing.
use mathlib.Core.Path.{◌≡◌, refl, sym, ap, ap₂, ◌∙◌}
use mathlib.Core.Bool.{Bool, true, false, cond, not, ◌&&◌}
use mathlib.Core.List.{List, [], ◌∷◌}
use Prim.Native.Nat.{ℕ, ◌≤◌, ◌<◌}
use native.Mathlib.Omega.{arith}
use borrow.Author.Tests.{eq-eqb, ne_eqb, leb-false, eqb-false, not-false}
use lib.Dec.{leb, eqb}
use lib.ListN.{length}
use Rattle.std.specs.Prelude.{Ok, Err}
use Rattle.std.specs.Result.{IsErrAnd, result_and}
use Rattle.ids.specs.declared.refusal.Refusal.{Refusal}
use Rattle.ids.specs.declared.refusal.Refusal.TheVariants.{BadManager, BadPinBook, PinAtEpochZero, PinsFull, PinnedEpochsFull, EpochNotPinned}
use Rattle.ids.specs.Verdicts.{Rule, ◌⇒◌, judged, Verdict}
use Rattle.ids.proofs.Verdicts.{judged-append, none-judged}
use Rattle.version_state.specs.State.{Fit}
use Rattle.version_manager.specs.Managers.{held_by, bad_manager}
use Rattle.version_manager.proofs.Managers.{inner-passes}
use Rattle.version_state.proofs.Facts.{sound-of}
use Rattle.pins.specs.declared.PinBook.{PinBook}
use Rattle.pins.specs.Book.{pins_of, place_on, most_pinned, most_pins, bad_book, GoodBook, Keeps, has_place}
use Rattle.pins.specs.Counts.{pins_at, pins_full, places_full, with_pin, left_on, without_pin}
use Rattle.pins.proofs.Facts.{good_book}
use Rattle.pins.proofs.Counting.{Counted, counted, no_pins, place-had, pinned-after}
use Rattle.vacuum.specs.Says.{list_of}
use Rattle.version_manager.specs.declared.VersionManager.{VersionManager}
use Rattle.pinning.specs.declared.Readiness.{Readiness}
use Rattle.pinning.specs.Says.{PinAnswer, UnpinAnswer, current, pin_rules, pin_verdict, PinSays, unpin_rules, unpin_verdict, is_due, UnpinSays}

module _ (m : VersionManager) (b : PinBook) where
  -- 29 and 28, which both calls judge first, and what pin judges after them
  abbrev pub first_two : List Rule
  first_two = (bad_manager m ⇒ BadManager) ∷ (bad_book (current m) b ⇒ BadPinBook) ∷ []

  pub two-passed : judged first_two ≡ Ok tt → GoodBook (current m) b
  two-passed h = good_book (current m) b (none-judged first_two h).1.0

  abbrev pin-rest : List Rule
  pin-rest = (eqb (current m) 0 ⇒ PinAtEpochZero) ∷ (pins_full (place_on (current m)) (pins_of b) ⇒ PinsFull) ∷ (places_full (place_on (current m)) (pins_of b) ⇒ PinnedEpochsFull) ∷ []

  pin-split : pin_verdict m b ≡ result_and (judged first_two) (judged pin-rest)
  pin-split = judged-append first_two pin-rest

  pub pin-early : (k : Refusal) → judged first_two ≡ Err k → pin_verdict m b ≡ Err k
  pin-early k h = pin-split ∙ ap (λ (v : Verdict). result_and v (judged pin-rest)) h

  -- the rest over the numbers that a call has read
  pub pin-late : (n : ℕ) (f : Bool) → n ≡ pins_at (place_on (current m)) (pins_of b) → f ≡ leb most_pinned (length (pins_of b)) → judged first_two ≡ Ok tt
      → pin_verdict m b ≡ judged ((eqb (current m) 0 ⇒ PinAtEpochZero) ∷ (leb most_pins n ⇒ PinsFull) ∷ ((eqb n 0 && f) ⇒ PinnedEpochsFull) ∷ [])
  pin-late n f e full h =
      let v : pins_full (place_on (current m)) (pins_of b) ≡ leb most_pins n = ap (leb most_pins) (sym e) in
      let z : not (has_place (place_on (current m)) (pins_of b)) ≡ eqb n 0 = sym (ap (λ (k : ℕ). eqb k 0) e ∙ no_pins (current m) (place_on (current m)) (pins_of b) (two-passed h).valid) in
      let w : places_full (place_on (current m)) (pins_of b) ≡ eqb n 0 && f = ap₂ ◌&&◌ z (sym full) in
      pin-split
      ∙ ap (λ (d : Verdict). result_and d (judged pin-rest)) h
      ∙ ap₂ (λ (x y : Bool). judged ((eqb (current m) 0 ⇒ PinAtEpochZero) ∷ (x ⇒ PinsFull) ∷ (y ⇒ PinnedEpochsFull) ∷ [])) v w

  pub pin-10 : bad_manager m ≡ false → bad_book (current m) b ≡ false → eqb (current m) 0 ≡ true → Err PinAtEpochZero ≡ pin_verdict m b
  pin-10 p q r = sym (rw (p, q, r))

  -- what is known where pin is accepted
  pub record Pinnable : Type 0 where
    pub good : GoodBook (current m) b
    pub first-epoch : 0 < current m
    pub more : pins_at (place_on (current m)) (pins_of b) < most_pins
    pub place : places_full (place_on (current m)) (pins_of b) ≡ false

  pub pinnable : pin_verdict m b ≡ Ok tt → Pinnable
  pinnable a =
      let h = none-judged (pin_rules m b) a in
      let z = eqb-false (current m) 0 h.1.1.0 in
      record {
        good = good_book (current m) b h.1.0;
        first-epoch = omega arith;
        more = leb-false most_pins (pins_at (place_on (current m)) (pins_of b)) h.1.1.1.0;
        place = h.1.1.1.1.0;
      }

  pub pin-refuses : (a : PinAnswer) (k : Refusal) → IsErrAnd a (λ q. q ≡ k) → pin_verdict m b ≡ Err k → PinSays m b a b
  pin-refuses (Ok e) k h d = absurd h
  pin-refuses (Err q) k h d = record { answer = rw (h, d); book = rw d }

  pub pin-accepts : (b' : PinBook) → pin_verdict m b ≡ Ok tt → Keeps b' (with_pin (place_on (current m)) (pins_of b)) → PinSays m b (Ok (current m)) b'
  pin-accepts b' d k = record { answer = rw d; book = rw d k }

  module _ (e : ℕ) where
    abbrev unpin-rest : List Rule
    unpin-rest = (not (has_place (place_on e) (pins_of b)) ⇒ EpochNotPinned) ∷ []

    unpin-split : unpin_verdict m e b ≡ result_and (judged first_two) (judged unpin-rest)
    unpin-split = judged-append first_two unpin-rest

    pub unpin-early : (k : Refusal) → judged first_two ≡ Err k → unpin_verdict m e b ≡ Err k
    unpin-early k h = unpin-split ∙ ap (λ (v : Verdict). result_and v (judged unpin-rest)) h

    -- 24 over the number that a call has read
    unpin-late : (n : ℕ) → n ≡ pins_at (place_on e) (pins_of b) → judged first_two ≡ Ok tt → unpin_verdict m e b ≡ judged ((eqb n 0 ⇒ EpochNotPinned) ∷ [])
    unpin-late n q h =
        let z : not (has_place (place_on e) (pins_of b)) ≡ eqb n 0 = sym (ap (λ (k : ℕ). eqb k 0) q ∙ no_pins (current m) (place_on e) (pins_of b) (two-passed h).valid) in
        unpin-split
        ∙ ap (λ (d : Verdict). result_and d (judged unpin-rest)) h
        ∙ ap (λ (x : Bool). judged ((x ⇒ EpochNotPinned) ∷ [])) z

    pub unpin-24 : (n : ℕ) → n ≡ pins_at (place_on e) (pins_of b) → judged first_two ≡ Ok tt → n ≡ 0 → unpin_verdict m e b ≡ Err EpochNotPinned
    unpin-24 n q h z = unpin-late n q h ∙ ap (λ (x : Bool). judged ((x ⇒ EpochNotPinned) ∷ [])) (eq-eqb n 0 z)

    pub unpin-passes : (n : ℕ) → n ≡ pins_at (place_on e) (pins_of b) → judged first_two ≡ Ok tt → (n ≡ 0 → ⊥) → unpin_verdict m e b ≡ Ok tt
    unpin-passes n q h z = unpin-late n q h ∙ ap (λ (x : Bool). judged ((x ⇒ EpochNotPinned) ∷ [])) (ne_eqb n 0 z)

    -- what is known where unpin is accepted
    pub record Unpinnable : Type 0 where
      pub fits : Fit m.inner
      pub good : GoodBook (current m) b
      pub pins : Counted (current m) (place_on e) (pins_of b)
      pub place : places_full (place_on e) (pins_of b) ≡ false

    pub unpinnable : unpin_verdict m e b ≡ Ok tt → Unpinnable
    unpinnable a =
        let h = none-judged (unpin_rules m e b) a in
        let g = good_book (current m) b h.1.0 in
        let p = not-false (has_place (place_on e) (pins_of b)) h.1.1.0 in
        record {
          fits = (sound-of m.inner (inner-passes m h.0)).fits;
          good = g;
          pins = counted (current m) (place_on e) (pins_of b) g.valid p;
          place = place-had (place_on e) (pins_of b) p;
        }

    pub unpin-refuses : (a : UnpinAnswer) (k : Refusal) → IsErrAnd a (λ q. q ≡ k) → unpin_verdict m e b ≡ Err k → UnpinSays m e b a b
    unpin-refuses (Ok u) k h d = absurd h
    unpin-refuses (Err q) k h d = record { answer = rw (h, d); ready = omega arith; book = rw d }

    -- the count of the epoch's one place tells whether it is pinned still
    due-by : is_due m e b ≡ eqb (left_on (place_on e) (pins_of b)) 0 && not (eqb e (current m))
    due-by = ap (λ (x : Bool). not x && not (eqb e (current m))) (pinned-after e (left_on (place_on e) (pins_of b)) (pins_of b)) ∙ not-not (eqb (left_on (place_on e) (pins_of b)) 0)
      where
        not-not : (x : Bool) → not (not x) && not (eqb e (current m)) ≡ x && not (eqb e (current m))
        not-not true = refl
        not-not false = refl

    -- a number that is one or none is not above the one
    at_most : (y : Bool) (n k : ℕ) → n ≡ cond y k 0 → n ≤ k
    at_most true n k h = omega arith
    at_most false n k h = omega arith

    pub unpin-accepts : (b' : PinBook) (r : Readiness) → unpin_verdict m e b ≡ Ok tt → r.due ≡ eqb (left_on (place_on e) (pins_of b)) 0 && not (eqb e (current m)) → r.ready ≡ cond r.due (length (list_of (held_by m) b')) 0
        → Keeps b' (without_pin (place_on e) (pins_of b)) → UnpinSays m e b (Ok r) b'
    unpin-accepts b' r d u n k = record { answer = rw (d, u ∙ sym due-by); ready = at_most r.due r.ready (length (list_of (held_by m) b')) n; book = rw d k }
