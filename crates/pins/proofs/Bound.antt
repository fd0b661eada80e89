-- The bound of a vacuum: not above an epoch that may be shown, and what is not blocked is at most the bound. Assumes nothing.
use mathlib.Core.Path.{◌≡◌, refl, sym, ap, ◌∙◌}
use mathlib.Core.Bool.{true, not, ◌&&◌}
use mathlib.Core.List.{List, [], ◌∷◌, map}
use Prim.Native.Nat.{ℕ, ◌≤◌}
use native.Mathlib.Omega.{arith}
use denote.Ref.{Bor}
use lib.Dec.{leb, ltb, eqb}
use lib.ListN.{get_or}
use borrow.Author.Tests.{ltb-true, ltb-false, leb-true, leb-false, eqb-true, eq-eqb, le-leb, lt-leb}
use Rattle.std.specs.List.{slice_get}
use Rattle.std.specs.Option.{option_copied, MatchOption}
use Rattle.std.proofs.Common.{Option, None, Some}
use Rattle.lists.specs.Order.{less}
use Rattle.lists.specs.Keyed.{all_of, is_at, ascending}
use Rattle.lists.proofs.Tests.{by_cases, clash, both}
use Rattle.lists.proofs.Order.{lex-gt, same_true}
use Rattle.lists.proofs.Keyed.{All, all_map, all_keep, all-put, After, ascend-to}
use Rattle.version_state.specs.State.{State}
use Rattle.pins.specs.declared.Pin.{Pin}
use Rattle.pins.specs.declared.PinBook.{PinBook}
use Rattle.pins.specs.declared.Place.{Place}
use Rattle.pins.specs.Book.{PinEntry, pin_entry, pins_of, place_key, by_place, valid_pin, Keeps, has_place, pinned}
use Rattle.pins.specs.Guards.{Guards, guards_by, guards_of, is_guarded, may_show, blocked, smallest, bound}
use Rattle.pins.specs.Counts.{pins_on, recounted}

smallest-le : (e : ℕ) (l : List PinEntry) → smallest e l ≤ e
smallest-le e [] = omega arith
smallest-le e (p ∷ l) = omega (arith, smallest-le e l)

smallest-pinned : (e d : ℕ) (l : List PinEntry) → pinned d l ≡ true → smallest e l ≤ d
smallest-pinned e d [] h = clash h refl
smallest-pinned e d (p ∷ l) h =
    by_cases (eqb p.epoch d) (λ f. omega (arith, eqb-true)) (λ f. omega (arith, smallest-pinned e d l (rw f at h)))

pub bound-le : (g : Guards) → bound g ≤ g.current
bound-le g = smallest-le g.current g.pins

pub bound-guarded : (g : Guards) (d : ℕ) → is_guarded g d ≡ true → bound g ≤ d
bound-guarded g d h = smallest-pinned g.current d g.pins h

pub bound-shows : (g : Guards) (d : ℕ) → may_show g d ≡ true → bound g ≤ d
bound-shows g d h =
    by_cases (eqb d g.current) (λ f. omega (arith, eqb-true d g.current f, bound-le g)) (λ f. bound-guarded g d (rw f at h))

-- the epoch of a place that is held is pinned
pub held-pinned : (k : Place) (l : List PinEntry) → has_place k l ≡ true → pinned k.epoch l ≡ true
held-pinned k [] h = clash h refl
held-pinned k (p ∷ l) h =
    by_cases (is_at by_place (place_key k) p)
    (λ t. rw (eq-eqb p.epoch k.epoch (ap (λ (a : List ℕ). get_or a 0 0) (same_true (by_place p) (place_key k) t))))
    (λ t. by_cases (eqb p.epoch k.epoch) (λ f. rw f) (λ f. rw f (held-pinned k l (rw t at h))))

free-below : (e w : ℕ) (l : List PinEntry) → w ≤ e → not (blocked (guards_by e l) w) ≡ leb w (smallest e l)
free-below e w [] k = sym (le-leb w e k)
free-below e w (p ∷ l) k =
    by_cases (ltb p.epoch w)
    (λ f. rw (f, lt-leb w (smallest e (p ∷ l)) (omega (arith, ltb-true))))
    (λ f. rw (f, free-below e w l k) (by_cases (leb w (smallest e l))
    (λ g. rw (g, le-leb w (smallest e (p ∷ l)) (omega (arith, ltb-false, leb-true))))
    (λ g. rw (g, lt-leb w (smallest e (p ∷ l)) (omega (arith, leb-false))))))

-- of the epochs up to the current one, those that are not blocked are the ones up to the bound
pub free-is : (g : Guards) (w : ℕ) → w ≤ g.current → not (blocked g w) ≡ leb w (bound g)
free-is g w k = free-below g.current w g.pins k

-- a later place has no smaller epoch
later-epoch : (p q : PinEntry) → less (by_place p) (by_place q) ≡ true → p.epoch ≤ q.epoch
later-epoch p q h =
    by_cases (leb p.epoch q.epoch)
    (λ t. leb-true p.epoch q.epoch t)
    (λ t. clash h (lex-gt p.epoch q.epoch _ (leb-false p.epoch q.epoch t)))

above-first : (e : ℕ) (p : PinEntry) (l : List PinEntry) → p.epoch ≤ e → After by_place (by_place p) l → p.epoch ≤ smallest e l
above-first e p [] h a = h
above-first e p (q ∷ l) h a = let t = later-epoch p q a.0 in omega (arith, above-first e p l h a.1)

-- of an ascending book whose epochs are not above the current one the bound is the first
bound-first : (e : ℕ) (p : PinEntry) (l : List PinEntry) → all_of (valid_pin e) (p ∷ l) ≡ true → ascending by_place (p ∷ l) ≡ true → bound (guards_by e (p ∷ l)) ≡ p.epoch
bound-first e p l v o =
    let a = both (valid_pin e p) (all_of (valid_pin e) l) v in
    let b = both (ltb 0 p.count) (ltb 0 p.epoch && leb p.epoch e) a.0 in
    let d = both (ltb 0 p.epoch) (leb p.epoch e) b.1 in
    let s = ascend-to by_place (p ∷ l) o in
    omega (arith, above-first e p l (leb-true _ _ d.1) s.0)

-- the same of the first of the pins, where r is its epoch, and e if there is none
pub bound-read : (e r : ℕ) (l : List Pin) (o : Option (Bor Pin)) (P : Bor Pin → Type 0) → option_copied o ≡ slice_get l 0 → MatchOption o (r ≡ e) P → ((x : Bor Pin) → P x → r ≡ x.now.epoch) → all_of (valid_pin e) (map pin_entry l) ≡ true → ascending by_place (map pin_entry l) ≡ true → r ≡ bound (guards_by e (map pin_entry l))
bound-read e r [] None P q m f v s = m
bound-read e r [] (Some x) P q m f v s = cc
bound-read e r (y ∷ l) None P q m f v s = cc
bound-read e r (y ∷ l) (Some x) P q m f v s =
    let t : x.now ≡ y = cc in
    f x m ∙ ap (λ (p : Pin). p.epoch) t ∙ sym (bound-first e (pin_entry y) (map pin_entry l) v s)

-- the bound does not fall when the epoch rises
smallest-rises : (e d : ℕ) (l : List PinEntry) → e ≤ d → smallest e l ≤ smallest d l
smallest-rises e d [] h = h
smallest-rises e d (p ∷ l) h = omega (arith, smallest-rises e d l h)

pub bound-rises : (s t : State) (b : PinBook) → s.epoch ≤ t.epoch → bound (guards_of s b) ≤ bound (guards_of t b)
bound-rises s t b h = smallest-rises s.epoch t.epoch (pins_of b) h

-- it is the greatest number that is above no pinned epoch and not above the current one
smallest-all : (e : ℕ) (l : List PinEntry) → All (λ (p : PinEntry). smallest e l ≤ p.epoch) l
smallest-all e [] = tt
smallest-all e (p ∷ l) = (omega arith, all_map l (λ q h. omega arith) (smallest-all e l))

smallest-least : (m e : ℕ) (l : List PinEntry) → m ≤ e → All (λ (p : PinEntry). m ≤ p.epoch) l → m ≤ smallest e l
smallest-least m e [] h a = h
smallest-least m e (p ∷ l) h a = let k = a.0 in omega (arith, smallest-least m e l h a.1)

smallest-recounted : (e : ℕ) (k : Place) (n : ℕ) (l : List PinEntry) → smallest e l ≤ k.epoch → smallest e l ≤ smallest e (recounted k n l)
smallest-recounted e k n l h =
    smallest-least (smallest e l) e (recounted k n l) (smallest-le e l)
    (by_cases (eqb n 0)
    (λ t. rw t (all_keep (λ (p : PinEntry). smallest e l ≤ p.epoch) (λ y. not (is_at by_place (place_key k) y)) l (smallest-all e l)))
    (λ t. rw t (all-put by_place (λ (p : PinEntry). smallest e l ≤ p.epoch) (pins_on k n) l h (smallest-all e l))))

-- a book with a new count on an epoch that is not below the bound does not lower it
pub bound-recounted : (s : State) (b b' : PinBook) (k : Place) (n : ℕ) → Keeps b' (recounted k n (pins_of b)) → bound (guards_of s b) ≤ k.epoch → bound (guards_of s b) ≤ bound (guards_of s b')
bound-recounted s b b' k n h m = rw h.pins (smallest-recounted s.epoch k n (pins_of b) m)
