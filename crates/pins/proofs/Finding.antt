-- What a binary search tells of a place among the pins that are seen in a slice. Assumes nothing.
use mathlib.Core.Path.{◌≡◌, refl, sym, ap, ◌∙◌}
use mathlib.Core.Bool.{true, false, ◌&&◌}
use mathlib.Core.List.{List, [], ◌∷◌, map}
use Prim.Native.Nat.{ℕ, zero, suc, ◌≤◌, ◌<◌, zero-le, suc-le-suc}
use native.Mathlib.Omega.{arith}
use native.Mathlib.Nat.{not-suc-le-zero, le_of_suc-le-suc}
use native.Mathlib.Numerals.{add-one}
use borrow.Author.Tests.{lt-ltb, ltb-true}
use lib.Dec.{ltb}
use lib.ListN.{length, get_or, set, length-map}
use Rattle.std.specs.List.Sorted.{IsSearchInRange, IsBinarySearchResult, IsNonDecreasingBy}
use Rattle.std.specs.Ordering.{nat_cmp, ordering_index}
use Rattle.std.proofs.Common.{Result, Ok, Err}
use Rattle.std.proofs.lemmas.Bool.Decides.{nat_tests}
use Rattle.std.proofs.lemmas.Cmp.{ranked}
use Rattle.std.proofs.lemmas.List.{get_or-map}
use Rattle.std.proofs.lemmas.List.Sorted.{IsNonDecreasingBy-from_default}
use Rattle.lists.specs.Order.{less}
use Rattle.lists.specs.Keyed.{is_at, put, without, ascending, rank}
use Rattle.lists.specs.Places.{insert_at, remove_at}
use Rattle.lists.proofs.Tests.{by_cases, both, past}
use Rattle.lists.proofs.Order.{lex-lt, lex-last, less-irrefl, less-asym, same-eq, less-same, more_same}
use Rattle.lists.proofs.Keyed.{All, Ascending, ascend-to, without-absent}
use Rattle.lists.proofs.Places.{has_here, without_at}
use Rattle.lists.proofs.Views.{put-here, put_other}
use Rattle.pins.specs.declared.Pin.{Pin}
use Rattle.pins.specs.declared.Place.{Place}
use Rattle.pins.specs.Book.{PinEntry, pin_entry, place_key, by_place, most_pinned, has_place}
use Rattle.pins.specs.Counts.{pins_on, pins_at, places_full, Placed}
use Rattle.pins.proofs.Counting.{absent, room, not-held}

module _ {A : Type 0} (key : A → List ℕ) (d : A) where
  -- a place that what stands before it is below, and what stands at it is not
  rank-is : (k : List ℕ) (l : List A) (i : ℕ) → i ≤ length l → ((j : ℕ) → j < i → less (key (get_or l j d)) k ≡ true) → (i < length l → less (key (get_or l i d)) k ≡ false) → i ≡ rank key k l
  rank-is k [] zero b f g = refl
  rank-is k [] (suc i) b f g = absurd (not-suc-le-zero b)
  rank-is k (y ∷ l) zero b f g = rw (g (suc-le-suc zero-le))
  rank-is k (y ∷ l) (suc i) b f g = rw (f zero (suc-le-suc zero-le), add-one) (ap suc (rank-is k l i (le_of_suc-le-suc b) (λ j h. f (suc j) (suc-le-suc h)) (λ h. g (suc-le-suc h))))

  all-at : (P : A → Type 0) (l : List A) (i : ℕ) → i < length l → All P l → P (get_or l i d)
  all-at P [] i b a = absurd (not-suc-le-zero b)
  all-at P (y ∷ l) zero b a = a.0
  all-at P (y ∷ l) (suc i) b a = all-at P l i (le_of_suc-le-suc b) a.1

  ascends : (l : List A) → Ascending key l → (i j : ℕ) → i < j → j < length l → less (key (get_or l i d)) (key (get_or l j d)) ≡ true
  ascends [] s i j h b = absurd (not-suc-le-zero b)
  ascends (y ∷ l) s i zero h b = absurd (not-suc-le-zero h)
  ascends (y ∷ l) s zero (suc j) h b = all-at (λ z. less (key y) (key z) ≡ true) l j (le_of_suc-le-suc b) s.0
  ascends (y ∷ l) s (suc i) (suc j) h b = ascends l s.1 i j (le_of_suc-le-suc h) (le_of_suc-le-suc b)

pins-there : (k : Place) (d : PinEntry) (l : List PinEntry) (i : ℕ) → Ascending by_place l → i < length l → by_place (get_or l i d) ≡ place_key k → (get_or l i d).count ≡ pins_at k l
pins-there k d [] i s b h = absurd (not-suc-le-zero b)
pins-there k d (y ∷ l) zero s b h = rw (same-eq (by_place y) (place_key k) h)
pins-there k d (y ∷ l) (suc i) s b h =
    let t : less (by_place y) (place_key k) ≡ true = ap (less (by_place y)) (sym h) ∙ all-at by_place d (λ z. less (by_place y) (by_place z) ≡ true) l i (le_of_suc-le-suc b) s.0 in
    rw (less-same (by_place y) (place_key k) t) (pins-there k d l i s.1 (le_of_suc-le-suc b) h)

module _ (k : Place) (l : List Pin) (o : ascending by_place (map pin_entry l) ≡ true) where
  abbrev v : List PinEntry
  v = map pin_entry l

  abbrev d : PinEntry
  d = pins_on k 0

  abbrev x : Pin
  x = record { epoch = 0; count = 0 }

  s : Ascending by_place v
  s = ascend-to by_place v o

  same-length : length v ≡ length l
  same-length = length-map l pin_entry

  seen-at : (i : ℕ) → i < length l → get_or v i d ≡ pin_entry (get_or l i x)
  seen-at i b = get_or-map pin_entry l i x d b

  rises : (i j : ℕ) → i < j → j < length l → (get_or l i x).epoch < (get_or l j x).epoch
  rises i j h b =
      let t = ascends by_place d v s i j h (omega (arith, same-length)) in
      ltb-true _ _ (sym (lex-last (get_or l i x).epoch (get_or l j x).epoch) ∙ rw (seen-at i (omega arith), seen-at j b) at t)

  compares : IsNonDecreasingBy (λ (y : Pin). ordering_index (nat_cmp y.epoch k.epoch)) l
  compares = IsNonDecreasingBy-from_default (λ (y : Pin). ordering_index (nat_cmp y.epoch k.epoch)) l x (λ i j le b.
      let e : (get_or l i x).epoch ≤ (get_or l j x).epoch = grind (arith, rises i j, λ (same : i ≡ j). ap (λ (n : ℕ). (get_or l n x).epoch) same) in
      grind (arith, nat_tests))

  stands : (i : ℕ) → i < length l → (get_or l i x).epoch ≡ k.epoch → Placed k v (Ok i)
  stands i b h =
      let e : by_place (get_or v i d) ≡ place_key k = ap by_place (seen-at i b) ∙ ap (λ (n : ℕ). n ∷ []) h in
      let w : i < length v = omega (arith, same-length) in
      let t : is_at by_place (place_key k) (get_or v i d) ≡ true = same-eq (by_place (get_or v i d)) (place_key k) e in
      record {
        place = rank-is by_place d (place_key k) v i (omega arith) (λ j a. ap (less (by_place (get_or v j d))) (sym e) ∙ ascends by_place d v s j i a w) (λ _. ap (λ (a : List ℕ). less a (place_key k)) e ∙ less-irrefl (place_key k));
        within = omega arith;
        there = rw (lt-ltb i (length v) w, t);
        count = pins-there k d v i s w e;
      }

  misses : (i : ℕ) → i ≤ length l → ((j : ℕ) → j < i → (get_or l j x).epoch < k.epoch) → (i < length l → k.epoch < (get_or l i x).epoch) → Placed k v (Err i)
  misses i b f g =
      let w : i ≤ length v = omega (arith, same-length) in
      let after : i < length v → less (place_key k) (by_place (get_or v i d)) ≡ true = λ a. rw (seen-at i (omega (arith, same-length))) (lex-lt k.epoch (get_or l i x).epoch false (g (omega (arith, same-length)))) in
      let t : ltb i (length v) && is_at by_place (place_key k) (get_or v i d) ≡ false = by_cases (ltb i (length v)) (λ u. rw (u, more_same (place_key k) (by_place (get_or v i d)) (after (ltb-true i (length v) u)))) (λ u. rw u) in
      let r : i ≡ rank by_place (place_key k) v =
      rank-is by_place d (place_key k) v i w
      (λ j a. rw (seen-at j (omega arith)) (lex-lt (get_or l j x).epoch k.epoch false (f j a)))
      (λ a. less-asym (place_key k) (by_place (get_or v i d)) (after a)) in
      record { place = r; within = w; there = sym t; count = sym (not-held k v (absent k v d o (rw r at t))) }

  pub search-finds : (r : Result ℕ ℕ) → IsSearchInRange r (length l) → IsBinarySearchResult (λ (y : Pin). nat_cmp y.epoch k.epoch) l r → Placed k v r
  search-finds (Ok i) b h = stands i b (ranked _ _ _ (sym (h x)))
  search-finds (Err i) b h =
      let p = h compares in
      misses i b (λ j a. ranked _ _ _ (sym (p.0 j x (omega arith) a))) (λ a. ranked _ _ _ (sym (p.1 i x (omega arith) a)))

-- what a change at the place that was found makes of the list
module _ (k : Place) (l : List PinEntry) (at : ℕ) where
  abbrev none : PinEntry
  none = pins_on k 0

  module _ (p : Placed k l (Ok at)) where
    pub found-inside : at < length l
    found-inside = ltb-true _ _ (both (ltb at (length l)) (is_at by_place (place_key k) (get_or l at none)) (sym p.there)).0

    here : is_at by_place (place_key k) (get_or l at none) ≡ true
    here = (both (ltb at (length l)) (is_at by_place (place_key k) (get_or l at none)) (sym p.there)).1

    pub found-set : (n : ℕ) → set l at (pins_on k n) ≡ put by_place (pins_on k n) l
    found-set n = rw p.place (sym (put-here by_place (pins_on k n) l none (rw (← p.place) found-inside) (rw (← p.place) here)))

    pub found-removed : ascending by_place l ≡ true → remove_at at l ≡ without by_place (place_key k) l
    found-removed o =
        let s = ascend-to by_place l o in
        let h : has_place k l ≡ true = has_here by_place (place_key k) l none s (rw (← p.place) found-inside) ∙ rw (← p.place) here in
        rw p.place (sym (without_at by_place (place_key k) l s h))

  module _ (p : Placed k l (Err at)) where
    elsewhere : ltb (rank by_place (place_key k) l) (length l) && is_at by_place (place_key k) (get_or l (rank by_place (place_key k) l) none) ≡ false
    elsewhere = rw (← p.place) (sym p.there)

    pub missed-inserted : (n : ℕ) → insert_at at (pins_on k n) l ≡ put by_place (pins_on k n) l
    missed-inserted n =
        let i = rank by_place (place_key k) l in
        rw p.place (sym (put_other by_place (pins_on k n) l none (λ h. past (ltb i (length l)) (is_at by_place (place_key k) (get_or l i none)) elsewhere (lt-ltb _ _ h))))

    pub missed-room : ascending by_place l ≡ true → places_full k l ≡ false → length l < most_pinned
    missed-room o f = room k l none o f elsewhere

    pub missed-without : ascending by_place l ≡ true → l ≡ without by_place (place_key k) l
    missed-without o = sym (without-absent by_place (place_key k) l (absent k l none o elsewhere))
