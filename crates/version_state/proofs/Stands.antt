-- Lists in order; and two of them walked side by side: whether each entry of the one has its key among what is shown of the other. Assumes nothing.
use mathlib.Core.Path.{◌≡◌, refl, sym, ap, ap₂, ◌∙◌}
use mathlib.Core.Bool.{Bool, true, false, not, ◌&&◌}
use mathlib.Core.List.{List, [], ◌∷◌, map}
use Prim.Native.Nat.{ℕ, suc, ◌+◌, ◌<◌}
use native.Mathlib.Omega.{arith}
use native.Mathlib.Numerals.{add-one}
use lib.ListN.{length, get_or, take, drop, drop_of_length-le}
use lib.Seq.{drop-cons}
use Rattle.lists.specs.Order.{less, same}
use Rattle.lists.specs.Keyed.{keep, all_of, has, ascending, not_below, sorted}
use Rattle.lists.proofs.Tests.{by_cases, clash, both}
use Rattle.lists.proofs.Order.{less-trans, less-total, less-le, less-same, same_true, same-eq}
use Rattle.lists.proofs.Keyed.{All, all_map, all_any, all_keep, keep_all, Ascending, Sorted, ascend-to, ascending-sorted, after-absent}
use Rattle.lists.proofs.Walk.{sorted-prefix, sorted-drop, ascending-drop}
use Rattle.snapshot.specs.Entries.{Entry, by_ids}
use Rattle.snapshot.specs.Found.{drop_below, leads}

-- The test of weak order, as a fact; the keys alone tell it.
module _ {A : Type 0} (key : A → List ℕ) where
  not-below : (k : List ℕ) (l : List A) → not_below key k l ≡ true → All (λ y. less (key y) k ≡ false) l × Sorted key l
  not-below k [] h = (tt, tt)
  not-below k (x ∷ l) h =
      let d = both (not (less (key x) k)) (not_below key (key x) l) h in
      let r = not-below (key x) l d.1 in
      let e : less (key x) k ≡ false = by_cases (less (key x) k) (λ t. clash d.0 (rw t)) (λ t. t) in
      ((e, all_map l (λ y t. by_cases (less (key y) k) (λ u. clash (less-le (key y) k (key x) u e) t) (λ u. u)) r.0), r)

  pub sorted-to : (l : List A) → sorted key l ≡ true → Sorted key l
  sorted-to [] h = tt
  sorted-to (x ∷ l) h = not-below (key x) l h

  below-not : (k : List ℕ) (l : List A) → All (λ y. less (key y) k ≡ false) l → Sorted key l → not_below key k l ≡ true
  below-not k [] a s = refl
  below-not k (x ∷ l) a s = rw a.0 (below-not (key x) l s.0 s.1)

  pub sorted-from : (l : List A) → Sorted key l → sorted key l ≡ true
  sorted-from [] s = refl
  sorted-from (x ∷ l) s = below-not (key x) l s.0 s.1

  below-map : (k : List ℕ) (l : List A) → not_below key k l ≡ not_below (λ k. k) k (map key l)
  below-map k [] = refl
  below-map k (x ∷ l) = ap (λ (t : Bool). not (less (key x) k) && t) (below-map (key x) l)

  pub sorted-map : (l : List A) → sorted key l ≡ sorted (λ k. k) (map key l)
  sorted-map [] = refl
  sorted-map (x ∷ l) = below-map (key x) l

  sorted-keep : (p : A → Bool) (l : List A) → Sorted key l → Sorted key (keep p l)
  sorted-keep p [] s = tt
  sorted-keep p (x ∷ l) s =
      by_cases (p x)
      (λ e. rw e (all_keep (λ y. less (key y) (key x) ≡ false) p l s.0, sorted-keep p l s.1))
      (λ e. rw e (sorted-keep p l s.1))

  -- what is kept of entries in order is in order
  pub kept-sorted : (p : A → Bool) (l : List A) → sorted key l ≡ true → Sorted key (keep p l)
  kept-sorted p l h = sorted-keep p l (sorted-to l h)

module _ {A B : Type 0} (f : A → List ℕ) (key : B → List ℕ) (p : B → Bool) where
  abbrev pub stand : List A → List B → Bool
  stand l m = all_of (λ w. has key (f w) (keep p m)) l

  has-skip : (y : B) (m : List B) (k : List ℕ) → less (key y) k ≡ true → has key k (keep p (y ∷ m)) ≡ has key k (keep p m)
  has-skip y m k h = by_cases (p y) (λ e. rw (e, less-same (key y) k h)) (λ e. rw e)

  skip : (y : B) (m : List B) (l : List A) → All (λ w. less (key y) (f w) ≡ true) l → stand l (y ∷ m) ≡ stand l m
  skip y m [] a = refl
  skip y m (w ∷ l) a = ap₂ ◌&&◌ (has-skip y m (f w) a.0) (skip y m l a.1)

  -- what is below the first key is below all of them
  pass : (x : A) (l : List A) → Sorted f (x ∷ l) → (m : List B) → stand (x ∷ l) m ≡ stand (x ∷ l) (drop_below key (f x) m)
  pass x l s [] = refl
  pass x l s (y ∷ m) =
      by_cases (less (key y) (f x))
      (λ h. let e : drop_below key (f x) (y ∷ m) ≡ drop_below key (f x) m = rw h in
      skip y m (x ∷ l) (h, all_map l (λ w t. less-le (key y) (f x) (f w) h t) s.0) ∙ pass x l s m ∙ ap (stand (x ∷ l)) (sym e))
      (λ h. let e : drop_below key (f x) (y ∷ m) ≡ y ∷ m = rw h in ap (stand (x ∷ l)) (sym e))

  -- what is not below a key comes after it, or begins with it
  first : (k : List ℕ) (y : B) (m : List B) → Ascending key (y ∷ m) → less (key y) k ≡ false → has key k (keep p (y ∷ m)) ≡ same (key y) k && p y
  first k y m s h =
      by_cases (same (key y) k)
      (λ e. let absent : has key k (keep p m) ≡ false = rw (← same_true (key y) k e) (after-absent key (key y) (keep p m) (all_keep (λ z. less (key y) (key z) ≡ true) p m s.0)) in
      by_cases (p y) (λ t. rw (e, t, e)) (λ t. rw (e, t) absent))
      (λ e. let t : less k (key y) ≡ true = by_cases (less k (key y)) (λ t. t) (λ t. clash (same-eq (key y) k (less-total (key y) k h t)) e) in
      rw e (after-absent key k (keep p (y ∷ m)) (all_keep (λ z. less k (key z) ≡ true) p (y ∷ m) (t, all_map m (λ z. less-trans k (key y) (key z) t) s.0))))

  led : (k : List ℕ) (m : List B) → Ascending key m → has key k (keep p (drop_below key k m)) ≡ leads key p k (drop_below key k m)
  led k [] s = refl
  led k (y ∷ m) s = by_cases (less (key y) k) (λ h. rw h (led k m s.1)) (λ h. rw h (first k y m s h))

  -- one step of the walk
  stand-step : (x : A) (l : List A) (m : List B) → Sorted f (x ∷ l) → Ascending key m → stand (x ∷ l) m ≡ leads key p (f x) (drop_below key (f x) m) && stand l (drop_below key (f x) m)
  stand-step x l m s a = pass x l s m ∙ ap (λ (b : Bool). b && stand l (drop_below key (f x) m)) (led (f x) m a)

  -- of the lists l and m, which are in order, what is left is to be found from n and from i on
  module _ (l : List A) (m : List B) (s : Sorted f l) (a : Ascending key m) (n i j : ℕ) (x : A) (h : n < length l) (e : x ≡ get_or l n x)
      (q : drop j m ≡ drop_below key (f x) (drop i m)) (w : stand l m ≡ stand (drop n l) (drop i m)) where
    there : drop n l ≡ x ∷ drop (n + 1) l
    there = rw add-one (drop-cons l n x h ∙ ap (λ (y : A). y ∷ drop (suc n) l) (sym e))

    both_at : stand l m ≡ leads key p (f x) (drop j m) && stand (drop (n + 1) l) (drop j m)
    both_at =
        w
        ∙ ap (λ (r : List A). stand r (drop i m)) there
        ∙ stand-step x (drop (n + 1) l) (drop i m) (rw there at (sorted-drop f n l s)) (ascending-drop key i m a)
        ∙ ap (λ (r : List B). leads key p (f x) r && stand (drop (n + 1) l) r) (sym q)

    pub stand-stop : leads key p (f x) (drop j m) ≡ false → false ≡ stand l m
    stand-stop t = sym (both_at ∙ rw t)

    pub stand-more : leads key p (f x) (drop j m) ≡ true → stand l m ≡ stand (drop (n + 1) l) (drop j m)
    stand-more t = both_at ∙ rw t

-- entries in order are in order by the first fields of their ids
pub sorted-first : (n : ℕ) (l : List Entry) → ascending by_ids l ≡ true → sorted (λ x. take n (by_ids x)) l ≡ true
sorted-first n l up = sorted-from (λ x. take n (by_ids x)) l (sorted-prefix by_ids n l (ascending-sorted by_ids l (ascend-to by_ids l up)))

-- what is kept of them is so too
pub kept-prefix : (n : ℕ) (p : Entry → Bool) (l : List Entry) → ascending by_ids l ≡ true → Sorted (λ x. take n (by_ids x)) (keep p l)
kept-prefix n p l up = kept-sorted (λ x. take n (by_ids x)) p l (sorted-first n l up)

-- all of the other list is shown
pub stand_all : {A B : Type 0} (f : A → List ℕ) (key : B → List ℕ) (l : List A) (m : List B) → stand f key (λ y. true) l m ≡ all_of (λ w. has key (f w) m) l
stand_all f key l m = ap (λ r. all_of (λ w. has key (f w) r) l) (keep_all (λ y. true) m (all_any m (λ y. refl)))

-- the end of a walk
pub stand-end : {A B : Type 0} (f : A → List ℕ) (key : B → List ℕ) (p : B → Bool) (l : List A) (m n : List B) (i : ℕ) → i ≡ length l → stand f key p l m ≡ stand f key p (drop i l) n → true ≡ stand f key p l m
stand-end f key p l m n i e w = sym (w ∙ rw (drop_of_length-le l {i = i} (omega arith)))
