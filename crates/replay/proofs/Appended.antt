-- Entries put in after all others. Assumes nothing.
use Rattle.std.proofs.Common.{◌≡◌, refl, sym, ap, ◌∙◌, Bool, true, false, cond, List, [], ◌∷◌, ◌++◌, map, ℕ, suc, ◌+◌, ◌<◌, length, get_or, take, drop, append-nil, drop-cons, take-append-drop, arith}
use Rattle.std.proofs.lemmas.List.{take_more}
use Rattle.lists.specs.Order.{less}
use Rattle.lists.specs.Keyed.{keep, has, put, rank, ascending}
use Rattle.lists.proofs.Keyed.{All, Ascending, ascend-to, ascend-from, ascending-keep, all_keep, keep_append, put_last}
use Rattle.lists.proofs.Places.{has_end}
use Rattle.lists.proofs.Views.{map-append}
use Rattle.snapshot.specs.Entries.{Entry, by_ids}
use Rattle.snapshot.specs.Views.{pair_ids, vector_ids}
use Rattle.snapshot.specs.declared.rowsets.RowsetIds.{RowsetIds}
use Rattle.snapshot.specs.declared.vectors.VectorIds.{VectorIds}
use Rattle.version_state.specs.Sound.{has_rowset}
use Rattle.replay.specs.Sets.{rowset_entry, vector_entry}
use Rattle.replay.proofs.Maps.{ascending-mapped}
use Rattle.replay.proofs.Entries.{has-rowset}

module _ {A : Type 0} (key : A → List ℕ) where
  last_of : (P : A → Type 0) (l : List A) (x : A) (m : List A) → All P (l ++ (x ∷ m)) → P x
  last_of P [] x m s = s.0
  last_of P (y ∷ l) x m s = last_of P l x m s.1

  -- what stands before an entry is below it
  below_all : (l : List A) (x : A) (m : List A) → Ascending key (l ++ (x ∷ m)) → All (λ y. less (key y) (key x) ≡ true) l
  below_all [] x m s = tt
  below_all (y ∷ l) x m s = (last_of (λ z. less (key y) (key z) ≡ true) l x m s.0, below_all l x m s.1)

  front_rises : (l : List A) (m : List A) → Ascending key (l ++ m) → Ascending key l
  front_rises [] m s = tt
  front_rises (y ∷ l) m s = (front (λ z. less (key y) (key z) ≡ true) l m s.0, front_rises l m s.1)
    where
      front : (P : A → Type 0) (l m : List A) → All P (l ++ m) → All P l
      front P [] m s = tt
      front P (z ∷ l) m s = (s.0, front P l m s.1)

  rank_end : (x : A) (l : List A) → All (λ y. less (key y) (key x) ≡ true) l → length l ≡ rank key (key x) l
  rank_end x [] h = refl
  rank_end x (y ∷ l) h = rw h.0 (let e = rank_end x l h.1 in omega arith)

  -- x stands after all of l, which ascends
  pub record AtEnd (l : List A) (x : A) : Type 0 where
    pub rises : ascending key l ≡ true
    pub place : length l ≡ rank key (key x) l
    pub absent : has key (key x) l ≡ false
    pub appended : put key x l ≡ l ++ (x ∷ [])

  at_end : (l : List A) (x : A) → Ascending key l → All (λ y. less (key y) (key x) ≡ true) l → AtEnd l x
  at_end l x s h =
      let e = rank_end x l h in
      record { rises = ascend-from key l s; place = e; absent = has_end key (key x) l s (omega arith); appended = put_last key x l h }

-- the entry at a place of an ascending list, after those before it that pass a test
module _ {X A : Type 0} (f : X → A) (key : A → List ℕ) (kx : X → List ℕ) (same : (x y : X) → less (key (f x)) (key (f y)) ≡ less (kx x) (kx y))
    (l : List X) (i : ℕ) (d : X) (h : i < length l) where
  pub taken-more : map f (take (i + 1) l) ≡ map f (take i l) ++ (f (get_or l i d) ∷ [])
  taken-more = ap (map f) (take_more l i d h) ∙ map-append f (take i l) (get_or l i d ∷ [])

  module _ (up : ascending kx l ≡ true) where
    split : map f l ≡ map f (take i l) ++ (f (get_or l i d) ∷ map f (drop (suc i) l))
    split = ap (map f) (sym (take-append-drop i l) ∙ ap (λ (m : List X). take i l ++ m) (drop-cons l i d h)) ∙ map-append f (take i l) (get_or l i d ∷ drop (suc i) l)

    all-up : Ascending key (map f (take i l) ++ (f (get_or l i d) ∷ map f (drop (suc i) l)))
    all-up = rw (← split) (ascending-mapped f kx key same l (ascend-to kx l up))

    pub at-place : AtEnd key (map f (take i l)) (f (get_or l i d))
    at-place = at_end key (map f (take i l)) (f (get_or l i d)) (front_rises key (map f (take i l)) _ all-up) (below_all key (map f (take i l)) (f (get_or l i d)) _ all-up)

    pub kept-at-place : (p : A → Bool) → AtEnd key (keep p (map f (take i l))) (f (get_or l i d))
    kept-at-place p =
        at_end key (keep p (map f (take i l))) (f (get_or l i d))
        (ascending-keep key p (map f (take i l)) (front_rises key (map f (take i l)) _ all-up))
        (all_keep _ p (map f (take i l)) (below_all key (map f (take i l)) (f (get_or l i d)) _ all-up))

  pub keep-more : (p : A → Bool) (t : Bool) → p (f (get_or l i d)) ≡ t → keep p (map f (take (i + 1) l)) ≡ keep p (map f (take i l)) ++ cond t (f (get_or l i d) ∷ []) []
  keep-more p true e = ap (keep p) taken-more ∙ keep_append p (map f (take i l)) (f (get_or l i d) ∷ []) ∙ rw e refl
  keep-more p false e = ap (keep p) taken-more ∙ keep_append p (map f (take i l)) (f (get_or l i d) ∷ []) ∙ rw e refl

-- the next live rowset, after those that were put in
module _ (l : List RowsetIds) (i : ℕ) (d : RowsetIds) (h : i < length l) where
  pub rowset-next : (m : List RowsetIds) → l ≡ m → ascending pair_ids m ≡ true → AtEnd by_ids (map rowset_entry (take i l)) (rowset_entry (get_or l i d))
  rowset-next m e up = at-place rowset_entry by_ids pair_ids (λ x y. refl) l i d h (rw e up)

  pub rowset-more : (m : List RowsetIds) → l ≡ m → ascending pair_ids m ≡ true
      → (a b : List Entry) → a ≡ map rowset_entry (take i l) → b ≡ put by_ids (rowset_entry (get_or l i d)) a → b ≡ map rowset_entry (take (i + 1) l)
  rowset-more m e up a b f g =
      g ∙ ap (put by_ids (rowset_entry (get_or l i d))) f ∙ (rowset-next m e up).appended
      ∙ sym (taken-more rowset_entry by_ids pair_ids (λ x y. refl) l i d h)

-- the next live vector, after those that were put in: it is put in where its rowset is live
module _ (ls : List RowsetIds) (l : List VectorIds) (i : ℕ) (d : VectorIds) (h : i < length l) where
  pub vector-next : (m : List VectorIds) → l ≡ m → ascending vector_ids m ≡ true
      → AtEnd by_ids (keep (has_rowset (map rowset_entry ls)) (map vector_entry (take i l))) (vector_entry (get_or l i d))
  vector-next m e up = kept-at-place vector_entry by_ids vector_ids (λ x y. refl) l i d h (rw e up) (has_rowset (map rowset_entry ls))

  module _ (t b : Bool) (e : t ≡ has pair_ids ((get_or l i d).table.0 ∷ (get_or l i d).rowset.0 ∷ []) ls) (f : t ≡ b) where
    more : keep (has_rowset (map rowset_entry ls)) (map vector_entry (take (i + 1) l)) ≡ keep (has_rowset (map rowset_entry ls)) (map vector_entry (take i l)) ++ cond b (vector_entry (get_or l i d) ∷ []) []
    more = keep-more vector_entry by_ids vector_ids (λ x y. refl) l i d h (has_rowset (map rowset_entry ls)) b (has-rowset ls (get_or l i d) ∙ sym e ∙ f)

  pub vector-more : (m : List VectorIds) → l ≡ m → ascending vector_ids m ≡ true
      → (t : Bool) → t ≡ has pair_ids ((get_or l i d).table.0 ∷ (get_or l i d).rowset.0 ∷ []) ls → t ≡ true
      → (a b : List Entry) → a ≡ keep (has_rowset (map rowset_entry ls)) (map vector_entry (take i l)) → b ≡ put by_ids (vector_entry (get_or l i d)) a
      → b ≡ keep (has_rowset (map rowset_entry ls)) (map vector_entry (take (i + 1) l))
  vector-more m e up t f g a b q r = r ∙ ap (put by_ids (vector_entry (get_or l i d))) q ∙ (vector-next m e up).appended ∙ sym (more t true f g)

  pub vector-less : (t : Bool) → t ≡ has pair_ids ((get_or l i d).table.0 ∷ (get_or l i d).rowset.0 ∷ []) ls → t ≡ false
      → (a : List Entry) → a ≡ keep (has_rowset (map rowset_entry ls)) (map vector_entry (take i l)) → a ≡ keep (has_rowset (map rowset_entry ls)) (map vector_entry (take (i + 1) l))
  vector-less t f g a q = q ∙ sym (more t false f g ∙ append-nil (keep (has_rowset (map rowset_entry ls)) (map vector_entry (take i l))))
