-- The vacuum's list as a sort makes it: lists in order that have each key as often have the same keys. Assumes nothing.
use mathlib.Core.Path.{◌≡◌, refl, sym, ap, ap₂, ◌∙◌}
use mathlib.Core.Bool.{Bool, true, false, cond}
use mathlib.Core.List.{List, [], ◌∷◌, ◌++◌, map, map-map}
use Prim.Native.Nat.{ℕ, suc, ◌+◌, ◌<◌, ◌≤◌}
use native.Mathlib.Omega.{arith}
use native.Mathlib.Numerals.{add-one}
use lib.Dec.{ltb, eqb}
use lib.ListN.{length, get_or}
use Rattle.std.specs.List.{sum_by}
use Rattle.std.specs.List.Sorted.{IsPermutation, IsSortedBy}
use Rattle.std.proofs.Common.{Ordering}
use Rattle.std.specs.Ordering.{is_lt, nat_cmp, ordering_then}
use Rattle.std.proofs.lemmas.List.{map-id}
use Rattle.std.proofs.lemmas.List.Sums.{sum_by-cons}
use Rattle.std.proofs.lemmas.List.Sorted.{sum_by-IsPermutation}
use Rattle.lists.specs.Order.{lex, less, same}
use Rattle.lists.specs.Keyed.{keep, placed, arranged}
use Rattle.lists.proofs.Tests.{by_cases, clash}
use Rattle.lists.proofs.Order.{less-le, less-total, same_refl, more_same, then_assoc}
use Rattle.lists.proofs.Keyed.{All, all_map, all_placed, length-keep, Sorted, sorted-arranged, placed-swap}
use Rattle.columns.proofs.Rows.{rows-length}
use Rattle.pins.proofs.Seen.{before}
use Rattle.snapshot.specs.Entries.{Entry, gone_by, by_deletion, entry_at}
use Rattle.snapshot.specs.Views.{rowsets_of, rowset_of}
use Rattle.snapshot.specs.declared.rowsets.Rowsets.{Rowsets}
use Rattle.snapshot.specs.declared.held.Held.{Held}
use Rattle.snapshot.specs.declared.rowsets.RowsetIds.{RowsetIds}
use Rattle.vacuum.specs.LetGo.{deletion_of}

module _ {A : Type 0} (key : A → List ℕ) where
  -- what is arranged last may be placed last, where no two keys are equal
  pub arranged-snoc : ((x y : A) → key x ≡ key y → x ≡ y) → (l : List A) (x : A) → arranged key (l ++ (x ∷ [])) ≡ placed key x (arranged key l)
  arranged-snoc u [] x = refl
  arranged-snoc u (y ∷ l) x = ap (placed key y) (arranged-snoc u l x) ∙ placed-swap key u y x (arranged key l)

  pub all-arranged : (P : A → Type 0) (l : List A) → All P l → All P (arranged key l)
  all-arranged P [] h = tt
  all-arranged P (x ∷ l) h = all_placed key P x (arranged key l) h.0 (all-arranged P l h.1)

-- two lists whose keys compare alike are arranged alike
module _ {A B : Type 0} (h : A → B) (ka : A → List ℕ) (kb : B → List ℕ) (P : A → Type 0) (alike : (x y : A) → P x → P y → less (ka x) (ka y) ≡ less (kb (h x)) (kb (h y))) where
  placed-map : (x : A) (l : List A) → P x → All P l → map h (placed ka x l) ≡ placed kb (h x) (map h l)
  placed-map x [] p a = refl
  placed-map x (y ∷ l) p a =
      let e = alike y x a.0 p in
      by_cases (less (kb (h y)) (kb (h x)))
      (λ t. rw (e, t) (ap (λ (m : List B). h y ∷ m) (placed-map x l p a.1)))
      (λ t. rw (e, t))

  pub arranged-map : (l : List A) → All P l → map h (arranged ka l) ≡ arranged kb (map h l)
  arranged-map [] a = refl
  arranged-map (x ∷ l) a = placed-map x (arranged ka l) a.0 (all-arranged ka P l a.1) ∙ ap (placed kb (h x)) (arranged-map l a.1)

-- how many of a list have a key
module _ {A : Type 0} (key : A → List ℕ) where
  abbrev one : List ℕ → A → ℕ
  one k x = cond (same (key x) k) 1 0

  abbrev pub count : List ℕ → List A → ℕ
  count k l = sum_by (one k) l

  count-placed : (k : List ℕ) (x : A) (l : List A) → count k (placed key x l) ≡ one k x + count k l
  count-placed k x [] = sum_by-cons (one k) x []
  count-placed k x (y ∷ l) =
      by_cases (less (key y) (key x))
      (λ e. rw e (sum_by-cons (one k) y (placed key x l) ∙ omega (arith, count-placed k x l, sum_by-cons (one k) y l)))
      (λ e. rw e (sum_by-cons (one k) x (y ∷ l)))

  pub count-arranged : (k : List ℕ) (l : List A) → count k (arranged key l) ≡ count k l
  count-arranged k [] = refl
  count-arranged k (x ∷ l) = count-placed k x (arranged key l) ∙ omega (arith, count-arranged k l, sum_by-cons (one k) x l)

  count_none : (k : List ℕ) (l : List A) → All (λ y. same (key y) k ≡ false) l → count k l ≡ 0
  count_none k [] h = refl
  count_none k (x ∷ l) h = let e : one k x ≡ 0 = rw h.0 in omega (arith, e, sum_by-cons (one k) x l, count_none k l h.1)

  count_first : (x : A) (l : List A) → count (key x) (x ∷ l) ≡ suc (count (key x) l)
  count_first x l = let e : one (key x) x ≡ 1 = rw same_refl in omega (arith, e, sum_by-cons (one (key x)) x l)

  -- a key that stands before a list in order is none of its keys
  count_before : (k : List ℕ) (x : A) (l : List A) → less k (key x) ≡ true → Sorted key (x ∷ l) → count k (x ∷ l) ≡ 0
  count_before k x l e s =
      count_none k (x ∷ l) (more_same k (key x) e, all_map l (λ y h. more_same k (key y) (less-le k (key x) (key y) e h)) s.0)

  -- no element is before the one that it follows
  pub in-order : (l : List A) → ((j : ℕ) (d : A) → suc j < length l → less (key (get_or l (suc j) d)) (key (get_or l j d)) ≡ false) → Sorted key l
  in-order [] h = tt
  in-order (x ∷ []) h = (tt, tt)
  in-order (x ∷ y ∷ l) h =
      let e : less (key y) (key x) ≡ false = h 0 x (omega arith) in
      let s = in-order (y ∷ l) (λ j d b. h (suc j) d (omega arith)) in
      ((e, all_map l (λ z g. by_cases (less (key z) (key x)) (λ t. clash (less-le (key z) (key x) (key y) t e) g) (λ t. t)) s.0), s)

-- two lists in order that have each key as often have the same keys
module _ {A B : Type 0} (ka : A → List ℕ) (kb : B → List ℕ) where
  pub sorted-alike : (l : List A) (m : List B) → Sorted ka l → Sorted kb m → ((k : List ℕ) → count ka k l ≡ count kb k m) → map ka l ≡ map kb m
  sorted-alike [] [] s t c = refl
  sorted-alike [] (y ∷ m) s t c = absurd (omega (arith, c (kb y), count_first kb y m))
  sorted-alike (x ∷ l) [] s t c = absurd (omega (arith, c (ka x), count_first ka x l))
  sorted-alike (x ∷ l) (y ∷ m) s t c =
      by_cases (less (ka x) (kb y))
      (λ e. absurd (omega (arith, c (ka x), count_first ka x l, count_before kb (ka x) y m e t)))
      (λ e. by_cases (less (kb y) (ka x))
      (λ f. absurd (omega (arith, c (kb y), count_first kb y m, count_before ka (kb y) x l f s)))
      (λ f.
      let p = less-total (ka x) (kb y) e f in
      ap₂ ◌∷◌ p (sorted-alike l m s.1 t.1 (λ k. let q : one ka k x ≡ one kb k y = ap (λ (j : List ℕ). cond (same j k) 1 0) p in omega (arith, q, c k, sum_by-cons (one ka k) x l, sum_by-cons (one kb k) y m)))))

count-map : {A B : Type 0} (f : A → B) (key : B → List ℕ) (k : List ℕ) (l : List A) → count key k (map f l) ≡ count (λ x. key (f x)) k l
count-map f key k [] = refl
count-map f key k (x ∷ l) = sum_by-cons (one key k) (f x) (map f l) ∙ omega (arith, count-map f key k l, sum_by-cons (one (λ x. key (f x)) k) x l)

-- numbers compared one after another, as tuples are
lt-lex : (m n : ℕ) (o : Ordering) → is_lt (ordering_then (nat_cmp m n) o) ≡ lex m n (is_lt o)
lt-lex m n o = by_cases (ltb m n) (λ t. rw t) (λ t. by_cases (eqb m n) (λ u. rw (t, u) refl) (λ u. rw (t, u)))

-- a listed deletion as numbers, and back
abbrev by_its : ℕ × ℕ × ℕ → List ℕ
by_its x = x.0 ∷ x.1 ∷ x.2 ∷ []

abbrev of_its : List ℕ → ℕ × ℕ × ℕ
of_its k = (get_or k 0 0, get_or k 1 0, get_or k 2 0)

-- as std compares two of them
abbrev pub sooner : ℕ × ℕ × ℕ → ℕ × ℕ × ℕ → Bool
sooner x y = is_lt (ordering_then (ordering_then (nat_cmp x.0 y.0) (nat_cmp x.1 y.1)) (nat_cmp x.2 y.2))

compared : (x y : ℕ × ℕ × ℕ) → sooner x y ≡ less (by_its x) (by_its y)
compared x y =
    ap is_lt (then_assoc (nat_cmp x.0 y.0) (nat_cmp x.1 y.1) (nat_cmp x.2 y.2))
    ∙ lt-lex x.0 y.0 _
    ∙ ap (lex x.0 y.0) (lt-lex x.1 y.1 _ ∙ ap (lex x.1 y.1) (before x.2 y.2))

-- a rowset as it is listed
abbrev pub listed_as : Held RowsetIds → ℕ × ℕ × ℕ
listed_as x = deletion_of (rowset_of x)

-- what is gone, sorted, is the vacuum's list
module _ (hs : List (Held RowsetIds)) (ks : List (ℕ × ℕ × ℕ)) (l : List Entry) (e : map rowset_of hs ≡ l) (p : IsPermutation (map listed_as hs) ks) (up : IsSortedBy sooner ks) where
  same-keys : map by_its ks ≡ map by_deletion (arranged by_deletion l)
  same-keys =
      sorted-alike by_its by_deletion ks (arranged by_deletion l)
      (in-order by_its ks (λ j d h. sym (compared (get_or ks (suc j) d) (get_or ks j d)) ∙ rw add-one at (up j d (omega arith) (omega arith))))
      (sorted-arranged by_deletion l)
      (λ k. sum_by-IsPermutation (one by_its k) (map listed_as hs) ks p
      ∙ count-map listed_as by_its k hs
      ∙ sym (count-map rowset_of by_deletion k hs)
      ∙ ap (count by_deletion k) e
      ∙ sym (count-arranged by_deletion k l))

  pub in-turn : ks ≡ map deletion_of (arranged by_deletion l)
  in-turn =
      sym (map-id ks) ∙ sym (map-map of_its by_its ks)
      ∙ ap (map of_its) same-keys
      ∙ map-map of_its by_deletion (arranged by_deletion l)

-- no more is gone than is held
pub gone-few : (e : ℕ) (s : Rowsets) → length (keep (gone_by e) (rowsets_of s)) ≤ s.count
gone-few e s = omega (arith, length-keep (gone_by e) (rowsets_of s), rows-length (entry_at (s.tables ∷ s.rowsets ∷ []) s.added s.deleted) s.count)
