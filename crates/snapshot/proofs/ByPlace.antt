-- Entries by place: what is held, what an epoch shows, and the run of a table. Assumes nothing.
use mathlib.Core.Path.{◌≡◌, refl, sym, ap, ◌∙◌}
use mathlib.Core.Bool.{Bool, true, false, ◌&&◌}
use mathlib.Core.List.{List, [], ◌∷◌}
use Prim.Native.Nat.{ℕ, ◌+◌, ◌≤◌, ◌<◌}
use native.Mathlib.Omega.{arith}
use native.Mathlib.Numerals.{add-one}
use lib.Dec.{ltb, eqb}
use lib.ListN.{length, get_or, take, drop}
use borrow.Author.Tests.{ltb-true, ltb-false, lt-ltb, eq-eqb, ne_eqb}
use Rattle.std.specs.Prelude.{Ok, Err, nat_eq}
use Rattle.std.specs.List.{list_any}
use Rattle.lists.specs.Order.{less, same}
use Rattle.lists.specs.Keyed.{keep, any_of, is_at, has, put, ascending, rank}
use Rattle.lists.proofs.Tests.{by_cases, clash, neither}
use Rattle.lists.proofs.Order.{same_true, less-same, less-trans}
use Rattle.lists.proofs.Keyed.{any-same, any_of-map, All, After, Ascending, ascend-to, ascend-from, after-absent, ascending-put}
use lib.Seq.{take_all}
use Rattle.lists.proofs.Places.{has_here, drop-view, drop-end}
use Rattle.columns.specs.Rows.{rows, column, across, plain, PutIn}
use Rattle.columns.proofs.Rows.{rows_at, rows-map, rows-column, rows_seen, rows_end}
use Rattle.snapshot.specs.Entries.{Entry, by_ids, nothing, added_at, of_table, entry_at, entries}
use Rattle.snapshot.specs.Found.{FoundAt, BeforeTable, drop_below, leads}
use Rattle.snapshot.proofs.Entries.{AllPutIn, rank-ids, ascending-ids, held-ids, put-entry}

module _ {A : Type 0} (key : A → List ℕ) (p : A → Bool) (k : List ℕ) where
  pub none_kept : (l : List A) → has key k l ≡ false → has key k (keep p l) ≡ false
  none_kept [] h = refl
  none_kept (x ∷ l) h =
      let d = neither (is_at key k x) (has key k l) h in
      by_cases (p x) (λ e. rw (e, d.0) (none_kept l d.1)) (λ e. rw e (none_kept l d.1))

  -- of a list in order, a key is among what passes a test where what stands at its place has it and passes
  pub has_kept : (l : List A) (d : A) → Ascending key l → has key k (keep p l) ≡ has key k l && p (get_or l (rank key k l) d)
  has_kept [] d s = refl
  has_kept (x ∷ l) d s =
      by_cases (less (key x) k)
      (λ e. let n = less-same (key x) k e in
      let ih = has_kept l d s.1 in
      by_cases (p x)
      (λ t. rw (e, n, t, add-one, n) ih)
      (λ t. rw (e, n, t, add-one) ih))
      (λ e. by_cases (is_at key k x)
      (λ q. let absent : has key k l ≡ false = rw (← same_true (key x) k q) (after-absent key (key x) l s.0) in
      by_cases (p x)
      (λ t. rw (e, q, t, q))
      (λ t. rw (e, q, t) (none_kept l absent)))
      (λ q. let z : rank key k (x ∷ l) < length (x ∷ l) = rw e (omega arith) in
      let h : has key k (x ∷ l) ≡ false = has_here key k (x ∷ l) x s z ∙ rw (e, q) in
      rw h (none_kept (x ∷ l) h)))

-- what was found, by a list in order
module _ (k : List ℕ) (l : List Entry) (n at : ℕ) (up : ascending by_ids l ≡ true) where
  pub shown-found : (p : Entry → Bool) → FoundAt k l n (Ok at) → has by_ids k (keep p l) ≡ p (get_or l at nothing)
  shown-found p f = has_kept by_ids p k l nothing (ascend-to by_ids l up) ∙ rw (f.2, f.0)

  pub shown-missed : (p : Entry → Bool) → FoundAt k l n (Err at) → has by_ids k (keep p l) ≡ false
  shown-missed p f = none_kept by_ids p k l f.2

-- one table's entries of a list in order stand in one run
module _ (t : ℕ) (zs : List ℕ) (p : Entry → Bool) where
  later-rank : (u : List ℕ) (x : Entry) (l : List Entry) → After by_ids x.ids l → less x.ids u ≡ false → rank by_ids u l ≡ 0
  later-rank u x [] a h = refl
  later-rank u x (y ∷ l) a h =
      by_cases (less y.ids u) (λ e. clash (less-trans x.ids y.ids u a.0 e) h) (λ e. rw e)

  later-out : (x : Entry) (l : List Entry) → After by_ids x.ids l → less x.ids ((t + 1) ∷ zs) ≡ false → All (BeforeTable (t + 1) zs) l → keep (of_table t) (keep p l) ≡ []
  later-out x [] a h g = refl
  later-out x (y ∷ l) a h g =
      let z : ltb (get_or y.ids 0 0) (t + 1) ≡ false =
      by_cases (less y.ids ((t + 1) ∷ zs)) (λ e. clash (less-trans x.ids y.ids ((t + 1) ∷ zs) a.0 e) h) (λ e. sym g.0 ∙ e) in
      let w = ltb-false (get_or y.ids 0 0) (t + 1) z in
      let ne : eqb (get_or y.ids 0 0) t ≡ false = ne_eqb (get_or y.ids 0 0) t (omega arith) in
      by_cases (p y)
      (λ e. rw (e, ne) (later-out x l a.1 h g.1))
      (λ e. rw e (later-out x l a.1 h g.1))

  pub one-run : (l : List Entry) → Ascending by_ids l → All (BeforeTable t zs) l → All (BeforeTable (t + 1) zs) l
      → keep p (drop (rank by_ids (t ∷ zs) l) (take (rank by_ids ((t + 1) ∷ zs) l) l)) ≡ keep (of_table t) (keep p l)
  one-run [] s f g = refl
  one-run (x ∷ l) s f g =
      let h = get_or x.ids 0 0 in
      by_cases (ltb h t)
      (λ e. let lt = ltb-true h t e in
      let a : less x.ids (t ∷ zs) ≡ true = f.0 ∙ e in
      let b : less x.ids ((t + 1) ∷ zs) ≡ true = g.0 ∙ lt-ltb h (t + 1) (omega arith) in
      let ne : eqb h t ≡ false = ne_eqb h t (omega arith) in
      by_cases (p x)
      (λ q. rw (a, b, add-one, add-one, q, ne) (one-run l s.1 f.1 g.1))
      (λ q. rw (a, b, add-one, add-one, q) (one-run l s.1 f.1 g.1)))
      (λ e. let ge = ltb-false h t e in
      let a : less x.ids (t ∷ zs) ≡ false = f.0 ∙ e in
      by_cases (ltb h (t + 1))
      (λ e2. let lt = ltb-true h (t + 1) e2 in
      let b : less x.ids ((t + 1) ∷ zs) ≡ true = g.0 ∙ e2 in
      let eq : eqb h t ≡ true = eq-eqb h t (omega arith) in
      let r0 = later-rank (t ∷ zs) x l s.0 a in
      let ih : keep p (take (rank by_ids ((t + 1) ∷ zs) l) l) ≡ keep (of_table t) (keep p l) = rw r0 at (one-run l s.1 f.1 g.1) in
      by_cases (p x)
      (λ q. rw (a, b, add-one, q, eq) (ap (λ (m : List Entry). x ∷ m) ih))
      (λ q. rw (a, b, add-one, q) ih))
      (λ e2. let w = ltb-false h (t + 1) e2 in
      let b : less x.ids ((t + 1) ∷ zs) ≡ false = g.0 ∙ e2 in
      let ne : eqb h t ≡ false = ne_eqb h t (omega arith) in
      let out = later-out x l s.0 b g.1 in
      by_cases (p x)
      (λ q. rw (a, b, q, ne) (sym out))
      (λ q. rw (a, b, q) (sym out))))

-- the same of columns
module _ (ks : List (List ℕ)) (a d : List ℕ) (n : ℕ) where
  pub rises-plain : ascending by_ids (entries ks a d n) ≡ true → ascending plain (rows (across ks) n) ≡ true
  rises-plain up = sym (ascending-ids ks a d n) ∙ up

  pub entry_there : (i : ℕ) → i < n → get_or (entries ks a d n) i nothing ≡ entry_at ks a d i
  entry_there i h = rows_at (entry_at ks a d) n i nothing h

-- a list walked on from a place: what is below a key is passed, and what comes first is looked at
module _ {A : Type 0} (key : A → List ℕ) (f : ℕ → A) (n i : ℕ) where
  pub walk-stop : (k : List ℕ) → i < n → less (key (f i)) k ≡ false → drop i (rows f n) ≡ drop_below key k (drop i (rows f n))
  walk-stop k h t = rw (rows_seen f n i h, t)

  pub walk-on : (k : List ℕ) → i < n → less (key (f i)) k ≡ true → drop_below key k (drop (i + 1) (rows f n)) ≡ drop_below key k (drop i (rows f n))
  walk-on k h t = rw (rows_seen f n i h, t)

  pub walk-end : (k : List ℕ) → n ≤ i → drop n (rows f n) ≡ drop_below key k (drop i (rows f n))
  walk-end k h = rw (rows_end f n i h, rows_end f n n (omega arith))

  pub leads_at : (p : A → Bool) (k : List ℕ) → i < n → leads key p k (drop i (rows f n)) ≡ same (key (f i)) k && p (f i)
  leads_at p k h = rw (rows_seen f n i h)

  pub leads_none : (p : A → Bool) (k : List ℕ) → n ≤ i → leads key p k (drop i (rows f n)) ≡ false
  leads_none p k h = rw (rows_end f n i h)

-- all of what an epoch shows, and what is left of it from a place on
pub show_all : (p : Entry → Bool) (l : List Entry) (n : ℕ) → n ≡ length l → keep p (drop 0 (take n l)) ≡ keep p l
show_all p l n e = ap (keep p) (take_all n l (omega arith))

module _ (p : Entry → Bool) (l : List Entry) (end i : ℕ) (w : end ≤ length l) where
  pub show-this : i < end → p (get_or l i nothing) ≡ true → keep p (drop i (take end l)) ≡ get_or l i nothing ∷ keep p (drop (i + 1) (take end l))
  show-this h t = rw (drop-view l end i nothing h w, t)

  pub show-past : i < end → p (get_or l i nothing) ≡ false → keep p (drop i (take end l)) ≡ keep p (drop (i + 1) (take end l))
  show-past h t = rw (drop-view l end i nothing h w, t)

  pub show_none : end ≤ i → keep p (drop i (take end l)) ≡ []
  show_none h = rw (drop-end l end i h w)

-- an entry of a key that is not held, put in at the key's place in all columns
module _ {ks es : List (List ℕ)} {xs : List ℕ} (n at : ℕ) (a b d f : List ℕ) (e : ℕ) (ps : AllPutIn n at ks xs es) (p : PutIn n at a e b) (q : PutIn n at d 0 f)
    (up : ascending by_ids (entries ks a d n) ≡ true) (m : FoundAt xs (entries ks a d n) n (Err at)) where
  pub put-found : entries es b f (n + 1) ≡ put by_ids (added_at e xs) (entries ks a d n)
  put-found =
      let r = m.0 ∙ rank-ids ks a d n xs in
      put-entry n at m.1 a b d f e 0 ps p q (rises-plain ks a d n up) r (sym (held-ids ks a d n xs at (rises-plain ks a d n up) r) ∙ m.2)

  pub put-rises : ascending by_ids (entries es b f (n + 1)) ≡ true
  put-rises = ap (ascending by_ids) put-found ∙ ascend-from by_ids (put by_ids (added_at e xs) (entries ks a d n)) (ascending-put by_ids (added_at e xs) (entries ks a d n) (ascend-to by_ids (entries ks a d n) up))

-- the first numbers of a column, and one of them
pub column-has : (c : List ℕ) (n v : ℕ) → n ≤ length c → list_any (λ x. nat_eq x v) (take n c) ≡ any_of (λ x. eqb x v) (rows (column c) n)
column-has c n v h = any-same (λ x. nat_eq x v) (take n c) ∙ ap (any_of (λ x. eqb x v)) (sym (rows-column c n h))

-- the ids of vectors are one column
pub vector-ids : (x y z a d : List ℕ) (n v : ℕ) → any_of (λ e. eqb (get_or (by_ids e) 2 0) v) (entries (x ∷ y ∷ z ∷ []) a d n) ≡ any_of (λ i. eqb i v) (rows (column z) n)
vector-ids x y z a d n v =
    sym (any_of-map (λ (e : Entry). get_or (by_ids e) 2 0) (λ i. eqb i v) (entries (x ∷ y ∷ z ∷ []) a d n))
    ∙ ap (any_of (λ i. eqb i v)) (rows-map (entry_at (x ∷ y ∷ z ∷ []) a d) (λ (e : Entry). get_or (by_ids e) 2 0) n)
