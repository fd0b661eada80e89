-- Entries in columns, whatever the number of key columns: their order, and what a change of each column does. Assumes nothing.
use mathlib.Core.Path.{◌≡◌, refl, sym, ap, ap₂, ◌∙◌}
use mathlib.Core.Bool.{Bool, true, false, ◌&&◌, not}
use mathlib.Core.List.{List, [], ◌∷◌, map}
use Prim.Native.Nat.{ℕ, ◌+◌, ◌≤◌, ◌<◌}
use native.Mathlib.Omega.{arith}
use native.Mathlib.Numerals.{add-one}
use lib.Dec.{ltb, leb, eqb}
use lib.ListN.{get_or}
use borrow.Author.Tests.{ltb-true, ltb-false, lt-ltb, le-leb, ne_eqb}
use Rattle.lists.specs.Order.{same}
use Rattle.lists.specs.Keyed.{all_of, has, put, ascending, rank}
use Rattle.lists.specs.Places.{insert_at}
use Rattle.lists.proofs.Tests.{by_cases, past}
use Rattle.lists.proofs.Keyed.{Ascending, ascend-to}
use Rattle.lists.proofs.Places.{has_here, has_end}
use Rattle.lists.proofs.Views.{put_other}
use Rattle.columns.specs.Rows.{rows, column, across, plain, PutIn}
use Rattle.snapshot.specs.Entries.{Entry, by_ids, deleted_at, entry_at, entries, added_at, gone_at, shown_at, shown_by}
use Rattle.columns.proofs.Rows.{insert-below, insert-here, insert-after, rows-length, rows_at, rows-map, ascending-map, rank-map, rows-insert, put-rows}

-- a test of rows is the test of what is tested
pub all_map : {A B : Type 0} (e : A → B) (p : B → Bool) (l : List A) → all_of (λ x. p (e x)) l ≡ all_of p (map e l)
all_map e p [] = refl
all_map e p (x ∷ l) = ap (λ (t : Bool). p (e x) && t) (all_map e p l)

module _ {A : Type 0} (f : ℕ → A) (n : ℕ) where
  pub all-rows : {B : Type 0} (e : A → B) (p : B → Bool) → all_of (λ x. p (e x)) (rows f n) ≡ all_of p (rows (λ i. e (f i)) n)
  all-rows e p = all_map e p (rows f n) ∙ ap (all_of p) (rows-map f e n)

module _ (ks : List (List ℕ)) (a d : List ℕ) (n : ℕ) where
  pub rank-ids : (k : List ℕ) → rank by_ids k (entries ks a d n) ≡ rank plain k (rows (across ks) n)
  rank-ids k = rank-map by_ids k (entries ks a d n) ∙ ap (rank plain k) (rows-map (entry_at ks a d) by_ids n)

  pub ascending-ids : ascending by_ids (entries ks a d n) ≡ ascending plain (rows (across ks) n)
  ascending-ids = ascending-map by_ids (entries ks a d n) ∙ ap (ascending plain) (rows-map (entry_at ks a d) by_ids n)

  -- whether a key is held is told at its place
  module _ (k : List ℕ) (at : ℕ) (up : ascending plain (rows (across ks) n) ≡ true) (r : at ≡ rank plain k (rows (across ks) n)) where
    rises : Ascending by_ids (entries ks a d n)
    rises = ascend-to by_ids (entries ks a d n) (ascending-ids ∙ up)

    place-ids : rank by_ids k (entries ks a d n) ≡ at
    place-ids = rank-ids k ∙ sym r

    pub held-ids : has by_ids k (entries ks a d n) ≡ ltb at n && same (across ks at) k
    held-ids =
        let l = entries ks a d n in
        let z = rows-length (entry_at ks a d) n in
        let p = place-ids in
        by_cases (ltb at n)
        (λ t. let h = ltb-true at n t in
        rw t (has_here by_ids k l (entry_at ks a d 0) rises (omega arith) ∙ rw (p, rows_at (entry_at ks a d) n at (entry_at ks a d 0) h)))
        (λ t. let h = ltb-false at n t in rw t (has_end by_ids k l rises (omega arith)))

    -- an entry of a key that is not held is put in at its place
    pub put-ids : (x y : ℕ) → ltb at n && same (across ks at) k ≡ false
        → insert_at at (record { ids = k; added = x; deleted = y }) (entries ks a d n) ≡ put by_ids (record { ids = k; added = x; deleted = y }) (entries ks a d n)
    put-ids x y t =
        let l = entries ks a d n in
        let e : Entry = record { ids = k; added = x; deleted = y } in
        let z = rows-length (entry_at ks a d) n in
        let p = place-ids in
        sym (put_other by_ids e l e (λ h.
        let g : at < n = omega arith in
        rw (p, rows_at (entry_at ks a d) n at e g) (past (ltb at n) (same (across ks at) k) t (lt-ltb at n g)))
        ∙ rw p refl)

-- Each key column with its number put in at a place: how an insertion stands in all columns at once.
pub data AllPutIn (n at : ℕ) : List (List ℕ) → List ℕ → List (List ℕ) → Type 0 where
  none : AllPutIn n at [] [] []
  more : {c e : List ℕ} {x : ℕ} {cs es : List (List ℕ)} {xs : List ℕ} → PutIn n at c x e → AllPutIn n at cs xs es → AllPutIn n at (c ∷ cs) (x ∷ xs) (e ∷ es)

module _ (n at : ℕ) (h : at ≤ n) where
  module _ (c : List ℕ) (x : ℕ) (e : List ℕ) (p : PutIn n at c x e) where
    in-below : (i : ℕ) → i < at → column e i ≡ column c i
    in-below i q =
        let z = rows-length (column c) n in
        sym (rows_at (column e) (n + 1) i 0 (omega arith)) ∙ ap (λ (l : List ℕ). get_or l i 0) (put-rows n at x c e p) ∙ insert-below x 0 at (rows (column c) n) i q (omega arith) ∙ rows_at (column c) n i 0 (omega arith)

    in-here : column e at ≡ x
    in-here =
        let z = rows-length (column c) n in
        sym (rows_at (column e) (n + 1) at 0 (omega arith)) ∙ ap (λ (l : List ℕ). get_or l at 0) (put-rows n at x c e p) ∙ insert-here x 0 at (rows (column c) n) (omega arith)

    in_after : (i : ℕ) → at ≤ i → i < n → column e (i + 1) ≡ column c i
    in_after i q w =
        let z = rows-length (column c) n in
        let u : get_or (insert_at at x (rows (column c) n)) (i + 1) 0 ≡ get_or (rows (column c) n) i 0 = rw add-one (insert-after x 0 at (rows (column c) n) i q (omega arith)) in
        sym (rows_at (column e) (n + 1) (i + 1) 0 (omega arith)) ∙ ap (λ (l : List ℕ). get_or l (i + 1) 0) (put-rows n at x c e p) ∙ u ∙ rows_at (column c) n i 0 w

  all-below : {ks es : List (List ℕ)} {xs : List ℕ} → AllPutIn n at ks xs es → (i : ℕ) → i < at → across es i ≡ across ks i
  all-below none i q = refl
  all-below (more p ps) i q = ap₂ ◌∷◌ (in-below _ _ _ p i q) (all-below ps i q)

  all_here : {ks es : List (List ℕ)} {xs : List ℕ} → AllPutIn n at ks xs es → across es at ≡ xs
  all_here none = refl
  all_here (more p ps) = ap₂ ◌∷◌ (in-here _ _ _ p) (all_here ps)

  all_after : {ks es : List (List ℕ)} {xs : List ℕ} → AllPutIn n at ks xs es → (i : ℕ) → at ≤ i → i < n → across es (i + 1) ≡ across ks i
  all_after none i q w = refl
  all_after (more p ps) i q w = ap₂ ◌∷◌ (in_after _ _ _ p i q w) (all_after ps i q w)

  -- an entry put in, in all columns
  pub insert_entry : {ks es : List (List ℕ)} {xs : List ℕ} (a b d f : List ℕ) (x y : ℕ) → AllPutIn n at ks xs es → PutIn n at a x b → PutIn n at d y f
      → entries es b f (n + 1) ≡ insert_at at (record { ids = xs; added = x; deleted = y }) (entries ks a d n)
  insert_entry {ks} {es} {xs} a b d f x y ps p q =
      rows-insert (entry_at ks a d) (entry_at es b f) n at (record { ids = xs; added = x; deleted = y }) h
      (λ i w. rw (all-below ps i w, in-below a x b p i w, in-below d y f q i w))
      (rw (all_here ps, in-here a x b p, in-here d y f q))
      (λ i w v. rw (all_after ps i w v, in_after a x b p i w v, in_after d y f q i w v))

  -- an entry of a key that is not held, put in at the key's place
  pub put-entry : {ks es : List (List ℕ)} {xs : List ℕ} (a b d f : List ℕ) (x y : ℕ) → AllPutIn n at ks xs es → PutIn n at a x b → PutIn n at d y f
      → ascending plain (rows (across ks) n) ≡ true → at ≡ rank plain xs (rows (across ks) n) → ltb at n && same (across ks at) xs ≡ false
      → entries es b f (n + 1) ≡ put by_ids (record { ids = xs; added = x; deleted = y }) (entries ks a d n)
  put-entry {ks} {es} {xs} a b d f x y ps p q up r t = insert_entry a b d f x y ps p q ∙ put-ids ks a d n xs at up r x y t

-- an epoch shows what it adds, and not what it deletes
pub shows-new : (e : ℕ) (k : List ℕ) → shown_by e (added_at e k) ≡ true
unfolding shown_at gone_at
shows-new e k = rw (le-leb e e (omega arith))

pub hides-deleted : (e : ℕ) (x : Entry) → 1 ≤ e → shown_by e (deleted_at e x) ≡ false
unfolding shown_at gone_at
hides-deleted e x h = go (leb x.added e)
  where
    go : (b : Bool) → b && not (not (eqb e 0) && leb e e) ≡ false
    go true = rw (ne_eqb e 0 (omega arith), le-leb e e (omega arith))
    go false = refl
