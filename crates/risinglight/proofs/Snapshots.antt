-- Snapshots: what they have after an operation, and that a deletion of what is there does not fail. Assumes nothing.
use mathlib.Core.Path.{◌≡◌, refl, sym, ap, ◌∙◌}
use mathlib.Core.Bool.{true, cond, not, ◌&&◌, ◌||◌}
use mathlib.Core.List.{List, [], ◌∷◌}
use mathlib.Core.Option.{Option, none, some}
use Prim.Native.Nat.{ℕ}
use lib.Dec.{eqb}
use borrow.Author.Tests.{eqb-true}
use Rattle.lists.specs.Order.{same}
use Rattle.lists.proofs.Tests.{by_cases, clash}
use Rattle.risinglight.specs.Maps.{ok, unwrap_or, contains, with_number, without_number, Binding, get, insert}
use Rattle.risinglight.specs.Snapshot.{Snapshot, snapshot, settled, snapshot_add_rowset, snapshot_delete_rowset, snapshot_add_dv, snapshot_delete_dv, has_rowset, has_dv}
use Rattle.risinglight.proofs.Maps.{contains-without, contains-with, get-insert, get-settled}

-- what a map of sets or maps has at a key
abbrev row : {A : Type 0} → ℕ → List (Binding (List A)) → List A
row k m = unwrap_or [] (get k m)

row-there : {A : Type 0} (t u : ℕ) (m : List (Binding (List A))) (l : List A) → eqb t u ≡ true → get t m ≡ some l → row u m ≡ l
row-there t u m l e h = ap (λ o. unwrap_or [] o) (ap (λ c. get c m) (sym (eqb-true t u e)) ∙ h)

row-insert : {A : Type 0} (k j : ℕ) (l : List A) (m : List (Binding (List A))) → row k (insert j l m) ≡ cond (eqb j k) l (row k m)
row-insert k j l m = rw (get-insert k j l m) (by_cases (eqb j k) (λ e. rw e) (λ e. rw e))

-- a number more, in one set of a map
row-with : (t r u q : ℕ) (m : List (Binding (List ℕ))) → contains r (row t (insert u (with_number q (row u m)) m)) ≡ same (u ∷ q ∷ []) (t ∷ r ∷ []) || contains r (row t m)
row-with t r u q m =
    rw (row-insert t u (with_number q (row u m)) m)
    (by_cases (eqb u t)
    (λ e.
    let k : u ≡ t = eqb-true u t e in
    rw e (contains-with r q (row u m) ∙ by_cases (eqb q r) (λ f. rw f) (λ f. rw f (ap (λ c. contains r (row c m)) k))))
    (λ e. rw e))

-- a number less
row-without : (t r u q : ℕ) (m : List (Binding (List ℕ))) (l : List ℕ) → get u m ≡ some l
    → contains r (row t (settled u (without_number q l) m)) ≡ not (same (u ∷ q ∷ []) (t ∷ r ∷ [])) && contains r (row t m)
row-without t r u q m l h =
    rw (get-settled t u (without_number q l) m)
    (by_cases (eqb u t)
    (λ e. rw (e, row-there u t m l e h) (contains-without r q l ∙ by_cases (eqb q r) (λ f. rw f) (λ f. rw f)))
    (λ e. rw e))

pub added-rowset : (t r u q : ℕ) (s : Snapshot) → has_rowset t r (snapshot_add_rowset u q s) ≡ same (u ∷ q ∷ []) (t ∷ r ∷ []) || has_rowset t r s
added-rowset t r u q s = row-with t r u q s.rowsets

pub record RowsetDeleted (u q : ℕ) (s : Snapshot) : Type 0 where
  pub left : Snapshot
  pub runs : snapshot_delete_rowset u q s ≡ ok left
  pub rowsets : (t r : ℕ) → has_rowset t r left ≡ not (same (u ∷ q ∷ []) (t ∷ r ∷ [])) && has_rowset t r s
  pub dvs : left.dvs ≡ s.dvs

pub deleted-rowset : (u q : ℕ) (s : Snapshot) → has_rowset u q s ≡ true → RowsetDeleted u q s
deleted-rowset u q s h = go (get u s.rowsets) refl h
  where
    go : (o : Option (List ℕ)) → get u s.rowsets ≡ o → contains q (unwrap_or [] o) ≡ true → RowsetDeleted u q s
    go none e h = clash h refl
    go (some l) e h =
        record {
          left = snapshot (settled u (without_number q l) s.rowsets) s.dvs;
          runs = rw e;
          rowsets = λ t r. row-without t r u q s.rowsets l e;
          dvs = refl;
        }

pub added-dv : (t r v u q w : ℕ) (s : Snapshot) → has_dv t r v (snapshot_add_dv u q w s) ≡ same (u ∷ q ∷ w ∷ []) (t ∷ r ∷ v ∷ []) || has_dv t r v s
added-dv t r v u q w s =
    let table = row u s.dvs in
    rw (row-insert t u (insert q (with_number w (row q table)) table) s.dvs)
    (by_cases (eqb u t)
    (λ e.
    let k : u ≡ t = eqb-true u t e in
    rw e (row-with r v q w table ∙ ap (λ c. same (q ∷ w ∷ []) (r ∷ v ∷ []) || contains v (row r (row c s.dvs))) k))
    (λ e. rw e))

pub record DvDeleted (u q w : ℕ) (s : Snapshot) : Type 0 where
  pub left : Snapshot
  pub runs : snapshot_delete_dv u q w s ≡ ok left
  pub dvs : (t r v : ℕ) → has_dv t r v left ≡ not (same (u ∷ q ∷ w ∷ []) (t ∷ r ∷ v ∷ [])) && has_dv t r v s
  pub rowsets : left.rowsets ≡ s.rowsets

pub deleted-dv : (u q w : ℕ) (s : Snapshot) → has_dv u q w s ≡ true → DvDeleted u q w s
deleted-dv u q w s h = go (get u s.dvs) refl h
  where
    inside : (m : List (Binding (List ℕ))) → get u s.dvs ≡ some m → (o : Option (List ℕ)) → get q m ≡ o → contains w (unwrap_or [] o) ≡ true → DvDeleted u q w s
    inside m e none f h = clash h refl
    inside m e (some l) f h =
        record {
          left = snapshot s.rowsets (settled u (settled q (without_number w l) m) s.dvs);
          runs = rw (e, f);
          dvs = λ t r v.
              rw (get-settled t u (settled q (without_number w l) m) s.dvs)
              (by_cases (eqb u t)
              (λ g. rw (g, row-there u t s.dvs m g e) (row-without r v q w m l f))
              (λ g. rw g));
          rowsets = refl;
        }

    go : (o : Option (List (Binding (List ℕ)))) → get u s.dvs ≡ o → contains w (row q (unwrap_or [] o)) ≡ true → DvDeleted u q w s
    go none e h = clash h refl
    go (some m) e h = inside m e (get q m) refl h
