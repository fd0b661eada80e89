-- What is kept of a list whose entries have a key, when entries are put in, changed or taken out. Assumes nothing.
use Prim.Native.Nat.{ℕ, ◌+◌, ◌≤◌}
use mathlib.Core.Bool.{Bool, true, false, not}
use mathlib.Core.Path.{◌≡◌, refl, sym, ap, ◌∙◌}
use mathlib.Core.List.{List, [], ◌∷◌}
use native.Mathlib.Omega.{arith}
use lib.ListN.{length}
use Rattle.lists.specs.Order.{less, same}
use Rattle.lists.specs.Keyed.{keep, is_at, has, put, without, changed}
use Rattle.lists.proofs.Tests.{by_cases, clash}
use Rattle.lists.proofs.Order.{less-asym, less-total, less-trans, more_same, same_true, same-eq}
use Rattle.lists.proofs.Keyed.{All, After, Ascending, all_map, all_keep, length-keep}

module _ {A : Type 0} (key : A → List ℕ) where
  -- a test that everything with the key k passes takes none of it out
  pub has-keep : (k : List ℕ) (q : A → Bool) (l : List A) → ((x : A) → is_at key k x ≡ true → q x ≡ true) → has key k (keep q l) ≡ has key k l
  has-keep k q [] h = refl
  has-keep k q (x ∷ l) h =
      by_cases (is_at key k x)
      (λ t. rw (h x t, t))
      (λ t. by_cases (q x) (λ u. rw (u, t) (has-keep k q l h)) (λ u. rw (u, t) (has-keep k q l h)))

  fewer : (k : List ℕ) (l : List A) → has key k l ≡ true → length (without key k l) + 1 ≤ length l
  fewer k [] h = clash h refl
  fewer k (x ∷ l) h =
      by_cases (is_at key k x)
      (λ t. rw t (omega (arith, length-keep (λ y. not (is_at key k y)) l)))
      (λ t. rw t (omega (arith, fewer k l (rw t at h))))

  -- different keys that are all in a list are no more than its entries
  pub few-among : (ks : List (List ℕ)) (l : List A) → Ascending (λ k. k) ks → All (λ k. has key k l ≡ true) ks → length ks ≤ length l
  few-among [] l a h = omega arith
  few-among (k ∷ ks) l a h = omega (arith, fewer k l h.0, few-among ks (without key k l) a.1 (others ks a.0 h.1))
    where
      others : (js : List (List ℕ)) → All (λ j. less k j ≡ true) js → All (λ j. has key j l ≡ true) js → All (λ j. has key j (without key k l) ≡ true) js
      others [] a h = tt
      others (j ∷ js) a h = (has-keep j (λ y. not (is_at key k y)) l (λ x t. rw (same_true (key x) j t, more_same k j a.0)) ∙ h.0, others js a.1 h.1)

  -- before all others
  put-ahead : (x : A) (l : List A) → After key (key x) l → put key x l ≡ x ∷ l
  put-ahead x [] h = refl
  put-ahead x (y ∷ l) h = rw (less-asym (key x) (key y) h.0, more_same (key x) (key y) h.0)

  after-of : (x y : A) (l : List A) → less (key y) (key x) ≡ false → same (key y) (key x) ≡ false → Ascending key (y ∷ l) → After key (key x) (y ∷ l)
  after-of x y l e f s =
      let t : less (key x) (key y) ≡ true = by_cases (less (key x) (key y)) (λ t. t) (λ t. clash (same-eq (key y) (key x) (less-total (key y) (key x) e t)) f) in
      (t, all_map l (λ z. less-trans (key x) (key y) (key z) t) s.0)

  pub keep-put : (q : A → Bool) (x : A) (l : List A) → q x ≡ true → Ascending key l → keep q (put key x l) ≡ put key x (keep q l)
  keep-put q x [] qx s = rw qx
  keep-put q x (y ∷ l) qx s =
      by_cases (less (key y) (key x))
      (λ e. by_cases (q y)
      (λ t. rw (e, t) (ap (λ (m : List A). y ∷ m) (keep-put q x l qx s.1) ∙ rw e))
      (λ t. rw (e, t) (keep-put q x l qx s.1)))
      (λ e. by_cases (same (key y) (key x))
      (λ f. by_cases (q y)
      (λ t. rw (e, f, qx, t) (rw (e, f)))
      (λ t. rw (e, f, qx, t) (sym (put-ahead x (keep q l) (all_keep (λ z. less (key x) (key z) ≡ true) q l (rw (same_true (key y) (key x) f) at s.0))))))
      (λ f. rw (e, f, qx) (sym (put-ahead x (keep q (y ∷ l)) (all_keep (λ z. less (key x) (key z) ≡ true) q (y ∷ l) (after-of x y l e f s))))))

  -- what is marked goes
  pub keep-changed : (q : A → Bool) (k : List ℕ) (f : A → A) → ((x : A) → q (f x) ≡ false) → (l : List A) → keep q (changed key k f l) ≡ without key k (keep q l)
  keep-changed q k f gone [] = refl
  keep-changed q k f gone (y ∷ l) =
      by_cases (is_at key k y)
      (λ e. by_cases (q y)
      (λ t. rw (e, gone y, t) (keep-changed q k f gone l ∙ rw e))
      (λ t. rw (e, gone y, t) (keep-changed q k f gone l)))
      (λ e. by_cases (q y)
      (λ t. rw (e, t) (ap (λ (m : List A). y ∷ m) (keep-changed q k f gone l) ∙ rw e))
      (λ t. rw (e, t) (keep-changed q k f gone l)))
