-- What the library's calls over places answer of rows: whether all of them or one passes a test, whether they rise, and which is the first to pass. Assumes nothing.
use mathlib.Core.Path.{◌≡◌, refl, ap, ap₂, ◌∙◌}
use mathlib.Core.Bool.{Bool, true, false, ◌&&◌, ◌||◌}
use mathlib.Core.List.{List}
use Prim.Native.Nat.{ℕ, zero, suc, ◌+◌, ◌-◌, ◌≤◌, ◌<◌}
use native.Mathlib.Omega.{arith}
use native.Mathlib.Numerals.{add-one}
use lib.Dec.{leb}
use lib.ListN.{length, get_or, take, drop}
use borrow.Author.Tests.{leb-true, leb-false}
use Rattle.std.specs.List.{list_all, list_any, range_with_len}
use Rattle.std.specs.Prelude.{Option, Some, None}
use Rattle.std.specs.Option.{MatchOption, unwrap_or}
use Rattle.lists.specs.Order.{less}
use Rattle.lists.specs.Keyed.{keep, all_of, any_of, above, ascending}
use Rattle.lists.proofs.Tests.{by_cases}
use Rattle.columns.specs.Rows.{rows_from, rows}
use Rattle.snapshot.specs.Entries.{Entry, nothing}
use Rattle.snapshot.specs.Found.{FirstPassing, drop_below}
use Rattle.snapshot.proofs.ByPlace.{walk-stop, walk-on, walk-end, show-this, show-past, show_none}

module _ {A : Type 0} (f : ℕ → A) (t : ℕ → Bool) (n : ℕ) where
  pub all-places : (p : A → Bool) → ((i : ℕ) → i < n → t i ≡ p (f i)) → list_all t (range_with_len 0 n) ≡ all_of p (rows f n)
  unfolding rows
  all-places p h = go 0 n (λ i a b. h i (omega arith))
    where
      go : (i n : ℕ) → ((j : ℕ) → i ≤ j → j < i + n → t j ≡ p (f j)) → list_all t (range_with_len i n) ≡ all_of p (rows_from f i n)
      go i zero e = refl
      go i (suc n) e = ap₂ ◌&&◌ (e i (omega arith) (omega arith)) (rw add-one (go (suc i) n (λ j a b. e j (omega arith) (omega arith))))

  pub any-places : (p : A → Bool) → ((i : ℕ) → i < n → t i ≡ p (f i)) → list_any t (range_with_len 0 n) ≡ any_of p (rows f n)
  unfolding rows
  any-places p h = go 0 n (λ i a b. h i (omega arith))
    where
      go : (i n : ℕ) → ((j : ℕ) → i ≤ j → j < i + n → t j ≡ p (f j)) → list_any t (range_with_len i n) ≡ any_of p (rows_from f i n)
      go i zero e = refl
      go i (suc n) e = ap₂ ◌||◌ (e i (omega arith) (omega arith)) (rw add-one (go (suc i) n (λ j a b. e j (omega arith) (omega arith))))

-- each row but the first is compared with the one before it
pub rising-places : {A : Type 0} (key : A → List ℕ) (f : ℕ → A) (t : ℕ → Bool) (n : ℕ) → ((i : ℕ) → i + 1 < n → t (i + 1) ≡ less (key (f i)) (key (f (i + 1))))
    → list_all t (range_with_len 1 (n - 1)) ≡ ascending key (rows f n)
unfolding rows
rising-places {A} key f t zero h = refl
rising-places {A} key f t (suc n) h = let z : suc n - 1 ≡ n = omega arith in rw z (go 0 n (λ i a b. h i (omega arith)))
  where
    go : (i n : ℕ) → ((j : ℕ) → i ≤ j → j < i + n → t (j + 1) ≡ less (key (f j)) (key (f (j + 1)))) → list_all t (range_with_len (i + 1) n) ≡ above key (key (f i)) (rows_from f (suc i) n)
    go i zero e = refl
    go i (suc n) e =
        let a : t (i + 1) ≡ less (key (f i)) (key (f (suc i))) = e i (omega arith) (omega arith) ∙ ap (λ (j : ℕ). less (key (f i)) (key (f j))) (add-one i) in
        let b : list_all t (range_with_len (i + 1 + 1) n) ≡ above key (key (f (suc i))) (rows_from f (suc (suc i)) n) =
        ap (λ (j : ℕ). list_all t (range_with_len (j + 1) n)) (add-one i) ∙ go (suc i) n (λ j a b. e j (omega arith) (omega arith)) in
        ap₂ ◌&&◌ a b

-- the first row from a place on that is not below a key
module _ {A : Type 0} (key : A → List ℕ) (f : ℕ → A) (n : ℕ) (k : List ℕ) where
  skip-below : (m i : ℕ) → i + m ≤ n → ((j : ℕ) → i ≤ j → j < i + m → less (key (f j)) k ≡ true) → drop_below key k (drop (i + m) (rows f n)) ≡ drop_below key k (drop i (rows f n))
  skip-below zero i h e = let z : i + 0 ≡ i = omega arith in rw z
  skip-below (suc m) i h e =
      let z : i + suc m ≡ i + 1 + m = omega arith in
      rw z (skip-below m (i + 1) (omega arith) (λ j a b. e j (omega arith) (omega arith)) ∙ walk-on key f n i k (omega arith) (e i (omega arith) (omega arith)))

  module _ (Yes No : ℕ → Type 0) (yes : (i : ℕ) → i < n → Yes i → less (key (f i)) k ≡ false) (no : (i : ℕ) → i < n → No i → less (key (f i)) k ≡ true) where
    pub first-not-below : (from : ℕ) (r : Option ℕ) → MatchOption r ((j : ℕ) → from ≤ j → j < n → No j) (λ i. (from ≤ i) × (i < n) × Yes i × ((j : ℕ) → from ≤ j → j < i → No j))
        → drop (unwrap_or r n) (rows f n) ≡ drop_below key k (drop from (rows f n))
    first-not-below from None h =
        by_cases (leb from n)
        (λ e. let w = leb-true from n e in let z : from + (n - from) ≡ n = omega arith in
        walk-end key f n n k (omega arith) ∙ rw z at (skip-below (n - from) from (omega arith) (λ j a b. no j (omega arith) (h j a (omega arith)))))
        (λ e. let w = leb-false from n e in walk-end key f n from k (omega arith))
    first-not-below from (Some i) h =
        let w = h.0 in
        let v = h.1 in
        let z : from + (i - from) ≡ i = omega arith in
        walk-stop key f n i k v (yes i v h.2) ∙ rw z at (skip-below (i - from) from (omega arith) (λ j a b. no j (omega arith) (h.3 j a (omega arith))))

-- the first entry from a place on, and before another, that passes a test
module _ (p : Entry → Bool) (l : List Entry) (end : ℕ) (w : end ≤ length l) where
  skip-hidden : (m i : ℕ) → i + m ≤ end → ((j : ℕ) → i ≤ j → j < i + m → p (get_or l j nothing) ≡ false) → keep p (drop i (take end l)) ≡ keep p (drop (i + m) (take end l))
  skip-hidden zero i h e = let z : i + 0 ≡ i = omega arith in rw z
  skip-hidden (suc m) i h e =
      let z : i + suc m ≡ i + 1 + m = omega arith in
      rw z (show-past p l end i w (omega arith) (e i (omega arith) (omega arith)) ∙ skip-hidden m (i + 1) (omega arith) (λ j a b. e j (omega arith) (omega arith)))

  pub first-shown : (from : ℕ) (r : Option ℕ) → MatchOption r ((j : ℕ) → from ≤ j → j < end → p (get_or l j nothing) ≡ false) (λ i. (from ≤ i) × (i < end) × (p (get_or l i nothing) ≡ true) × ((j : ℕ) → from ≤ j → j < i → p (get_or l j nothing) ≡ false))
      → FirstPassing p l from end r
  first-shown from None h =
      by_cases (leb from end)
      (λ e. let v = leb-true from end e in let z : from + (end - from) ≡ end = omega arith in
      rw z at (skip-hidden (end - from) from (omega arith) (λ j a b. h j a (omega arith))) ∙ show_none p l end end w (omega arith))
      (λ e. let v = leb-false from end e in show_none p l end from w (omega arith))
  first-shown from (Some i) h =
      let u = h.0 in
      let v = h.1 in
      let z : from + (i - from) ≡ i = omega arith in
      (v, rw z at (skip-hidden (i - from) from (omega arith) (λ j a b. h.3 j a (omega arith))) ∙ show-this p l end i w v h.2)
