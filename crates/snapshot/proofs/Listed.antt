-- Entries of a list by place, as methods that ask for one place after another read them. Assumes nothing.
use mathlib.Core.Path.{◌≡◌, refl, sym, ap, ◌∙◌}
use mathlib.Core.Bool.{Bool, true, false, ◌&&◌, and-true}
use mathlib.Core.List.{List, [], ◌∷◌}
use Prim.Native.Nat.{ℕ, zero, suc, ◌+◌, ◌-◌, ◌≤◌, ◌<◌}
use native.Mathlib.Omega.{arith}
use native.Mathlib.Nat.{not-suc-le-zero, le_of_suc-le-suc}
use lib.Dec.{ltb}
use lib.ListN.{length, get_or, drop, set}
use borrow.Author.Tests.{ltb-true, ltb-false}
use Rattle.std.proofs.Common.{suc-le-suc, zero-le}
use Rattle.std.specs.List.{list_all, range_with_len}
use Rattle.std.specs.Option.{MatchOption, unwrap_or}
use Rattle.std.specs.Prelude.{Ok, Err, Option}
use Rattle.lists.specs.Order.{less, same}
use Rattle.lists.specs.Keyed.{all_of, has, changed, ascending, rank}
use Rattle.lists.specs.Places.{change_at}
use Rattle.lists.proofs.Tests.{by_cases, both}
use Rattle.lists.proofs.Keyed.{All, ascend-to, ascend-from, ascending-changed}
use Rattle.lists.proofs.Places.{has_here, has_end, changed-at}
use Rattle.columns.specs.Rows.{rows, Turning}
use Rattle.columns.proofs.Rows.{rows_are, turning-rank}
use Rattle.snapshot.specs.Entries.{Entry, by_ids, nothing, deleted_at}
use Rattle.snapshot.specs.Found.{FoundAt, drop_below, leads}
use Rattle.snapshot.proofs.ByPlace.{leads_at, leads_none}
use Rattle.snapshot.proofs.Tested.{all-places, rising-places, first-not-below}

-- what each place has, all have
pub all-by-place : (P : Entry → Type 0) (l : List Entry) → ((i : ℕ) → i < length l → P (get_or l i nothing)) → All P l
all-by-place P [] h = tt
all-by-place P (x ∷ l) h = (h 0 (suc-le-suc zero-le), all-by-place P l (λ i w. h (suc i) (suc-le-suc w)))

change-set : (l : List Entry) (i : ℕ) (f : Entry → Entry) → i < length l → change_at i f l ≡ set l i (f (get_or l i nothing))
change-set [] i f h = absurd (not-suc-le-zero h)
change-set (x ∷ l) zero f h = refl
change-set (x ∷ l) (suc i) f h = ap (λ (t : List Entry). x ∷ t) (change-set l i f (le_of_suc-le-suc h))

module _ (l : List Entry) (n : ℕ) (e : length l ≡ n) where
  abbrev pub at_place : ℕ → Entry
  at_place i = get_or l i nothing

  listed : rows at_place n ≡ l
  listed = rows_are at_place n l nothing e (λ i h. refl)

  pub place-rank : (k : List ℕ) (answers : ℕ → Bool → Type 0) (r : ℕ) → ascending by_ids l ≡ true
      → ((i : ℕ) (b : Bool) → i < n → answers i b → b ≡ less (by_ids (at_place i)) k) → Turning answers n r → r ≡ rank by_ids k l
  place-rank k answers r up told t = turning-rank by_ids at_place n k answers r (ap (ascending by_ids) listed ∙ up) told t ∙ ap (rank by_ids k) listed

  pub all-listed : (t : ℕ → Bool) (p : Entry → Bool) → ((i : ℕ) → i < n → t i ≡ p (at_place i)) → list_all t (range_with_len 0 n) ≡ all_of p l
  all-listed t p h = all-places at_place t n p h ∙ ap (all_of p) listed

  pub rising-listed : (t : ℕ → Bool) → ((i : ℕ) → i + 1 < n → t (i + 1) ≡ less (by_ids (at_place i)) (by_ids (at_place (i + 1)))) → list_all t (range_with_len 1 (n - 1)) ≡ ascending by_ids l
  rising-listed t h = rising-places by_ids at_place t n h ∙ ap (ascending by_ids) listed

  pub below-listed : (k : List ℕ) (from : ℕ) (r : Option ℕ)
      → MatchOption r ((j : ℕ) → from ≤ j → j < n → less (by_ids (at_place j)) k ≡ true) (λ i. (from ≤ i) × (i < n) × (less (by_ids (at_place i)) k ≡ false) × ((j : ℕ) → from ≤ j → j < i → less (by_ids (at_place j)) k ≡ true))
      → drop (unwrap_or r n) l ≡ drop_below by_ids k (drop from l)
  below-listed k from r m = rw listed at (first-not-below by_ids at_place n k (λ i. less (by_ids (at_place i)) k ≡ false) (λ i. less (by_ids (at_place i)) k ≡ true) (λ i h w. w) (λ i h w. w) from r m)

  -- what comes first from a place on
  pub leads-listed : (at : ℕ) (p : Entry → Bool) (k : List ℕ) → leads by_ids p k (drop at l) ≡ (ltb at n && same (by_ids (at_place at)) k) && p (at_place at)
  leads-listed at p k = by_cases (ltb at n) (λ t. rw t (here (ltb-true at n t))) (λ t. rw t (out (ltb-false at n t)))
    where
      here : at < n → leads by_ids p k (drop at l) ≡ same (by_ids (at_place at)) k && p (at_place at)
      here h = rw listed at (leads_at by_ids at_place n at p k h)

      out : n ≤ at → leads by_ids p k (drop at l) ≡ false
      out h = rw listed at (leads_none by_ids at_place n at p k h)

  module _ (k : List ℕ) (at : ℕ) (up : ascending by_ids l ≡ true) where
    stood : at ≡ rank by_ids k l → has by_ids k l ≡ leads by_ids (λ x. true) k (drop at l)
    stood r =
        by_cases (ltb at n)
        (λ t. let h = ltb-true at n t in has_here by_ids k l nothing (ascend-to by_ids l up) (omega arith) ∙ sym (leads-listed at (λ x. true) k ∙ and-true _ ∙ rw (t, r)))
        (λ t. let h = ltb-false at n t in has_end by_ids k l (ascend-to by_ids l up) (omega arith) ∙ sym (leads-listed at (λ x. true) k ∙ rw t))

    pub found : at ≡ rank by_ids k l → leads by_ids (λ x. true) k (drop at l) ≡ true → FoundAt k l n (Ok at)
    found r t = (r, ltb-true at n (both (ltb at n) (same (by_ids (at_place at)) k) (sym (leads-listed at (λ x. true) k ∙ and-true _) ∙ t)).0, stood r ∙ t)

    pub missed : at ≡ rank by_ids k l → at ≤ n → leads by_ids (λ x. true) k (drop at l) ≡ false → FoundAt k l n (Err at)
    missed r w t = (r, w, stood r ∙ t)

    pub deleted-found : (f : Entry → Entry) → FoundAt k l n (Ok at) → set l at (f (at_place at)) ≡ changed by_ids k f l
    deleted-found f w = let r = w.0 in let h = w.1 in sym (changed-at by_ids k f l (ascend-to by_ids l up) w.2 ∙ rw (← r) (change-set l at f (omega arith)))

pub deleted-rises : (l : List Entry) (k : List ℕ) (e : ℕ) → ascending by_ids l ≡ true → ascending by_ids (changed by_ids k (deleted_at e) l) ≡ true
deleted-rises l k e up = ascend-from by_ids (changed by_ids k (deleted_at e) l) (ascending-changed by_ids k (deleted_at e) (λ x. refl) l (ascend-to by_ids l up))
