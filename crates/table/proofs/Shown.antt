-- The ids of what is shown now, or of a part of it: they are well formed, rise, and are shown at the next epoch too; and what is left when that part is deleted. Assumes nothing.
use mathlib.Core.Path.{◌≡◌, refl, sym, ap, ◌∙◌}
use mathlib.Core.Bool.{Bool, true, false, not, ◌&&◌, ◌||◌, and-true, and-false}
use mathlib.Core.List.{List, [], ◌∷◌, map}
use Prim.Native.Nat.{ℕ, ◌+◌, ◌≤◌}
use native.Mathlib.Omega.{arith}
use lib.ListN.{length, length-map}
use Rattle.lists.specs.Order.{less, same}
use Rattle.lists.specs.Keyed.{keep, any_of, is_at, has}
use Rattle.lists.proofs.Tests.{by_cases}
use Rattle.lists.proofs.Order.{same_refl, same_true, same-sym}
use Rattle.lists.proofs.Keyed.{All, Ascending, all_map, all_keep, all-mapped, keep_same, length-keep, ascending-keep}
use Rattle.snapshot.specs.Entries.{Entry, shown_by, shown, by_ids, below_next}
use Rattle.version_state.proofs.Within.{Within, shown-next}
use Rattle.operations.specs.Judge.{is_shown}
use Rattle.table.proofs.Deletes.{among, deleted_all, shown-marked}

pub or-second : {b : Bool} (a : Bool) → b ≡ true → a || b ≡ true
or-second true h = refl
or-second false h = h

module _ {A : Type 0} where
  -- each entry of a list is in it
  members : (key : A → List ℕ) (l : List A) → All (λ x. has key (key x) l ≡ true) l
  members key [] = tt
  members key (y ∷ l) = (rw (same_refl (key y)), all_map l (λ x h. or-second (is_at key (key x) y) h) (members key l))

  mapped-rise : (key : A → List ℕ) (l : List A) → Ascending key l → Ascending (λ k. k) (map key l)
  mapped-rise key [] a = tt
  mapped-rise key (x ∷ l) a = (all-mapped (λ k. less (key x) k ≡ true) key l a.0, mapped-rise key l a.1)

-- no more ids are shown than are held
pub few-part : (p : List ℕ → Bool) (e : ℕ) (l : List Entry) (n : ℕ) → length l ≤ n → length (keep p (shown e l)) ≤ n
few-part p e l n h =
    let a = length-keep p (shown e l) in
    let b = length-map (keep (shown_by e) l) by_ids in
    let c = length-keep (shown_by e) l in
    omega arith

-- entries at an epoch e: ids of a form, below ns, that rise
pub record Held (form : List ℕ → List ℕ) (e : ℕ) (ns : List ℕ) (l : List Entry) : Type 0 where
  pub forms : All (λ x. form (by_ids x) ≡ by_ids x) l
  pub within : All (Within e ns) l
  pub order : Ascending by_ids l

module _ (form : List ℕ → List ℕ) (e : ℕ) (ns : List ℕ) (l : List Entry) (h : Held form e ns l) where
  -- the next epoch shows what this one shows
  pub next-same : keep (shown_by (e + 1)) l ≡ keep (shown_by e) l
  next-same = shown-next e ns l h.within

  module _ (p : List ℕ → Bool) where
    -- the ids of the part of it that passes p
    abbrev part : List (List ℕ)
    part = keep p (shown e l)

    all-part : (P : List ℕ → Type 0) → All (λ x. P (by_ids x)) l → All P part
    all-part P a = all_keep P p (shown e l) (all-mapped P by_ids (keep (shown_by e) l) (all_keep (λ x. P (by_ids x)) (shown_by e) l a))

    pub part-forms : All (λ k. form k ≡ k) part
    part-forms = all-part (λ k. form k ≡ k) h.forms

    pub part-below : All (λ k. below_next k ns ≡ true) part
    part-below = all-part (λ k. below_next k ns ≡ true) (all_map l (λ x w. w.ids) h.within)

    pub part-rises : Ascending (λ k. k) part
    part-rises = ascending-keep (λ k. k) p (shown e l) (mapped-rise by_ids (keep (shown_by e) l) (ascending-keep by_ids (shown_by e) l h.order))

    pub part-shown : All (λ k. is_shown (e + 1) k l ≡ true) part
    part-shown =
        all_keep (λ k. is_shown (e + 1) k l ≡ true) p (shown e l)
        (all-mapped (λ k. is_shown (e + 1) k l ≡ true) by_ids (keep (shown_by e) l)
        (all_map (keep (shown_by e) l) (λ x t. ap (has by_ids (by_ids x)) next-same ∙ t) (members by_ids (keep (shown_by e) l))))

    -- an entry is among them exactly if it is shown and passes p
    listed : (k : List ℕ) (m : List Entry) → any_of (same k) (keep p (map by_ids m)) ≡ p k && has by_ids k m
    listed k [] = sym (and-false (p k))
    listed k (x ∷ m) =
        by_cases (same k (by_ids x))
        (λ t. let q = same_true k (by_ids x) t in
        by_cases (p (by_ids x))
        (λ u. rw (u, t, q, u, same_refl (by_ids x)))
        (λ u. rw (u) (listed k m ∙ rw (q, u))))
        (λ t. by_cases (p (by_ids x))
        (λ u. rw (u, t, same-sym (by_ids x) k, t) (listed k m))
        (λ u. rw (u, same-sym (by_ids x) k, t) (listed k m)))

    pub part-among : All (λ x. among part x ≡ p (by_ids x)) (keep (shown_by e) l)
    part-among =
        all_map (keep (shown_by e) l) (λ x t. listed (by_ids x) (keep (shown_by e) l) ∙ rw t (and-true (p (by_ids x)))) (members by_ids (keep (shown_by e) l))

    -- what is left when they are deleted at the next epoch
    pub part-deleted : keep (shown_by (e + 1)) (deleted_all (e + 1) part l) ≡ keep (λ x. not (p (by_ids x))) (keep (shown_by e) l)
    part-deleted =
        shown-marked (e + 1) (omega arith) part l
        ∙ ap (keep (λ x. not (among part x))) next-same
        ∙ keep_same (λ x. not (among part x)) (λ x. not (p (by_ids x))) (keep (shown_by e) l) (all_map (keep (shown_by e) l) (λ x t. ap not t) part-among)
