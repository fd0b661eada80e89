-- What a search by key finds in an ascending list, and what a change at that place does. Assumes nothing.
use Rattle.std.proofs.Common.{◌≡◌, true, false, ℕ, zero, suc, ◌<◌, ◌≤◌, List, [], ◌∷◌, length, get_or, Result, Ok, Err, IfOk, IfErr, ltb, set, sym, ◌∙◌, refl, arith}
use borrow.Author.Tests.{ltb-true, ltb-false}
use Rattle.std.specs.List.{insert, remove}
use Rattle.std.specs.List.Sorted.{IsSearchInRange, IsBinarySearchResult, IsNonDecreasingBy}
use Rattle.std.specs.Ordering.{ordering_index}
use Rattle.std.specs.declared.cmp.Ordering.{Ordering}
use Rattle.std.specs.declared.cmp.Ordering.TheVariants.{Less, Equal, Greater}
use Rattle.lists.specs.Order.{less, same, compared}
use Rattle.lists.specs.Keyed.{rank, put, without, ascending}
use Rattle.lists.specs.Places.{insert_at, remove_at}
use Rattle.lists.proofs.Tests.{by_cases, clash}
use Rattle.lists.proofs.Order.{less-irrefl, less-trans, less-asym, same_true, same_refl}
use Rattle.lists.proofs.Keyed.{Ascending, All, ascend-to, ascend-from, ascending-put, ascending-keep, without-absent}
use Rattle.lists.proofs.Views.{put-here, put_other}
use Rattle.lists.proofs.Places.{has_end, has_here, without_at, rank-le}
use Rattle.replay_lists.specs.Entries.{StandsAt, MissingAt}

module _ (a b : List ℕ) where
  compared_less : compared a b ≡ Less → less a b ≡ true
  compared_less e = by_cases (less a b) (λ t. t) (λ t. by_cases (same a b) (λ u. let f = rw (t, u) at e in cc) (λ u. let f = rw (t, u) at e in cc))

  compared_equal : compared a b ≡ Equal → a ≡ b
  compared_equal e = by_cases (less a b) (λ t. let f = rw t at e in cc) (λ t. by_cases (same a b) (λ u. same_true a b u) (λ u. let f = rw (t, u) at e in cc))

  compared_greater : compared a b ≡ Greater → (less a b ≡ false) × (same a b ≡ false)
  compared_greater e = by_cases (less a b) (λ t. let f = rw t at e in cc) (λ t. by_cases (same a b) (λ u. let f = rw (t, u) at e in cc) (λ u. (t, u)))

  below_index : less a b ≡ true → ordering_index (compared a b) ≡ 0
  below_index t = rw t

  top_index : ordering_index (compared a b) ≤ 2
  top_index = by_cases (less a b) (λ t. rw t (omega arith)) (λ t. by_cases (same a b) (λ u. rw (t, u) (omega arith)) (λ u. rw (t, u) (omega arith)))

module _ {A : Type 0} (key : A → List ℕ) where
  all_here : (P : A → Type 0) (l : List A) (i : ℕ) (d : A) → All P l → i < length l → P (get_or l i d)
  all_here P [] i d h k = absurd (omega arith)
  all_here P (x ∷ l) zero d h k = h.0
  all_here P (x ∷ l) (suc i) d h k = all_here P l i d h.1 (omega arith)

  -- keys rise with the places
  rises : (l : List A) → Ascending key l → (i j : ℕ) (d : A) → i < j → j < length l → less (key (get_or l i d)) (key (get_or l j d)) ≡ true
  rises [] s i j d h k = absurd (omega arith)
  rises (x ∷ l) s i zero d h k = absurd (omega arith)
  rises (x ∷ l) s zero (suc j) d h k = all_here (λ z. less (key x) (key z) ≡ true) l j d s.0 (omega arith)
  rises (x ∷ l) s (suc i) (suc j) d h k = rises l s.1 i j d (omega arith) (omega arith)

  index_rises : (k a b : List ℕ) → less a b ≡ true → ordering_index (compared a k) ≤ ordering_index (compared b k)
  index_rises k a b h =
      by_cases (less a k)
      (λ t. let z = below_index a k t in omega arith)
      (λ t. let u : less b k ≡ false = by_cases (less b k) (λ v. clash (less-trans a b k h v) t) (λ v. v) in
      let w : same b k ≡ false = by_cases (same b k) (λ v. clash (rw (same_true b k v) at h) t) (λ v. v) in
      let e : ordering_index (compared b k) ≡ 2 = rw (u, w) in
      let z = top_index a k in omega arith)

  comparisons_rise : (k : List ℕ) (l : List A) → Ascending key l → IsNonDecreasingBy (λ x. ordering_index (compared (key x) k)) l
  comparisons_rise k [] s i j d h q = absurd (omega arith)
  comparisons_rise k (x ∷ l) s i j d h q =
      by_cases (ltb i j)
      (λ t. index_rises k _ _ (rises (x ∷ l) s i j d (ltb-true i j t) q))
      (λ t. let e : i ≡ j = omega (arith, ltb-false i j t) in rw e (omega arith))

  -- before the place of a key the keys are below it, and from there on they are not
  rank_at : (k : List ℕ) (l : List A) (i : ℕ) (d : A) → i ≤ length l → ((j : ℕ) → j < i → less (key (get_or l j d)) k ≡ true) → ((j : ℕ) → i ≤ j → j < length l → less (key (get_or l j d)) k ≡ false) → i ≡ rank key k l
  rank_at k [] i d h b a = omega arith
  rank_at k (x ∷ l) zero d h b a = rw (a 0 (omega arith) (omega arith))
  rank_at k (x ∷ l) (suc i) d h b a = rw (b 0 (omega arith)) (let e = rank_at k l i d (omega arith) (λ j t. b (suc j) (omega arith)) (λ j t u. a (suc j) (omega arith) (omega arith)) in omega arith)

  found_place : (k : List ℕ) (l : List A) (at : ℕ) → Ascending key l → at < length l → ((d : A) → key (get_or l at d) ≡ k) → at ≡ rank key k l
  found_place k [] at up w e = absurd (omega arith)
  found_place k (x ∷ m) at up w e =
      rank_at k (x ∷ m) at x (omega arith)
      (λ j h. rw (← e x) (rises (x ∷ m) up j at x h w))
      (λ j h q. by_cases (ltb at j)
      (λ t. less-asym k _ (rw (← e x) (rises (x ∷ m) up at j x (ltb-true at j t) q)))
      (λ t. let i : j ≡ at = omega (arith, ltb-false at j t) in rw (i, e x) (less-irrefl k)))

  found_at : (k : List ℕ) (l : List A) (at : ℕ) → Ascending key l → at < length l → ((d : A) → key (get_or l at d) ≡ k) → StandsAt key k l at
  found_at k [] at up w e = absurd (omega arith)
  found_at k (x ∷ m) at up w e =
      let place = found_place k (x ∷ m) at up w e in
      record { place = place; within = w; there = has_here key k (x ∷ m) x up (rw (← place) w) ∙ rw (← place, e x) (same_refl k) }

  missing_place : (k : List ℕ) (l : List A) (at : ℕ) → at ≤ length l → ((j : ℕ) (d : A) → j < at → compared (key (get_or l j d)) k ≡ Less)
      → ((j : ℕ) (d : A) → at ≤ j → j < length l → compared (key (get_or l j d)) k ≡ Greater) → at ≡ rank key k l
  missing_place k [] at w b a = omega arith
  missing_place k (x ∷ m) at w b a = rank_at k (x ∷ m) at x w (λ j h. compared_less _ k (b j x h)) (λ j h q. (compared_greater _ k (a j x h q)).0)

  missing_at : (k : List ℕ) (l : List A) (at : ℕ) → Ascending key l → at ≤ length l
      → ((j : ℕ) (d : A) → j < at → compared (key (get_or l j d)) k ≡ Less) → ((j : ℕ) (d : A) → at ≤ j → j < length l → compared (key (get_or l j d)) k ≡ Greater) → MissingAt key k l at
  missing_at k [] at up w b a = record { place = omega arith; absent = refl }
  missing_at k (x ∷ m) at up w b a =
      let place = missing_place k (x ∷ m) at w b a in
      record {
        place = place;
        absent = by_cases (ltb at (length (x ∷ m)))
            (λ t. let h = ltb-true at (length (x ∷ m)) t in
            has_here key k (x ∷ m) x up (rw (← place) h) ∙ rw (← place) (compared_greater _ k (a at x (omega arith) h)).1)
            (λ t. has_end key k (x ∷ m) up (rw (← place) (ltb-false at (length (x ∷ m)) t)));
      }

  module _ (k : List ℕ) (l : List A) (up : ascending key l ≡ true) where
    -- what a binary search ends at, by the order of keys
    pub searched : (order : A → Ordering) → ((x : A) → order x ≡ compared (key x) k) → (r : Result ℕ ℕ) → IsSearchInRange r (length l) → IsBinarySearchResult order l r
        → IfOk r (StandsAt key k l) × IfErr r (MissingAt key k l)
    searched order same_order (Ok at) w e = (found_at k l at (ascend-to key l up) w (λ d. compared_equal _ k (sym (same_order _) ∙ e d)), tt)
    searched order same_order (Err at) w e =
        let rising = ascend-to key l up in
        let parted = e (λ i j d h q. rw (same_order (get_or l i d), same_order (get_or l j d)) (comparisons_rise k l rising i j d h q)) in
        (tt, missing_at k l at rising w (λ j d h. sym (same_order _) ∙ parted.0 j d (omega arith) h) (λ j d h q. sym (same_order _) ∙ parted.1 j d h q))

    pub removed : (at : ℕ) → StandsAt key k l at → remove l at ≡ without key k l
    unfolding remove_at
    removed at s = rw s.place (sym (without_at key k l (ascend-to key l up) s.there))

    pub none_removed : (at : ℕ) → MissingAt key k l at → l ≡ without key k l
    none_removed at s = sym (without-absent key k l s.absent)

    pub rises-without : ascending key (without key k l) ≡ true
    rises-without = ascend-from key (without key k l) (ascending-keep key _ l (ascend-to key l up))

  module _ (x : A) (l : List A) (up : ascending key l ≡ true) where
    pub replaced : (at : ℕ) → StandsAt key (key x) l at → set l at x ≡ put key x l
    replaced at s =
        let h : rank key (key x) l < length l = omega (arith, s.place, s.within) in
        let t = sym (has_here key (key x) l x (ascend-to key l up) h) ∙ s.there in
        rw s.place (sym (put-here key x l x h t))

    pub inserted : (at : ℕ) → MissingAt key (key x) l at → insert l at x ≡ put key x l
    unfolding insert_at
    inserted at s = rw s.place (sym (put_other key x l x (λ h. sym (has_here key (key x) l x (ascend-to key l up) h) ∙ s.absent)))

    pub rises-put : ascending key (put key x l) ≡ true
    rises-put = ascend-from key (put key x l) (ascending-put key x l (ascend-to key l up))

  pub missing-within : (k : List ℕ) (l : List A) (at : ℕ) → MissingAt key k l at → at ≤ length l
  missing-within k l at s = rw s.place (rank-le key k l)
