-- A compaction's commit is accepted, and what it leaves. Assumes nothing.
use mathlib.Core.Path.{◌≡◌, refl, sym, ap, subst, ◌∙◌}
use mathlib.Core.Bool.{Bool, true, false, not, ◌&&◌, ◌||◌, and-false}
use mathlib.Core.List.{List, [], ◌∷◌, ◌++◌, map, append-nil}
use Prim.Native.Nat.{ℕ, ◌+◌, ◌≤◌, ◌<◌}
use native.Mathlib.Omega.{arith}
use lib.Dec.{eqb}
use lib.ListN.{length, get_or, take, length-append, length-map}
use borrow.Author.Tests.{lt-leb}
use Rattle.std.specs.Prelude.{Ok}
use Rattle.lists.specs.Order.{less, same}
use Rattle.lists.specs.Keyed.{keep, any_of, is_at, has, put}
use Rattle.lists.proofs.Tests.{join, by_cases}
use Rattle.lists.proofs.Order.{lex-eq, same_true}
use Rattle.lists.proofs.Keyed.{All, Ascending, all_map, all-mapped, all-all_of, all_of-all, all_keep, all-put, length-keep, kept-all, has-put, keep-map, all_both}
use Rattle.lists.proofs.Kept.{has-keep, few-among, keep-put}
use Rattle.ids.specs.Ids.{is_id32}
use Rattle.ids.specs.Limits.{most_operations, most_held, last_epoch, longest_manifest}
use Rattle.columns.proofs.Rows.{few-rows}
use Rattle.manifest.specs.Operations.{Operation, add_rowset, delete_rowset, well_formed}
use Rattle.snapshot.specs.Entries.{Entry, by_ids, added_at, shown_by, shown}
use Rattle.snapshot.proofs.Entries.{shows-new}
use Rattle.version_state.specs.declared.VersionManagerInner.{VersionManagerInner}
use Rattle.version_state.specs.State.{State, state_of, with_pairs, with_vectors, vectors_at, pairs_at}
use Rattle.version_state.specs.Sound.{has_table, has_rowset, left_behind}
use Rattle.version_state.proofs.Facts.{Sound}
use Rattle.operations.specs.Effect.{applied_all, applied}
use Rattle.operations.specs.Judge.{is_live, is_shown}
use Rattle.operations.specs.Steps.{step_of, steps_of}
use Rattle.commit.specs.Commit.{append_of}
use Rattle.table.specs.Made.{by_number, of_table, is_over, delete_rowset_of, delete_vector_of, compact_operations}
use Rattle.version_state.specs.Widths.{Narrow}
use Rattle.table.specs.Laws.{pairs_with, Compacts}
use Rattle.table.proofs.Deletes.{among, deleted_all, shown-marked}
use Rattle.table.proofs.Shown.{or-second, few-part, next-same, part-forms, part-below, part-rises, part-shown, part-deleted}
use Rattle.table.proofs.Accepted.{two, three, vectors-deleted, pairs-deleted, commit-accepts, vector-well, pairs-held, vectors-held, whole-now, steps-applied}

pub pairs-rise : (t : ℕ) (rs : List ℕ) → Ascending by_number rs → Ascending (λ k. k) (pairs_with t rs)
pairs-rise t [] a = tt
pairs-rise t (r ∷ rs) a = (all-mapped (λ k. less (t ∷ r ∷ []) k ≡ true) (λ x. t ∷ x ∷ []) rs (all_map rs (λ x h. lex-eq t _ ∙ h) a.0), pairs-rise t rs a.1)

operations-same : (t : ℕ) (rs : List ℕ) → map delete_rowset_of (pairs_with t rs) ≡ map (delete_rowset t) rs
operations-same t [] = refl
operations-same t (r ∷ rs) = ap (λ (l : List Operation). delete_rowset t r ∷ l) (operations-same t rs)

-- a vector's pair is among those exactly if the vector is over one of the rowsets
over-pair : (t : ℕ) (k rs : List ℕ) → three k ≡ k → any_of (same (take 2 k)) (pairs_with t rs) ≡ is_over t rs k
over-pair t k rs f = ap (λ (j : List ℕ). any_of (same (take 2 j)) (pairs_with t rs)) (sym f) ∙ go rs
  where
    either : (a b c : Bool) → (a && (b && true)) || (a && c) ≡ a && (b || c)
    either true true c = refl
    either true false c = refl
    either false b c = refl

    go : (rs : List ℕ) → any_of (same (get_or k 0 0 ∷ get_or k 1 0 ∷ [])) (pairs_with t rs) ≡ is_over t rs k
    go [] = sym (and-false (of_table t k))
    go (r ∷ rs) = ap (λ (b : Bool). (eqb (get_or k 0 0) t && (eqb (get_or k 1 0) r && true)) || b) (go rs) ∙ either (eqb (get_or k 0 0) t) (eqb (get_or k 1 0) r) (any_of (eqb (get_or k 1 0)) rs)

module _ (m : VersionManagerInner) (g : Sound m) (w : Narrow (state_of m)) (t : ℕ) (id : is_id32 t ≡ true) (rs : List ℕ) (ids : All (λ r. is_id32 r ≡ true) rs) (rising : Ascending by_number rs) where
  abbrev s : State
  s = state_of m

  abbrev e : ℕ
  e = m.epoch + 1

  abbrev vector_keys : List (List ℕ)
  vector_keys = keep (is_over t rs) (vectors_at m.epoch s)

  abbrev pairs_now : List Entry
  pairs_now = keep (shown_by m.epoch) s.pairs

  abbrev vectors_now : List Entry
  vectors_now = keep (shown_by m.epoch) s.vectors

  next-pairs : keep (shown_by e) s.pairs ≡ pairs_now
  next-pairs = next-same two m.epoch _ s.pairs (pairs-held m g)

  -- after the new rowset, of which there may be none: u has the vectors, and shows the pairs that s shows and perhaps one more
  module _ (u : State) (vectors : u.vectors ≡ s.vectors) (more : (k : List ℕ) → has by_ids k pairs_now ≡ true → is_shown e k u.pairs ≡ true)
      (taken : All (λ r. has by_ids (t ∷ r ∷ []) pairs_now ≡ true) rs) (tables : All (λ x. has_table u.tables x ≡ true) (keep (shown_by e) u.pairs)) where
    unvectored : State
    unvectored = with_vectors u (deleted_all e vector_keys u.vectors)

    left : State
    left = with_pairs unvectored (deleted_all e (pairs_with t rs) u.pairs)

    delete-steps : (i : ℕ) → steps_of i e (map delete_vector_of vector_keys ++ map (delete_rowset t) rs) u ≡ Ok left
    unfolding unvectored left
    delete-steps i =
        vectors-deleted e (omega arith) i vector_keys (map (delete_rowset t) rs) u
        (part-forms three m.epoch _ s.vectors (vectors-held m g) (is_over t rs))
        (all_both vector_keys (vector-well s w) (part-forms three m.epoch _ s.vectors (vectors-held m g) (is_over t rs)) (part-below three m.epoch _ s.vectors (vectors-held m g) (is_over t rs)))
        (part-rises three m.epoch _ s.vectors (vectors-held m g) (is_over t rs))
        (subst (λ (l : List Entry). All (λ k. is_shown e k l ≡ true) vector_keys) (sym vectors) (part-shown three m.epoch _ s.vectors (vectors-held m g) (is_over t rs)))
        ∙ ap (λ (os : List Operation). steps_of (i + length vector_keys) e os unvectored) (sym (operations-same t rs) ∙ sym (append-nil (map delete_rowset_of (pairs_with t rs))))
        ∙ pairs-deleted e (omega arith) (i + length vector_keys) (pairs_with t rs) [] unvectored
        (all-mapped (λ k. two k ≡ k) (λ r. t ∷ r ∷ []) rs (all_map rs (λ r h. refl) ids))
        (all-mapped (λ k. well_formed (delete_rowset_of k) ≡ true) (λ r. t ∷ r ∷ []) rs (all_map rs (λ r h. join id h) ids))
        (pairs-rise t rs rising)
        (all-mapped (λ k. is_shown e k u.pairs ≡ true) (λ r. t ∷ r ∷ []) rs (all_map rs (λ r h. more (t ∷ r ∷ []) h) taken))

    abbrev stays : Entry → Bool
    stays x = not (among (pairs_with t rs) x)

    abbrev is_free : Entry → Bool
    is_free x = not (is_over t rs (by_ids x))

    rowset-stays : (x : Entry) → three (by_ids x) ≡ by_ids x → is_free x ≡ true → has_rowset pairs_now x ≡ true → has_rowset (keep stays (keep (shown_by e) u.pairs)) x ≡ true
    rowset-stays x f q h =
        has-keep by_ids (take 2 (by_ids x)) stays (keep (shown_by e) u.pairs)
        (λ y v. ap (λ (k : List ℕ). not (any_of (same k) (pairs_with t rs))) (same_true (by_ids y) (take 2 (by_ids x)) v) ∙ ap not (over-pair t (by_ids x) rs f) ∙ q)
        ∙ more (take 2 (by_ids x)) h

    delete-whole : left_behind e left ≡ false
    unfolding unvectored left
    delete-whole =
        rw (
          vectors,
          part-deleted three m.epoch _ s.vectors (vectors-held m g) (is_over t rs),
          shown-marked e (omega arith) (pairs_with t rs) u.pairs,
          all-all_of (has_rowset (keep stays (keep (shown_by e) u.pairs))) (keep is_free vectors_now)
              (all_both {P = λ x. (three (by_ids x) ≡ by_ids x) × (is_free x ≡ true)} (keep is_free vectors_now) (λ x a b. rowset-stays x a.0 a.1 b)
              (all_both (keep is_free vectors_now) (λ x a b. (a, b)) (all_keep (λ x. three (by_ids x) ≡ by_ids x) is_free vectors_now (all_keep (λ x. three (by_ids x) ≡ by_ids x) (shown_by m.epoch) s.vectors (vectors-held m g).forms)) (kept-all is_free vectors_now))
              (all_keep (λ x. has_rowset pairs_now x ≡ true) is_free vectors_now (all_of-all (has_rowset pairs_now) vectors_now (whole-now m g).0))),
          all-all_of (has_table u.tables) (keep stays (keep (shown_by e) u.pairs)) (all_keep (λ x. has_table u.tables x ≡ true) stays (keep (shown_by e) u.pairs) tables),
        )

    -- what the new epoch shows
    left-pairs : pairs_at e left ≡ keep (λ k. not (any_of (same k) (pairs_with t rs))) (pairs_at e u)
    unfolding unvectored left
    left-pairs = ap (map by_ids) (shown-marked e (omega arith) (pairs_with t rs) u.pairs) ∙ sym (keep-map by_ids (λ k. not (any_of (same k) (pairs_with t rs))) (keep (shown_by e) u.pairs))

    left-vectors : vectors_at e left ≡ keep (λ k. not (is_over t rs k)) (vectors_at m.epoch s)
    unfolding unvectored left
    left-vectors =
        ap (λ (l : List Entry). shown e (deleted_all e vector_keys l)) vectors
        ∙ ap (map by_ids) (part-deleted three m.epoch _ s.vectors (vectors-held m g) (is_over t rs))
        ∙ sym (keep-map by_ids (λ k. not (is_over t rs k)) vectors_now)

    left-tables : left.tables ≡ u.tables
    unfolding unvectored left
    left-tables = refl

  module _ (taken : All (λ r. has by_ids (t ∷ r ∷ []) pairs_now ≡ true) rs) where
    few-taken : length rs ≤ most_held
    few-taken =
        let a = few-among by_ids (pairs_with t rs) pairs_now (pairs-rise t rs rising) (all-mapped (λ k. has by_ids k pairs_now ≡ true) (λ r. t ∷ r ∷ []) rs taken) in
        let b = length-map rs (λ r. t ∷ r ∷ []) in
        let c = length-keep (shown_by m.epoch) s.pairs in
        let d : length s.pairs ≤ most_held = few-rows _ m.rowsets.count most_held g.fits.rowsets in
        omega arith

    pub few : (n : ℕ) → n ≤ 1 → n + length (map delete_vector_of vector_keys ++ map (delete_rowset t) rs) ≤ most_operations
    few n h =
        let a = length-append (map delete_vector_of vector_keys) (map (delete_rowset t) rs) in
        let b = length-map vector_keys delete_vector_of in
        let c = length-map rs (delete_rowset t) in
        let d = few-part (is_over t rs) m.epoch s.vectors most_held (few-rows _ m.vectors.count most_held g.fits.vectors) in
        omega (arith, few-taken)

    abbrev operations : List ℕ → List Operation
    operations new = compact_operations t new rs (vectors_at m.epoch s)

    -- with no new rowset
    same_tables : All (λ x. has_table s.tables x ≡ true) (keep (shown_by e) s.pairs)
    same_tables = rw next-pairs (all_of-all (has_table s.tables) pairs_now (whole-now m g).1)

    same_more : (k : List ℕ) → has by_ids k pairs_now ≡ true → is_shown e k s.pairs ≡ true
    same_more k h = ap (has by_ids k) next-pairs ∙ h

    pub none-compacts : (room : ℕ) → m.epoch < last_epoch → m.manifest + length (append_of (operations [])) ≤ longest_manifest → length (append_of (operations [])) ≤ room
        → Compacts s t [] rs room
    none-compacts room early fits lent =
        let steps = delete-steps s refl same_more taken same_tables 0 in
        let is : left s refl same_more taken same_tables ≡ applied_all e (operations []) s = steps-applied 0 e (operations []) s (left s refl same_more taken same_tables) steps in
        record {
          accepts = commit-accepts s (operations []) (omega (arith, few 0 (omega arith))) (left s refl same_more taken same_tables) steps (delete-whole s refl same_more taken same_tables) room early fits lent;
          pairs = ap (pairs_at e) (sym is) ∙ left-pairs s refl same_more taken same_tables ∙ ap (λ (l : List Entry). keep (λ k. not (any_of (same k) (pairs_with t rs))) (map by_ids l)) next-pairs;
          vectors = ap (vectors_at e) (sym is) ∙ left-vectors s refl same_more taken same_tables;
          tables = ap (λ (u : State). u.tables) (sym is) ∙ left-tables s refl same_more taken same_tables;
        }

    -- with the new rowset r
    module _ (r : ℕ) (new : is_id32 r ≡ true) (live : is_live t s ≡ true) (drawn : r < s.next_rowset) (unheld : has by_ids (t ∷ r ∷ []) s.pairs ≡ false) (space : length s.pairs < most_held) where
      abbrev added : State
      added = applied e (add_rowset t r) s

      add_step : (rest : List Operation) → steps_of 0 e (add_rowset t r ∷ rest) s ≡ steps_of 1 e rest added
      unfolding step_of
      add_step rest = rw (id, new, live, lt-leb s.next_rowset r drawn, unheld, lt-leb most_held (length s.pairs) space)

      added-pairs : keep (shown_by e) added.pairs ≡ put by_ids (added_at e (t ∷ r ∷ [])) pairs_now
      added-pairs =
          keep-put by_ids (shown_by e) (added_at e (t ∷ r ∷ [])) s.pairs (shows-new e (t ∷ r ∷ [])) (pairs-held m g).order
          ∙ ap (put by_ids (added_at e (t ∷ r ∷ []))) next-pairs

      added_more : (k : List ℕ) → has by_ids k pairs_now ≡ true → is_shown e k added.pairs ≡ true
      added_more k h = ap (has by_ids k) added-pairs ∙ has-put by_ids k (added_at e (t ∷ r ∷ [])) pairs_now ∙ or-second (is_at by_ids k (added_at e (t ∷ r ∷ []))) h

      added-tables : All (λ x. has_table s.tables x ≡ true) (keep (shown_by e) added.pairs)
      added-tables = rw added-pairs (all-put by_ids (λ x. has_table s.tables x ≡ true) (added_at e (t ∷ r ∷ [])) pairs_now live (all_of-all (has_table s.tables) pairs_now (whole-now m g).1))

      map-put : (x : Entry) (l : List Entry) → map by_ids (put by_ids x l) ≡ put (λ k. k) (by_ids x) (map by_ids l)
      map-put x [] = refl
      map-put x (y ∷ l) =
          by_cases (less (by_ids y) (by_ids x))
          (λ h. rw h (ap (λ (k : List (List ℕ)). by_ids y ∷ k) (map-put x l)))
          (λ h. by_cases (is_at by_ids (by_ids x) y) (λ i. rw (h, i)) (λ i. rw (h, i)))

      pub one-compacts : (room : ℕ) → m.epoch < last_epoch → m.manifest + length (append_of (operations (r ∷ []))) ≤ longest_manifest → length (append_of (operations (r ∷ []))) ≤ room
          → Compacts s t (r ∷ []) rs room
      one-compacts room early fits lent =
          let steps : steps_of 0 e (operations (r ∷ [])) s ≡ Ok (left added refl added_more taken added-tables) =
          add_step (map delete_vector_of vector_keys ++ map (delete_rowset t) rs) ∙ delete-steps added refl added_more taken added-tables 1 in
          let is : left added refl added_more taken added-tables ≡ applied_all e (operations (r ∷ [])) s = steps-applied 0 e (operations (r ∷ [])) s (left added refl added_more taken added-tables) steps in
          record {
            accepts = commit-accepts s (operations (r ∷ [])) (omega (arith, few 1 (omega arith))) (left added refl added_more taken added-tables) steps (delete-whole added refl added_more taken added-tables) room early fits lent;
            pairs =
                ap (pairs_at e) (sym is)
                ∙ left-pairs added refl added_more taken added-tables
                ∙ ap (keep (λ k. not (any_of (same k) (pairs_with t rs)))) (ap (map by_ids) added-pairs ∙ map-put (added_at e (t ∷ r ∷ [])) pairs_now);
            vectors = ap (vectors_at e) (sym is) ∙ left-vectors added refl added_more taken added-tables;
            tables = ap (λ (u : State). u.tables) (sym is) ∙ left-tables added refl added_more taken added-tables;
          }
