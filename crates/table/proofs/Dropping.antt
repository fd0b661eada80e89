-- A drop's commit is accepted. Assumes nothing.
use mathlib.Core.Path.{◌≡◌, refl, sym, ap, ◌∙◌}
use mathlib.Core.Bool.{Bool, true, false, not}
use mathlib.Core.List.{List, [], ◌∷◌, ◌++◌, map, append-nil}
use Prim.Native.Nat.{ℕ, ◌+◌, ◌≤◌}
use native.Mathlib.Omega.{arith}
use lib.Dec.{eqb}
use lib.ListN.{length, get_or, take, length-append, length-map}
use borrow.Author.Tests.{not-true}
use Rattle.std.specs.Prelude.{Ok}
use Rattle.lists.specs.Order.{same}
use Rattle.lists.specs.Keyed.{keep, is_at, without}
use Rattle.lists.proofs.Order.{same_true}
use Rattle.lists.proofs.Keyed.{all-all_of, all_of-all, all_keep, kept-all, keep-map, all_both}
use Rattle.lists.proofs.Kept.{has-keep}
use Rattle.ids.specs.Ids.{is_id32}
use Rattle.ids.specs.Limits.{most_operations, most_held}
use Rattle.columns.proofs.Rows.{few-rows}
use Rattle.manifest.specs.Operations.{Operation, drop_table}
use Rattle.snapshot.specs.Entries.{Entry, by_ids, shown_by}
use Rattle.snapshot.specs.Tables.{by_table}
use Rattle.version_state.specs.declared.VersionManagerInner.{VersionManagerInner}
use Rattle.version_state.specs.State.{State, state_of, with_tables, with_pairs, with_vectors, pairs_at, vectors_at}
use Rattle.version_state.specs.Sound.{has_table, has_rowset, left_behind}
use Rattle.version_state.proofs.Facts.{Sound}
use Rattle.operations.specs.Effect.{applied_all}
use Rattle.operations.specs.Judge.{is_live}
use Rattle.operations.specs.Steps.{step_of, steps_of}
use Rattle.table.specs.Made.{committed, of_table, delete_rowset_of, delete_vector_of, drop_operations}
use Rattle.version_state.specs.Widths.{Narrow}
use Rattle.table.proofs.Deletes.{deleted_all}
use Rattle.table.proofs.Shown.{few-part, part-forms, part-below, part-rises, part-shown, part-deleted}
use Rattle.table.proofs.Accepted.{two, three, vectors-deleted, pairs-deleted, steps-applied, commit-accepts, pair-well, vector-well, pairs-held, vectors-held, whole-now, Accepts}

-- a rowset's table and a vector's pair have the first id of both
first_two : (k : List ℕ) → get_or (take 2 k) 0 0 ≡ get_or k 0 0
first_two [] = refl
first_two (x ∷ k) = refl

first_one : (t : ℕ) (k : List ℕ) → of_table t k ≡ false → same (take 1 k) (t ∷ []) ≡ false
first_one t [] h = refl
first_one t (x ∷ k) h = rw h

module _ (m : VersionManagerInner) (g : Sound m) (w : Narrow (state_of m)) (t : ℕ) (id : is_id32 t ≡ true) (live : is_live t (state_of m) ≡ true) where
  abbrev s : State
  s = state_of m

  abbrev e : ℕ
  e = m.epoch + 1

  abbrev vector_keys : List (List ℕ)
  vector_keys = keep (of_table t) (vectors_at m.epoch s)

  abbrev pair_keys : List (List ℕ)
  pair_keys = keep (of_table t) (pairs_at m.epoch s)

  abbrev operations : List Operation
  operations = drop_operations t (pairs_at m.epoch s) (vectors_at m.epoch s)

  dropped : State
  dropped = with_tables s (without by_table (t ∷ []) s.tables)

  unvectored : State
  unvectored = with_vectors dropped (deleted_all e vector_keys s.vectors)

  left : State
  left = with_pairs unvectored (deleted_all e pair_keys s.pairs)

  drop-step : (rest : List Operation) → steps_of 0 e (drop_table t ∷ rest) s ≡ steps_of 1 e rest dropped
  unfolding step_of dropped
  drop-step rest = rw (id, live)

  drop-steps : steps_of 0 e operations s ≡ Ok left
  unfolding dropped unvectored left
  drop-steps =
      drop-step (map delete_vector_of vector_keys ++ map delete_rowset_of pair_keys)
      ∙ vectors-deleted e (omega arith) 1 vector_keys (map delete_rowset_of pair_keys) dropped
      (part-forms three m.epoch _ s.vectors (vectors-held m g) (of_table t))
      (all_both vector_keys (vector-well s w) (part-forms three m.epoch _ s.vectors (vectors-held m g) (of_table t)) (part-below three m.epoch _ s.vectors (vectors-held m g) (of_table t)))
      (part-rises three m.epoch _ s.vectors (vectors-held m g) (of_table t))
      (part-shown three m.epoch _ s.vectors (vectors-held m g) (of_table t))
      ∙ ap (λ (os : List Operation). steps_of (1 + length vector_keys) e os unvectored) (sym (append-nil (map delete_rowset_of pair_keys)))
      ∙ pairs-deleted e (omega arith) (1 + length vector_keys) pair_keys [] unvectored
      (part-forms two m.epoch _ s.pairs (pairs-held m g) (of_table t))
      (all_both pair_keys (pair-well s w) (part-forms two m.epoch _ s.pairs (pairs-held m g) (of_table t)) (part-below two m.epoch _ s.pairs (pairs-held m g) (of_table t)))
      (part-rises two m.epoch _ s.pairs (pairs-held m g) (of_table t))
      (part-shown two m.epoch _ s.pairs (pairs-held m g) (of_table t))

  -- what stays: pairs and vectors of other tables
  abbrev stays : Entry → Bool
  stays x = not (of_table t (by_ids x))

  abbrev pairs_now : List Entry
  pairs_now = keep (shown_by m.epoch) s.pairs

  abbrev vectors_now : List Entry
  vectors_now = keep (shown_by m.epoch) s.vectors

  rowset-stays : (x : Entry) → stays x ≡ true → has_rowset pairs_now x ≡ true → has_rowset (keep stays pairs_now) x ≡ true
  rowset-stays x q h =
      has-keep by_ids (take 2 (by_ids x)) stays pairs_now (λ y u. ap (λ (k : List ℕ). not (of_table t k)) (same_true (by_ids y) (take 2 (by_ids x)) u) ∙ ap (λ (n : ℕ). not (eqb n t)) (first_two (by_ids x)) ∙ q) ∙ h

  table_stays : (x : Entry) → stays x ≡ true → has_table s.tables x ≡ true → has_table (without by_table (t ∷ []) s.tables) x ≡ true
  table_stays x q h =
      has-keep by_table (take 1 (by_ids x)) (λ y. not (is_at by_table (t ∷ []) y)) s.tables (λ y u. ap (λ (k : List ℕ). not (same k (t ∷ []))) (same_true (by_table y) (take 1 (by_ids x)) u) ∙ rw (first_one t (by_ids x) (not-true _ q))) ∙ h

  drop-whole : left_behind e left ≡ false
  unfolding dropped unvectored left
  drop-whole =
      rw (
        part-deleted three m.epoch _ s.vectors (vectors-held m g) (of_table t),
        part-deleted two m.epoch _ s.pairs (pairs-held m g) (of_table t),
        all-all_of (has_rowset (keep stays pairs_now)) (keep stays vectors_now)
            (all_both (keep stays vectors_now) rowset-stays (kept-all stays vectors_now) (all_keep (λ x. has_rowset pairs_now x ≡ true) stays vectors_now (all_of-all (has_rowset pairs_now) vectors_now (whole-now m g).0))),
        all-all_of (has_table (without by_table (t ∷ []) s.tables)) (keep stays pairs_now)
            (all_both (keep stays pairs_now) table_stays (kept-all stays pairs_now) (all_keep (λ x. has_table s.tables x ≡ true) stays pairs_now (all_of-all (has_table s.tables) pairs_now (whole-now m g).1))),
      )

  drop-few : length operations ≤ most_operations
  drop-few =
      let a = length-append (map delete_vector_of vector_keys) (map delete_rowset_of pair_keys) in
      let b = length-map vector_keys delete_vector_of in
      let c = length-map pair_keys delete_rowset_of in
      let d = few-part (of_table t) m.epoch s.vectors most_held (few-rows _ m.vectors.count most_held g.fits.vectors) in
      let f = few-part (of_table t) m.epoch s.pairs most_held (few-rows _ m.rowsets.count most_held g.fits.rowsets) in
      omega arith

  pub drop-accepts : Accepts s operations
  drop-accepts = commit-accepts s operations drop-few left drop-steps drop-whole

  -- what the new epoch shows
  dropped-is : left ≡ applied_all e operations s
  dropped-is = steps-applied 0 e operations s left drop-steps

  pub drop-pairs : pairs_at e (committed operations s) ≡ keep (λ k. not (of_table t k)) (pairs_at m.epoch s)
  unfolding dropped unvectored left
  drop-pairs =
      ap (λ (u : State). pairs_at e u) (sym dropped-is)
      ∙ ap (map by_ids) (part-deleted two m.epoch _ s.pairs (pairs-held m g) (of_table t))
      ∙ sym (keep-map by_ids (λ k. not (of_table t k)) pairs_now)

  pub drop-vectors : vectors_at e (committed operations s) ≡ keep (λ k. not (of_table t k)) (vectors_at m.epoch s)
  unfolding dropped unvectored left
  drop-vectors =
      ap (λ (u : State). vectors_at e u) (sym dropped-is)
      ∙ ap (map by_ids) (part-deleted three m.epoch _ s.vectors (vectors-held m g) (of_table t))
      ∙ sym (keep-map by_ids (λ k. not (of_table t k)) vectors_now)
