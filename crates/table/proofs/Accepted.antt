-- When the one commit accepts operations that a call has made. Assumes nothing.
use mathlib.Core.Path.{◌≡◌, refl, sym, ap, subst, ◌∙◌}
use mathlib.Core.Bool.{true, false, ◌&&◌}
use mathlib.Core.List.{List, [], ◌∷◌, ◌++◌, map}
use Prim.Native.Nat.{ℕ, ◌+◌, ◌≤◌, ◌<◌}
use native.Mathlib.Omega.{arith}
use lib.Dec.{ltb}
use lib.ListN.{length, get_or}
use borrow.Author.Tests.{ltb-true, lt-ltb, le-ltb, lt-leb, not-false}
use Rattle.std.specs.Prelude.{Result, Ok, Err}
use Rattle.lists.specs.Keyed.{keep, all_of}
use Rattle.lists.proofs.Tests.{both, join}
use Rattle.lists.proofs.Keyed.{All, all_map, all_of-all, Ascending, ascend-to}
use Rattle.ids.specs.Ids.{largest32, largest64}
use Rattle.ids.specs.Limits.{most_operations, last_epoch, longest_manifest}
use Rattle.ids.specs.declared.refusal.Refusal.{Refusal}
use Rattle.ids.specs.Results.{and_then}
use Rattle.columns.proofs.Rows.{rows_all}
use Rattle.manifest.specs.Operations.{Operation, well_formed}
use Rattle.snapshot.specs.Entries.{by_ids, shown_by, below_next, entry_at}
use Rattle.version_state.specs.declared.VersionManagerInner.{VersionManagerInner}
use Rattle.version_state.specs.State.{State, state_of, with_epoch, with_pairs, with_vectors}
use Rattle.version_state.specs.Sound.{has_table, has_rowset, left_behind}
use Rattle.version_state.proofs.Within.{within_of}
use Rattle.version_state.proofs.Facts.{Sound}
use Rattle.operations.specs.Effect.{applied, applied_all}
use Rattle.operations.specs.Judge.{is_shown}
use Rattle.operations.specs.Steps.{step_of, steps_of}
use Rattle.commit.specs.Commit.{append_of, finish_of, commit_of}
use Rattle.commit.proofs.Stepwise.{halt, step_given, steps-manifest}
use Rattle.table.specs.Made.{committed, delete_rowset_of, delete_vector_of}
use Rattle.version_state.specs.Widths.{Narrow}
use Rattle.table.proofs.Deletes.{deleted_all, deletes}
use Rattle.table.proofs.Shown.{Held}

-- ids of two and of three numbers
abbrev pub two : List ℕ → List ℕ
two k = get_or k 0 0 ∷ get_or k 1 0 ∷ []

abbrev pub three : List ℕ → List ℕ
three k = get_or k 0 0 ∷ get_or k 1 0 ∷ get_or k 2 0 ∷ []

module _ (e : ℕ) (late : 1 ≤ e) where
  vector-accepted : (i : ℕ) (k : List ℕ) (s : State) → well_formed (delete_vector_of k) ≡ true → is_shown e (three k) s.vectors ≡ true → step_of i e (delete_vector_of k) s ≡ Ok (applied e (delete_vector_of k) s)
  unfolding step_of
  vector-accepted i k s w h = rw (w, h)

  pair-accepted : (i : ℕ) (k : List ℕ) (s : State) → well_formed (delete_rowset_of k) ≡ true → is_shown e (two k) s.pairs ≡ true → step_of i e (delete_rowset_of k) s ≡ Ok (applied e (delete_rowset_of k) s)
  unfolding step_of
  pair-accepted i k s w h = rw (w, h)

  pub vectors-deleted : (i : ℕ) (ks : List (List ℕ)) (rest : List Operation) (s : State)
      → All (λ k. three k ≡ k) ks → All (λ k. well_formed (delete_vector_of k) ≡ true) ks → Ascending (λ k. k) ks → All (λ k. is_shown e k s.vectors ≡ true) ks
      → steps_of i e (map delete_vector_of ks ++ rest) s ≡ steps_of (i + length ks) e rest (with_vectors s (deleted_all e ks s.vectors))
  vectors-deleted =
      deletes e late three delete_vector_of (λ s. s.vectors) with_vectors vector-accepted (λ k s. refl) (λ s l. refl) (λ s l m. refl) (λ s. refl)

  pub pairs-deleted : (i : ℕ) (ks : List (List ℕ)) (rest : List Operation) (s : State)
      → All (λ k. two k ≡ k) ks → All (λ k. well_formed (delete_rowset_of k) ≡ true) ks → Ascending (λ k. k) ks → All (λ k. is_shown e k s.pairs ≡ true) ks
      → steps_of i e (map delete_rowset_of ks ++ rest) s ≡ steps_of (i + length ks) e rest (with_pairs s (deleted_all e ks s.pairs))
  pairs-deleted =
      deletes e late two delete_rowset_of (λ s. s.pairs) with_pairs pair-accepted (λ k s. refl) (λ s l. refl) (λ s l m. refl) (λ s. refl)

-- what accepted operations leave is what they do
pub steps-applied : (i e : ℕ) (os : List Operation) (s t : State) → steps_of i e os s ≡ Ok t → t ≡ applied_all e os s
steps-applied i e [] s t h = let q : s ≡ t = cc in sym q
steps-applied i e (o ∷ os) s t h = go (step_of i e o s) refl h (λ u. steps-applied (i + 1) e os u t)
  where
    go : (x : Result State Refusal) → step_of i e o s ≡ x → and_then x (λ u. steps_of (i + 1) e os u) ≡ Ok t → ((u : State) → steps_of (i + 1) e os u ≡ Ok t → t ≡ applied_all e os u) → t ≡ applied_all e (o ∷ os) s
    go (Ok u) a h ih = ih u h ∙ ap (applied_all e os) (sym (step_given i e o s u a).1)
    go (Err k) a h ih = absurd (halt h)

-- these operations are committed, where the epoch, the manifest and the bytes lent have room
abbrev pub Accepts : State → List Operation → Type 0
Accepts s os =
    (room : ℕ) → s.epoch < last_epoch → s.manifest + length (append_of os) ≤ longest_manifest → length (append_of os) ≤ room
    → commit_of s (length os) os room ≡ Ok (committed os s)

-- all is judged before: the commit accepts
module _ (s : State) (os : List Operation) (few : length os ≤ most_operations) (t : State)
    (steps : steps_of 0 (s.epoch + 1) os s ≡ Ok t) (whole : left_behind (s.epoch + 1) t ≡ false) where
  stays : t.manifest ≡ s.manifest
  stays = steps-manifest (s.epoch + 1) os s t steps

  finished : (room : ℕ) → s.manifest + length (append_of os) ≤ longest_manifest → length (append_of os) ≤ room → finish_of (s.epoch + 1) os room t ≡ Ok (committed os s)
  finished room fits lent =
      rw (whole, stays, le-ltb longest_manifest (s.manifest + length (append_of os)) fits, le-ltb room (length (append_of os)) lent)
      (ap (λ (u : State). Ok (with_epoch u (s.epoch + 1) (s.manifest + length (append_of os)))) (steps-applied 0 (s.epoch + 1) os s t steps))

  pub commit-accepts : Accepts s os
  commit-accepts room early fits lent = rw (le-ltb most_operations (length os) few, lt-leb last_epoch s.epoch early, steps) (finished room fits lent)

module _ (s : State) (w : Narrow s) where
  below : (x n m : ℕ) → ltb x n ≡ true → n ≤ m → ltb x m ≡ true
  below x n m h l = lt-ltb x m (omega (arith, ltb-true x n h))

  pub pair-well : (k : List ℕ) → two k ≡ k → below_next k (s.next_table ∷ s.next_rowset ∷ []) ≡ true → well_formed (delete_rowset_of k) ≡ true
  pair-well k f h =
      let a = both (ltb (get_or k 0 0) s.next_table) (ltb (get_or k 1 0) s.next_rowset && true) (subst (λ (j : List ℕ). below_next j (s.next_table ∷ s.next_rowset ∷ []) ≡ true) (sym f) h) in
      let b = both (ltb (get_or k 1 0) s.next_rowset) true a.1 in
      join (below (get_or k 0 0) s.next_table largest32 a.0 w.table) (below (get_or k 1 0) s.next_rowset largest32 b.0 w.rowset)

  pub vector-well : (k : List ℕ) → three k ≡ k → below_next k (s.next_table ∷ s.next_rowset ∷ s.next_vector ∷ []) ≡ true → well_formed (delete_vector_of k) ≡ true
  vector-well k f h =
      let a = both (ltb (get_or k 0 0) s.next_table) (ltb (get_or k 1 0) s.next_rowset && (ltb (get_or k 2 0) s.next_vector && true)) (subst (λ (j : List ℕ). below_next j (s.next_table ∷ s.next_rowset ∷ s.next_vector ∷ []) ≡ true) (sym f) h) in
      let b = both (ltb (get_or k 1 0) s.next_rowset) (ltb (get_or k 2 0) s.next_vector && true) a.1 in
      let c = both (ltb (get_or k 2 0) s.next_vector) true b.1 in
      join (below (get_or k 0 0) s.next_table largest32 a.0 w.table)
      (join (below (get_or k 1 0) s.next_rowset largest32 b.0 w.rowset) (below (get_or k 2 0) s.next_vector largest64 c.0 w.vector))

-- the lists of a manager that passes 29
module _ (m : VersionManagerInner) (g : Sound m) where
  pub pairs-held : Held two m.epoch ((state_of m).next_table ∷ (state_of m).next_rowset ∷ []) (state_of m).pairs
  pairs-held =
      record {
        forms = rows_all (entry_at (m.rowsets.tables ∷ m.rowsets.rowsets ∷ []) m.rowsets.added m.rowsets.deleted) (λ x. two (by_ids x) ≡ by_ids x) (λ i. refl) m.rowsets.count;
        within = all_map (state_of m).pairs (within_of m.epoch _) (all_of-all _ (state_of m).pairs g.pairs);
        order = ascend-to by_ids (state_of m).pairs g.ordered.pairs;
      }

  pub vectors-held : Held three m.epoch ((state_of m).next_table ∷ (state_of m).next_rowset ∷ (state_of m).next_vector ∷ []) (state_of m).vectors
  vectors-held =
      record {
        forms = rows_all (entry_at (m.vectors.tables ∷ m.vectors.rowsets ∷ m.vectors.vectors ∷ []) m.vectors.added m.vectors.deleted) (λ x. three (by_ids x) ≡ by_ids x) (λ i. refl) m.vectors.count;
        within = all_map (state_of m).vectors (within_of m.epoch _) (all_of-all _ (state_of m).vectors g.vectors);
        order = ascend-to by_ids (state_of m).vectors g.ordered.vectors;
      }

  -- what is shown has its table, and a vector its rowset
  pub whole-now : (all_of (has_rowset (keep (shown_by m.epoch) (state_of m).pairs)) (keep (shown_by m.epoch) (state_of m).vectors) ≡ true)
      × (all_of (has_table (state_of m).tables) (keep (shown_by m.epoch) (state_of m).pairs) ≡ true)
  whole-now = both (all_of (has_rowset (keep (shown_by m.epoch) (state_of m).pairs)) (keep (shown_by m.epoch) (state_of m).vectors)) _ (not-false _ g.whole)
