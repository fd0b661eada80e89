-- The next ids and sets of a state can be written anew where its lists pass the tests of 29 and its names differ. Assumes nothing.
use mathlib.Core.Path.{◌≡◌, refl, sym, ap₂, ◌∙◌}
use mathlib.Core.Bool.{Bool, true, false, not, ◌&&◌}
use mathlib.Core.List.{List, [], ◌∷◌, ◌++◌, map}
use Prim.Native.Nat.{ℕ, ◌<◌, ◌≤◌}
use native.Mathlib.Omega.{arith}
use lib.Dec.{ltb, eqb}
use lib.ListN.{length, get_or, length-map}
use borrow.Author.Tests.{ltb-true, lt-ltb, le-leb, ne_eqb, not-false}
use Rattle.lists.specs.Order.{same}
use Rattle.lists.specs.Keyed.{keep, all_of, ascending}
use Rattle.lists.proofs.Tests.{clash, both, join}
use Rattle.lists.proofs.Keyed.{All, all_map, all_append, all_keep, all-mapped, all_of-all, all-all_of, any_of-map, length-keep, ascend-to, ascend-from, ascending-keep, all_both}
use Rattle.ids.specs.Ids.{largest32, largest64, is_id32, is_id64}
use Rattle.ids.specs.Limits.{most_held}
use Rattle.text.specs.Name.{is_name}
use Rattle.columns.specs.Rows.{plain}
use Rattle.columns.proofs.Rows.{rows_all, ascending-map}
use Rattle.manifest.specs.Operations.{well_formed}
use Rattle.snapshot.specs.Entries.{Entry, by_ids, shown_by, shown}
use Rattle.snapshot.specs.Tables.{TableEntry, by_table}
use Rattle.version_state.specs.declared.VersionManagerInner.{VersionManagerInner}
use Rattle.version_state.specs.State.{State, state_of}
use Rattle.version_state.specs.Sets.{unlocked, sets_of, next_of}
use Rattle.version_state.specs.Sound.{has_table, has_rowset, left_behind, bad_inner}
use Rattle.version_state.proofs.Within.{within_of}
use Rattle.version_state.specs.Widths.{Widths}
use Rattle.version_state.proofs.Facts.{Ordered, sound-of}
use Rattle.operations.proofs.Keeps.{Short}
use Rattle.rewrite.specs.Rewritten.{create_of, add_of, add_vector_of, rewrite_of}
use Rattle.replay.proofs.Maps.{ascending-mapped}
use Rattle.recovery.specs.Rewritable.{Rewritable, names_differ, ids_below}
use Rattle.recovery.proofs.SoundState.{two, three}
use Rattle.recovery.proofs.Besides.{few-start}
use Rattle.recovery.proofs.Owned.{all_of-map, housed-of, owned-of}

-- the ids of a pair, and of a vector
pub ids-two : (n m : ℕ) (k : List ℕ) → ids_below (n ∷ m ∷ []) k ≡ true → (k ≡ two k) × (get_or k 0 0 < n) × (get_or k 1 0 < m)
ids-two n m [] h = clash h refl
ids-two n m (x ∷ []) h = clash h refl
ids-two n m (x ∷ y ∷ []) h =
    let a = both (ltb x n) (ltb y m && true) h in
    let b = both (ltb y m) true a.1 in
    (refl, ltb-true x n a.0, ltb-true y m b.0)
ids-two n m (x ∷ y ∷ z ∷ k) h = clash (both _ _ h).0 (ne_eqb (length (x ∷ y ∷ z ∷ k)) 2 (λ e. omega arith))

pub ids-three : (n m o : ℕ) (k : List ℕ) → ids_below (n ∷ m ∷ o ∷ []) k ≡ true → (k ≡ three k) × (get_or k 0 0 < n) × (get_or k 1 0 < m) × (get_or k 2 0 < o)
ids-three n m o [] h = clash h refl
ids-three n m o (x ∷ []) h = clash h refl
ids-three n m o (x ∷ y ∷ []) h = clash h refl
ids-three n m o (x ∷ y ∷ z ∷ []) h =
    let a = both (ltb x n) (ltb y m && (ltb z o && true)) h in
    let b = both (ltb y m) (ltb z o && true) a.1 in
    let c = both (ltb z o) true b.1 in
    (refl, ltb-true x n a.0, ltb-true y m b.0, ltb-true z o c.0)
ids-three n m o (x ∷ y ∷ z ∷ w ∷ k) h = clash (both _ _ h).0 (ne_eqb (length (x ∷ y ∷ z ∷ w ∷ k)) 3 (λ e. omega arith))

-- what 29 asks of the lists of a state, within their widths and of different names
pub record Passes (s : State) : Type 0 where
  pub ordered : Ordered s
  pub few : Short s
  pub widths : Widths s
  pub names : all_of (λ t. is_name t.name) s.tables ≡ true
  pub differ : names_differ s.tables ≡ true
  pub below : all_of (λ t. ltb t.table s.next_table) s.tables ≡ true
  pub pairs : All (λ x. ids_below (s.next_table ∷ s.next_rowset ∷ []) (by_ids x) ≡ true) s.pairs
  pub vectors : All (λ x. ids_below (s.next_table ∷ s.next_rowset ∷ s.next_vector ∷ []) (by_ids x) ≡ true) s.vectors
  pub whole : left_behind s.epoch s ≡ false

-- what is shown rises, is not more than what is held, and has what all that is held has
shown-rises : (e : ℕ) (l : List Entry) → ascending by_ids l ≡ true → ascending plain (shown e l) ≡ true
shown-rises e l h =
    sym (ascending-map by_ids (keep (shown_by e) l)) ∙ ascend-from by_ids (keep (shown_by e) l) (ascending-keep by_ids (shown_by e) l (ascend-to by_ids l h))

shown-few : (e : ℕ) (l : List Entry) → length l ≤ most_held → length (shown e l) ≤ most_held
shown-few e l h = omega (arith, length-map (keep (shown_by e) l) by_ids, length-keep (shown_by e) l)

shown-all : (P : List ℕ → Type 0) (e : ℕ) (l : List Entry) → All (λ x. P (by_ids x)) l → All P (shown e l)
shown-all P e l a = all-mapped P by_ids (keep (shown_by e) l) (all_keep (λ x. P (by_ids x)) (shown_by e) l a)

pub differ-unlocked : (l : List TableEntry) → names_differ (map unlocked l) ≡ names_differ l
differ-unlocked [] = refl
differ-unlocked (t ∷ l) = ap₂ (λ (b c : Bool). not b && c) (any_of-map unlocked (λ y. same y.name t.name) l) (differ-unlocked l)

low-32 : (x n : ℕ) → x < n → n ≤ largest32 → is_id32 x ≡ true
low-32 x n h k = lt-ltb x largest32 (omega arith)

low-64 : (x n : ℕ) → x < n → n ≤ largest64 → is_id64 x ≡ true
low-64 x n h k = lt-ltb x largest64 (omega arith)

module _ (s : State) (p : Passes s) where
  abbrev now : ℕ
  now = s.epoch

  pairs-low : All (λ k. ids_below (s.next_table ∷ s.next_rowset ∷ []) k ≡ true) (shown now s.pairs)
  pairs-low = shown-all _ now s.pairs p.pairs

  vectors-low : All (λ k. ids_below (s.next_table ∷ s.next_rowset ∷ s.next_vector ∷ []) k ≡ true) (shown now s.vectors)
  vectors-low = shown-all _ now s.vectors p.vectors

  well-tables : All (λ o. well_formed o ≡ true) (map create_of (map unlocked s.tables))
  well-tables =
      let n = p.widths.next.table in
      let names = all_of-all _ s.tables p.names in
      let shapes = all_of-all _ s.tables p.widths.shapes in
      let below = all_of-all _ s.tables p.below in
      all-mapped (λ o. well_formed o ≡ true) create_of (map unlocked s.tables)
      (all-mapped (λ t. well_formed (create_of t) ≡ true) unlocked s.tables
      (all_both s.tables (λ t b w. join (low-32 _ _ (ltb-true t.table s.next_table b) n) w) below
      (all_both s.tables (λ t a b. join a b) shapes names)))

  well-pairs : All (λ o. well_formed o ≡ true) (map add_of (shown now s.pairs))
  well-pairs =
      let n = p.widths.next.table in
      let m = p.widths.next.rowset in
      all-mapped (λ o. well_formed o ≡ true) add_of (shown now s.pairs)
      (all_map (shown now s.pairs) (λ k h. let g = ids-two s.next_table s.next_rowset k h in join (low-32 _ _ g.1 n) (low-32 _ _ g.2 m)) pairs-low)

  well-vectors : All (λ o. well_formed o ≡ true) (map add_vector_of (shown now s.vectors))
  well-vectors =
      let n = p.widths.next.table in
      let m = p.widths.next.rowset in
      let l = p.widths.next.vector in
      all-mapped (λ o. well_formed o ≡ true) add_vector_of (shown now s.vectors)
      (all_map (shown now s.vectors) (λ k h.
      let g = ids-three s.next_table s.next_rowset s.next_vector k h in
      join (low-32 _ _ g.1 n) (join (low-32 _ _ g.2 m) (low-64 _ _ g.3 l))) vectors-low)

  well-rewrite : all_of well_formed (rewrite_of (next_of s) (sets_of s)) ≡ true
  well-rewrite =
      let w = p.widths.next in
      let n = join (le-leb s.next_table largest32 w.table) (join (le-leb s.next_rowset largest32 w.rowset) (le-leb s.next_vector largest64 w.vector)) in
      let ts = map create_of (map unlocked s.tables) in
      let ps = map add_of (shown now s.pairs) in
      all-all_of well_formed (rewrite_of (next_of s) (sets_of s))
      (n, all_append _ (ts ++ ps) (map add_vector_of (shown now s.vectors)) (all_append _ ts ps well-tables well-pairs) well-vectors)

  pub passes-rewritable : Rewritable (next_of s) (sets_of s)
  passes-rewritable =
      let w = both (all_of (has_rowset (keep (shown_by now) s.pairs)) (keep (shown_by now) s.vectors)) (all_of (has_table s.tables) (keep (shown_by now) s.pairs)) (not-false _ p.whole) in
      record {
        tables = ascend-from by_table (map unlocked s.tables) (ascending-mapped unlocked by_table by_table (λ x y. refl) s.tables (ascend-to by_table s.tables p.ordered.tables));
        pairs = shown-rises now s.pairs p.ordered.pairs;
        vectors = shown-rises now s.vectors p.ordered.vectors;
        table_count = omega (arith, length-map s.tables unlocked, p.few.tables);
        pair_count = shown-few now s.pairs p.few.pairs;
        vector_count = shown-few now s.vectors p.few.vectors;
        table_ids = all_of-map unlocked (λ t. ltb t.table s.next_table) (λ t. ltb t.table s.next_table) (λ t. refl) s.tables ∙ p.below;
        pair_ids = all-all_of _ (shown now s.pairs) pairs-low;
        vector_ids = all-all_of _ (shown now s.vectors) vectors-low;
        lines = well-rewrite;
        names = differ-unlocked s.tables ∙ p.differ;
        tables_of_pairs = housed-of s.tables (keep (shown_by now) s.pairs) ∙ w.1;
        vector_pairs = owned-of (keep (shown_by now) s.pairs) (keep (shown_by now) s.vectors) ∙ w.0;
      }

-- A manager that passes 29.
pub manager-passes : (m : VersionManagerInner) → bad_inner m ≡ false → Widths (state_of m) → names_differ (state_of m).tables ≡ true → Passes (state_of m)
manager-passes m g w d =
    let s = sound-of m g in
    let t = state_of m in
    let two : All (λ x. eqb (length (by_ids x)) 2 ≡ true) t.pairs = rows_all _ _ (λ i. refl) m.rowsets.count in
    let three : All (λ x. eqb (length (by_ids x)) 3 ≡ true) t.vectors = rows_all _ _ (λ i. refl) m.vectors.count in
    record {
      ordered = s.ordered;
      few = few-start m s;
      widths = w;
      names = s.names;
      differ = d;
      below = s.below;
      pairs = all_both t.pairs (λ x a b. join a (within_of t.epoch _ x b).ids) two (all_of-all _ t.pairs s.pairs);
      vectors = all_both t.vectors (λ x a b. join a (within_of t.epoch _ x b).ids) three (all_of-all _ t.vectors s.vectors);
      whole = s.whole;
    }
