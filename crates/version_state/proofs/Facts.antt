-- What the tests of 29 tell as facts. Assumes nothing.
use mathlib.Core.Path.{◌≡◌}
use mathlib.Core.Bool.{true, false, not, ◌&&◌, ◌||◌}
use mathlib.Core.List.{[], ◌∷◌}
use Prim.Native.Nat.{◌<◌, ◌≤◌}
use lib.Dec.{leb, ltb}
use lib.ListN.{take}
use borrow.Author.Tests.{leb-true, le-leb, ltb-false, le-ltb, lt-ltb, not-false}
use Rattle.lists.specs.Keyed.{all_of, ascending, sorted}
use Rattle.lists.proofs.Tests.{by_cases, both, neither}
use Rattle.text.specs.Name.{is_name}
use Rattle.snapshot.specs.Entries.{by_ids, within}
use Rattle.snapshot.specs.Tables.{by_table}
use Rattle.version_state.specs.declared.VersionManagerInner.{VersionManagerInner}
use Rattle.version_state.specs.State.{State, state_of, counts_fit, Fit}
use Rattle.ids.specs.Limits.{most_tables, most_held, longest_manifest}
use Rattle.version_state.specs.Sound.{left_behind, beyond_limits, out_of_order, in_walking_order, above_own, bad_inner}
use Rattle.version_state.proofs.Stands.{sorted-first}

pub counts-fit : (m : VersionManagerInner) → counts_fit m ≡ true → Fit m
counts-fit m h =
    let a = both _ _ h in
    let b = both (leb m.rowsets.count most_held) (leb m.vectors.count most_held) a.1 in
    record { tables = leb-true m.tables.count most_tables a.0; rowsets = leb-true m.rowsets.count most_held b.0; vectors = leb-true m.vectors.count most_held b.1 }

pub fit-counts : (m : VersionManagerInner) → Fit m → counts_fit m ≡ true
fit-counts m f = rw (le-leb m.tables.count most_tables f.tables, le-leb m.rowsets.count most_held f.rowsets, le-leb m.vectors.count most_held f.vectors)

-- lists in order
pub record Ordered (s : State) : Type 0 where
  pub tables : ascending by_table s.tables ≡ true
  pub pairs : ascending by_ids s.pairs ≡ true
  pub vectors : ascending by_ids s.vectors ≡ true

pub in_order : (s : State) → out_of_order s ≡ false → Ordered s
in_order s h =
    let a = both (ascending by_table s.tables) (ascending by_ids s.pairs && ascending by_ids s.vectors) (not-false _ h) in
    let b = both (ascending by_ids s.pairs) (ascending by_ids s.vectors) a.1 in
    record { tables = a.0; pairs = b.0; vectors = b.1 }

pub order-in : (s : State) → Ordered s → out_of_order s ≡ false
order-in s o = rw (o.tables, o.pairs, o.vectors)

-- lists in walking order
pub record Walkable (s : State) : Type 0 where
  pub tables : ascending by_table s.tables ≡ true
  pub pairs : ascending by_ids s.pairs ≡ true
  pub vectors : sorted (λ v. take 2 (by_ids v)) s.vectors ≡ true

pub walkable : (s : State) → in_walking_order s ≡ true → Walkable s
walkable s h =
    let a = both (ascending by_table s.tables) (ascending by_ids s.pairs && sorted (λ v. take 2 (by_ids v)) s.vectors) h in
    let b = both (ascending by_ids s.pairs) (sorted (λ v. take 2 (by_ids v)) s.vectors) a.1 in
    record { tables = a.0; pairs = b.0; vectors = b.1 }

-- what is in order is in walking order
pub order-walks : (s : State) → Ordered s → in_walking_order s ≡ true
order-walks s o = rw (o.tables, o.pairs) (sorted-first 2 s.vectors o.vectors)

-- what 29 lets through, as facts
pub record Sound (m : VersionManagerInner) : Type 0 where
  pub fits : Fit m
  pub manifest : m.manifest ≤ longest_manifest
  pub names : all_of (λ t. is_name t.name) (state_of m).tables ≡ true
  pub ordered : Ordered (state_of m)
  pub below : all_of (λ t. ltb t.table (state_of m).next_table) (state_of m).tables ≡ true
  pub pairs : all_of (within (state_of m).epoch ((state_of m).next_table ∷ (state_of m).next_rowset ∷ [])) (state_of m).pairs ≡ true
  pub vectors : all_of (within (state_of m).epoch ((state_of m).next_table ∷ (state_of m).next_rowset ∷ (state_of m).next_vector ∷ [])) (state_of m).vectors ≡ true
  pub whole : left_behind (state_of m).epoch (state_of m) ≡ false

pub sound-of : (m : VersionManagerInner) → bad_inner m ≡ false → Sound m
sound-of m h =
    let a = neither (beyond_limits m) (out_of_order (state_of m) || (above_own (state_of m) || left_behind (state_of m).epoch (state_of m))) h in
    let b = neither (out_of_order (state_of m)) (above_own (state_of m) || left_behind (state_of m).epoch (state_of m)) a.1 in
    let c = neither (above_own (state_of m)) (left_behind (state_of m).epoch (state_of m)) b.1 in
    let d = neither (not (counts_fit m)) (ltb longest_manifest (state_of m).manifest || not (all_of (λ t. is_name t.name) (state_of m).tables)) a.0 in
    let e = neither (ltb longest_manifest (state_of m).manifest) (not (all_of (λ t. is_name t.name) (state_of m).tables)) d.1 in
    let f = both (all_of (λ t. ltb t.table (state_of m).next_table) (state_of m).tables) _ (not-false _ c.0) in
    let g = both (all_of (within (state_of m).epoch ((state_of m).next_table ∷ (state_of m).next_rowset ∷ [])) (state_of m).pairs) _ f.1 in
    record {
      fits = counts-fit m (not-false _ d.0);
      manifest = ltb-false longest_manifest (state_of m).manifest e.0;
      names = not-false _ e.1;
      ordered = in_order (state_of m) b.0;
      below = f.0;
      pairs = g.0;
      vectors = g.1;
      whole = c.1;
    }

pub of-sound : (m : VersionManagerInner) → Sound m → bad_inner m ≡ false
of-sound m s =
    rw (fit-counts m s.fits, le-ltb longest_manifest m.manifest s.manifest, s.names, order-in (state_of m) s.ordered, s.below, s.pairs, s.vectors) s.whole

-- a manifest that is too long
pub too_long : (m : VersionManagerInner) → longest_manifest < m.manifest → true ≡ bad_inner m
too_long m h = by_cases (counts_fit m) (λ e. rw (e, lt-ltb longest_manifest m.manifest h)) (λ e. rw e)

-- the counts of a state that is within the limits
pub fit-within : (m : VersionManagerInner) → beyond_limits m ≡ false → Fit m
fit-within m h = counts-fit m (not-false _ (neither (not (counts_fit m)) (ltb longest_manifest (state_of m).manifest || not (all_of (λ t. is_name t.name) (state_of m).tables)) h).0)
