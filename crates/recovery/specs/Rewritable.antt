-- Next ids and sets whose rewritten manifest is read to the same. Assumes nothing.
use Rattle.std.specs.Prelude.{◌≡◌, Bool, true, not, ◌&&◌, List, [], ◌∷◌, map, ℕ, ◌≤◌, ltb, eqb, length, take}
use Rattle.lists.specs.Keyed.{all_of, has, ascending}
use Rattle.ids.specs.Ids.{Next}
use Rattle.ids.specs.Limits.{most_tables, most_held}
use Rattle.columns.specs.Rows.{plain}
use Rattle.manifest.specs.Operations.{well_formed}
use Rattle.snapshot.specs.Entries.{added_at, below_next}
use Rattle.snapshot.specs.Tables.{TableEntry, by_table, name_taken}
use Rattle.version_state.specs.State.{State, start, with_tables, with_pairs, with_vectors, with_next, with_epoch}
use Rattle.version_state.specs.Sets.{Sets, unlocked}
use Rattle.rewrite.specs.Rewritten.{rewrite_of}
use Rattle.replay.specs.Replay.{reopened}

-- the state of these next ids and sets when they are read: all was added at the replay's epoch, and no lock is held
abbrev pub made_of : Next → Sets → State
made_of n z =
    with_vectors
    (with_pairs
    (with_tables
    (with_next (with_epoch start reopened 0) n.table n.rowset n.vector)
    (map unlocked z.tables))
    (map (added_at reopened) z.pairs))
    (map (added_at reopened) z.vectors)

-- no two tables have the same name
abbrev pub names_differ : List TableEntry → Bool
names_differ [] = true
names_differ (t ∷ l) = not (name_taken t.name l) && names_differ l

-- an id for each of these next ones, below it
abbrev pub ids_below : List ℕ → List ℕ → Bool
ids_below ns k = eqb (length k) (length ns) && below_next k ns

-- each pair has its table, and each vector its pair
abbrev pub housed : List TableEntry → List (List ℕ) → Bool
housed ts ps = all_of (λ k. has by_table (take 1 k) ts) ps

abbrev pub owned : List (List ℕ) → List (List ℕ) → Bool
owned ps vs = all_of (λ k. has plain (take 2 k) ps) vs

pub record Rewritable (n : Next) (z : Sets) : Type 0 where
  -- the lists rise strictly, and are within the specification's limits
  pub tables : ascending by_table z.tables ≡ true
  pub pairs : ascending plain z.pairs ≡ true
  pub vectors : ascending plain z.vectors ≡ true
  pub table_count : length z.tables ≤ most_tables
  pub pair_count : length z.pairs ≤ most_held
  pub vector_count : length z.vectors ≤ most_held
  -- each id is below the next one
  pub table_ids : all_of (λ t. ltb t.table n.table) z.tables ≡ true
  pub pair_ids : all_of (ids_below (n.table ∷ n.rowset ∷ [])) z.pairs ≡ true
  pub vector_ids : all_of (ids_below (n.table ∷ n.rowset ∷ n.vector ∷ [])) z.vectors ≡ true
  -- ids, shapes and next ids are within their widths, and names are names
  pub lines : all_of well_formed (rewrite_of n z) ≡ true
  pub names : names_differ z.tables ≡ true
  pub tables_of_pairs : housed z.tables z.pairs ≡ true
  pub vector_pairs : owned z.pairs z.vectors ≡ true
