-- What the tests of an operation say: counts are lengths, a drawn id raises no next id, and a table with the next id comes last. Assumes nothing.
use mathlib.Core.Path.{◌≡◌, refl, sym, ◌∙◌}
use mathlib.Core.Bool.{Bool, true, false}
use mathlib.Core.List.{List, [], ◌∷◌, ◌++◌}
use Prim.Native.Nat.{ℕ, ◌+◌, ◌<◌, max}
use native.Mathlib.Omega.{arith}
use lib.Dec.{leb, ltb}
use lib.ListN.{length}
use borrow.Author.Tests.{leb-false, lt-leb, ltb-true, lt-ltb}
use Rattle.std.specs.Prelude.{Ok}
use Rattle.std.specs.Ordering.{is_le, nat_cmp}
use Rattle.std.proofs.lemmas.Bool.Decides.{nat_tests}
use Rattle.lists.specs.Keyed.{all_of, has, put, without, ascending}
use Rattle.lists.proofs.Order.{lex-last}
use Rattle.lists.proofs.Keyed.{All, all_map, all_of-all, all-all_of, all_keep, all-put, put_last, ascend-to, ascend-from, ascending-keep, ascending-put}
use Rattle.ids.specs.Limits.{most_held}
use Rattle.manifest.specs.Operations.{add_rowset, add_vector}
use Rattle.columns.proofs.Rows.{rows-length}
use Rattle.snapshot.specs.Entries.{by_ids, added_at, entry_at}
use Rattle.snapshot.specs.Tables.{TableEntry, created, by_table, table_at}
use Rattle.snapshot.specs.Views.{tables_of, rowsets_of, vectors_of}
use Rattle.snapshot.specs.declared.tables.Tables.{Tables}
use Rattle.snapshot.specs.declared.rowsets.Rowsets.{Rowsets}
use Rattle.snapshot.specs.declared.vectors.Vectors.{Vectors}
use Rattle.version_state.specs.State.{State, with_pairs, with_vectors}
use Rattle.operations.specs.Judge.{is_live, is_shown, vector_held}
use Rattle.operations.specs.Ready.{Turned, Leaves}
pub use Rattle.operations.proofs.Entries.{not-held}

pub tables-count : (t : Tables) → length (tables_of t) ≡ t.count
tables-count t = rows-length (table_at t.ids t.shapes t.lengths t.names t.locked) t.count

pub rowsets_count : (r : Rowsets) → length (rowsets_of r) ≡ r.count
rowsets_count r = rows-length (entry_at (r.tables ∷ r.rowsets ∷ []) r.added r.deleted) r.count

pub vectors-count : (v : Vectors) → length (vectors_of v) ≡ v.count
vectors-count v = rows-length (entry_at (v.tables ∷ v.rowsets ∷ v.vectors ∷ []) v.added v.deleted) v.count

-- an id that is not below the next one, as the derived order tests it
pub undrawn : (n x : ℕ) (b : Bool) → b ≡ is_le (nat_cmp n x) → leb n x ≡ b
undrawn n x b h = h' ∙ sym h
  where
    h' : leb n x ≡ is_le (nat_cmp n x)
    h' = grind (arith, nat_tests)

-- an id that was drawn raises no next id
drawn : (n x : ℕ) → leb n x ≡ false → max n (x + 1) ≡ n
drawn n x h = let q = leb-false n x h in omega arith

-- x is put in, and u is left
module _ (i e : ℕ) (s u : State) (t r n : ℕ) where
  pub pair-in : is_live t s ≡ true → leb s.next_rowset r ≡ false → has by_ids (t ∷ r ∷ []) s.pairs ≡ false → length s.pairs ≡ n → n < most_held
      → u ≡ with_pairs s (put by_ids (added_at e (t ∷ r ∷ [])) s.pairs) → Turned i e (add_rowset t r) s (Ok tt) u
  unfolding Turned Leaves
  pair-in a b c l d h = rw (a, b, c, l, lt-leb _ _ d, drawn s.next_rowset r b) (refl, h)

  pub vector-in : (v : ℕ) → is_shown e (t ∷ r ∷ []) s.pairs ≡ true → leb s.next_vector v ≡ false → vector_held v s.vectors ≡ false → length s.vectors ≡ n → n < most_held
      → u ≡ with_vectors s (put by_ids (added_at e (t ∷ r ∷ v ∷ [])) s.vectors) → Turned i e (add_vector t r v) s (Ok tt) u
  unfolding Turned Leaves
  vector-in v a b c l d h = rw (a, b, c, l, lt-leb _ _ d, drawn s.next_vector v b) (refl, h)

-- a table with the next id stands after all others
pub create-last : (l : List TableEntry) (n t h : ℕ) (name : List ℕ) → all_of (λ x. ltb x.table n) l ≡ true → t ≡ n
    → put by_table (created t h name) l ≡ l ++ (created t h name ∷ [])
create-last l n t h name b e =
    put_last by_table (created t h name) l
    (all_map l (λ x k. lex-last x.table t ∙ rw e k) (all_of-all (λ x. ltb x.table n) l b))

-- what is left of the tables, or a table more with the next id, stays in order and below the next id
pub tables-left : (n : ℕ) (k : List ℕ) (l : List TableEntry) → ascending by_table l ≡ true → all_of (λ x. ltb x.table n) l ≡ true
    → (ascending by_table (without by_table k l) ≡ true) × (all_of (λ x. ltb x.table n) (without by_table k l) ≡ true)
tables-left n k l a b = (ascend-from by_table _ (ascending-keep by_table _ l (ascend-to by_table l a)), all-all_of _ _ (all_keep _ _ l (all_of-all _ l b)))

pub tables-more : (n t h : ℕ) (name : List ℕ) (l : List TableEntry) → ascending by_table l ≡ true → all_of (λ x. ltb x.table n) l ≡ true → t ≡ n
    → (ascending by_table (l ++ (created t h name ∷ [])) ≡ true) × (all_of (λ x. ltb x.table (t + 1)) (l ++ (created t h name ∷ [])) ≡ true)
tables-more n t h name l a b e =
    let x = created t h name in
    let up : All (λ y. ltb y.table (t + 1) ≡ true) l = all_map l (λ y k. lt-ltb y.table (t + 1) (omega (arith, ltb-true y.table n k, e))) (all_of-all (λ y. ltb y.table n) l b) in
    rw (← create-last l n t h name b e) (ascend-from by_table _ (ascending-put by_table x l (ascend-to by_table l a)), all-all_of _ _ (all-put by_table _ x l (lt-ltb t (t + 1) (omega arith)) up))

pub ruleset table_turns = (tables-count, create-last)

pub ruleset vector_turns = (vectors-count, not-held)
