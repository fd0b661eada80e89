-- Edited lists: what an edit keeps of a list, and what an operation's rules tell of its edits. Assumes nothing.
use mathlib.Core.Path.{◌≡◌, refl}
use mathlib.Core.Bool.{true, false, cond, not}
use mathlib.Core.List.{List}
use Prim.Native.Nat.{ℕ, ◌≤◌, ◌<◌}
use native.Mathlib.Omega.{arith}
use lib.ListN.{length, length-map}
use borrow.Author.Tests.{leb-false, eqb-true, not-false}
use Rattle.std.specs.Prelude.{Ok}
use Rattle.lists.specs.Keyed.{is_at, has}
use Rattle.lists.proofs.Tests.{by_cases, clash}
use Rattle.lists.proofs.Keyed.{All, all_map, all-put, all_keep, all-mapped, Ascending, ascending-put, ascending-keep, ascending-changed, length-keep, length-put}
use Rattle.ids.specs.Ids.{largest32, Next, next}
use Rattle.ids.specs.Limits.{most_tables, most_held}
use Rattle.ids.specs.Verdicts.{judged}
use Rattle.ids.proofs.Verdicts.{none-judged}
use Rattle.text.specs.Name.{is_name}
use Rattle.manifest.specs.Operations.{Operation, create_table, drop_table, add_rowset, delete_rowset, add_vector, delete_vector, next_ids, well_formed}
use Rattle.manifest.specs.Edits.{Edit, leaves, adds, deletes, Table, rowset_in, vector_in, Raise, keeps, at_least, Edits, edits_of}
use Rattle.manifest.proofs.Texts.{table-values}
use Rattle.snapshot.specs.Entries.{Entry, added_at, deleted_at, by_ids}
use Rattle.snapshot.specs.Tables.{TableEntry, by_table, name_taken}
use Rattle.version_state.specs.State.{State}
use Rattle.operations.specs.Effect.{edited, marked, past, lifted, raised}
use Rattle.operations.specs.Judge.{is_shown, op_rules}
use Rattle.operations.proofs.Entries.{not-held}

-- what is added, if anything, has the property
abbrev pub Adds : {A : Type 0} → (A → Type 0) → Edit A → Type 0
Adds P leaves = Unit {0}
Adds P (adds x) = P x
Adds P (deletes k) = Unit {0}

module _ {A : Type 0} where
  pub adds-any : {P : A → Type 0} (d : Edit A) → ((x : A) → P x) → Adds P d
  adds-any leaves f = tt
  adds-any (adds x) f = f x
  adds-any (deletes k) f = tt

  pub adds_map : {P Q : A → Type 0} (d : Edit A) → ((x : A) → P x → Q x) → Adds P d → Adds Q d
  adds_map leaves f h = tt
  adds_map (adds x) f h = f x h
  adds_map (deletes k) f h = tt

  pub adds-both : {P Q R : A → Type 0} (d : Edit A) → ((x : A) → P x → Q x → R x) → Adds P d → Adds Q d → Adds R d
  adds-both leaves f h g = tt
  adds-both (adds x) f h g = f x h g
  adds-both (deletes k) f h g = tt

module _ {A B : Type 0} (key : B → List ℕ) (f : A → B) where
  pub all-edited : (P : B → Type 0) (d : Edit A) (l : List B) → Adds (λ x. P (f x)) d → All P l → All P (edited key f d l)
  all-edited P leaves l a h = h
  all-edited P (adds x) l a h = all-put key P (f x) l a h
  all-edited P (deletes k) l a h = all_keep P _ l h

  pub ascending-edited : (d : Edit A) (l : List B) → Ascending key l → Ascending key (edited key f d l)
  ascending-edited leaves l h = h
  ascending-edited (adds x) l h = ascending-put key (f x) l h
  ascending-edited (deletes k) l h = ascending-keep key _ l h

module _ (e : ℕ) where
  pub all-marked : (P : Entry → Type 0) (d : Edit (List ℕ)) (l : List Entry) → Adds (λ k. P (added_at e k)) d → ((x : Entry) → P x → P (deleted_at e x)) → All P l → All P (marked e d l)
  all-marked P leaves l a f h = h
  all-marked P (adds k) l a f h = all-put by_ids P (added_at e k) l a h
  all-marked P (deletes k) l a f h =
      all-mapped P (λ x. cond (is_at by_ids k x) (deleted_at e x) x) l
      (all_map l (λ x p. by_cases (is_at by_ids k x) (λ t. rw t (f x p)) (λ t. rw t p)) h)

  pub ascending-marked : (d : Edit (List ℕ)) (l : List Entry) → Ascending by_ids l → Ascending by_ids (marked e d l)
  ascending-marked leaves l h = h
  ascending-marked (adds k) l h = ascending-put by_ids (added_at e k) l h
  ascending-marked (deletes k) l h = ascending-changed by_ids k (deleted_at e) (λ x. refl) l h

-- No next id falls, and what is added is below the next one of its kind.
pub record Risen (x y : Next) : Type 0 where
  pub table : x.table ≤ y.table
  pub rowset : x.rowset ≤ y.rowset
  pub vector : x.vector ≤ y.vector

pub record Passed (d : Edits) (x : Next) : Type 0 where
  pub tables : Adds (λ (t : Table). t.id < x.table) d.tables
  pub pairs : Adds (λ k. rowset_in k < x.rowset) d.pairs
  pub vectors : Adds (λ k. vector_in k < x.vector) d.vectors

module _ {A : Type 0} (id : A → ℕ) where
  past_up : (d : Edit A) (n m : ℕ) → past id d n ≤ m → n ≤ m
  past_up leaves n m h = h
  past_up (adds x) n m h = omega arith
  past_up (deletes k) n m h = h

  past-over : (d : Edit A) (n m : ℕ) → past id d n ≤ m → Adds (λ x. id x < m) d
  past-over leaves n m h = tt
  past-over (adds x) n m h = omega arith
  past-over (deletes k) n m h = tt

lifted-up : (r : Raise) (x : Next) → Risen x (lifted r x)
lifted-up keeps x = record { table = omega arith; rowset = omega arith; vector = omega arith }
lifted-up (at_least n) x = record { table = omega arith; rowset = omega arith; vector = omega arith }

module _ (d : Edits) (x : Next) where
  abbrev y : Next
  y = raised d x

  lifts : Risen (next (past (λ t. t.id) d.tables x.table) (past rowset_in d.pairs x.rowset) (past vector_in d.vectors x.vector)) y
  lifts = lifted-up d.next _

  pub rises : Risen x y
  rises =
      record {
        table = past_up (λ t. t.id) d.tables x.table y.table lifts.table;
        rowset = past_up rowset_in d.pairs x.rowset y.rowset lifts.rowset;
        vector = past_up vector_in d.vectors x.vector y.vector lifts.vector;
      }

  pub passed : Passed d y
  passed =
      record {
        tables = past-over (λ t. t.id) d.tables x.table y.table lifts.table;
        pairs = past-over rowset_in d.pairs x.rowset y.rowset lifts.rowset;
        vectors = past-over vector_in d.vectors x.vector y.vector lifts.vector;
      }

-- a well-formed table has a shape of 32 bits and a name
pub well-table : (o : Operation) → well_formed o ≡ true → Adds (λ (t : Table). (t.shape ≤ largest32) × (is_name t.name ≡ true)) (edits_of o).tables
well-table (create_table t h n) w = let v = table-values t h n w in (v.1, v.2)
well-table (drop_table t) w = tt
well-table (add_rowset t r) w = tt
well-table (delete_rowset t r) w = tt
well-table (add_vector t r v) w = tt
well-table (delete_vector t r v) w = tt
well-table (next_ids t r v) w = tt

-- What an edit that is accepted at epoch e finds: no such entry and room for it, or the entry.
abbrev pub TableFits : Edit Table → State → Type 0
TableFits leaves s = Unit {0}
TableFits (adds t) s = (t.id ≡ s.next_table) × (name_taken t.name s.tables ≡ false) × (length s.tables < most_tables)
TableFits (deletes k) s = has by_table k s.tables ≡ true

abbrev pub EntryFits : ℕ → Edit (List ℕ) → List Entry → Type 0
EntryFits e leaves l = Unit {0}
EntryFits e (adds k) l = (has by_ids k l ≡ false) × (length l < most_held)
EntryFits e (deletes k) l = is_shown e k l ≡ true

pub record Fits (e : ℕ) (d : Edits) (s : State) : Type 0 where
  pub tables : TableFits d.tables s
  pub pairs : EntryFits e d.pairs s.pairs
  pub vectors : EntryFits e d.vectors s.vectors

pub fits : (i e : ℕ) (o : Operation) (s : State) → judged (op_rules i e o s) ≡ Ok tt → Fits e (edits_of o) s
fits i e (create_table t h n) s a =
    let p = none-judged (op_rules i e (create_table t h n) s) a in
    record { tables = (eqb-true t s.next_table (not-false _ p.1.0), p.1.1.0, leb-false most_tables (length s.tables) p.1.1.1.0); pairs = tt; vectors = tt }
fits i e (drop_table t) s a = record { tables = not-false _ (none-judged (op_rules i e (drop_table t) s) a).1.0; pairs = tt; vectors = tt }
fits i e (add_rowset t r) s a =
    let p = none-judged (op_rules i e (add_rowset t r) s) a in
    record { tables = tt; pairs = (p.1.1.1.0, leb-false most_held (length s.pairs) p.1.1.1.1.0); vectors = tt }
fits i e (delete_rowset t r) s a = record { tables = tt; pairs = not-false _ (none-judged (op_rules i e (delete_rowset t r) s) a).1.0; vectors = tt }
fits i e (add_vector t r v) s a =
    let p = none-judged (op_rules i e (add_vector t r v) s) a in
    record { tables = tt; pairs = tt; vectors = (not-held t r v s.vectors p.1.1.1.0, leb-false most_held (length s.vectors) p.1.1.1.1.0) }
fits i e (delete_vector t r v) s a = record { tables = tt; pairs = tt; vectors = not-false _ (none-judged (op_rules i e (delete_vector t r v) s) a).1.0 }
fits i e (next_ids t r v) s a = clash refl (none-judged (op_rules i e (next_ids t r v) s) a).1.0

-- so the lists stay within the limits
pub short-edited : (f : Table → TableEntry) (d : Edit Table) (s : State) → TableFits d s → length s.tables ≤ most_tables → length (edited by_table f d s.tables) ≤ most_tables
short-edited f leaves s t h = h
short-edited f (adds x) s t h = omega (arith, t.2, length-put by_table (f x) s.tables)
short-edited f (deletes k) s t h = omega (arith, h, length-keep (λ y. not (is_at by_table k y)) s.tables)

pub short-marked : (e : ℕ) (d : Edit (List ℕ)) (l : List Entry) → EntryFits e d l → length l ≤ most_held → length (marked e d l) ≤ most_held
short-marked e leaves l t h = h
short-marked e (adds k) l t h = omega (arith, t.1, length-put by_ids (added_at e k) l)
short-marked e (deletes k) l t h = omega (arith, h, length-map l (λ x. cond (is_at by_ids k x) (deleted_at e x) x))
