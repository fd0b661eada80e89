-- A start: it does not fail on what was written, shows it, and writes it anew. Assumes nothing.
use mathlib.Core.Path.{◌≡◌, refl, sym, ap, ◌∙◌}
use mathlib.Core.Bool.{Bool, true, false, ◌&&◌, ◌||◌, or-false}
use mathlib.Core.List.{List, [], ◌∷◌, ◌++◌, map}
use Prim.Native.Nat.{ℕ}
use Rattle.lists.specs.Order.{same}
use Rattle.lists.specs.Keyed.{all_of, is_at, has, without, arranged}
use lib.Dec.{eqb}
use Rattle.lists.proofs.Tests.{by_cases, clash, both, join, or_across}
use Rattle.lists.proofs.Order.{same_refl}
use Rattle.lists.proofs.Keyed.{All, all_map, all_any, all_append, all-mapped, all-all_of, kept-all}
use Rattle.manifest.specs.Operations.{Operation, create_table, drop_table, add_rowset, delete_rowset, add_vector, delete_vector, next_ids}
use Rattle.manifest.specs.Edits.{Edit, leaves, adds, deletes, Table, edits_of}
use Rattle.plain_record.specs.Sets.{Sets, none, by_id, itself, apply}
use Rattle.risinglight.specs.Maps.{Outcome, fails, ok, and_then}
use Rattle.risinglight.specs.Manifest.{Value, frame, Replaying, replay}
use Rattle.risinglight.specs.Snapshot.{default}
use Rattle.risinglight.specs.VersionManager.{fresh, Changing, changing, committed}
use Rattle.risinglight.specs.Storage.{apply_table, apply_tables, Rowset, pair_of, open_rowset, rowsets_to_open, Dv, triple_of, open_dv, dvs_to_open, through, is_of_table, table_changeset, changeset, next_id, raised, Storage, storage, bootstrap}
use Rattle.risinglight.proofs.Fitting.{Finds, FindsAll}
use Rattle.risinglight.proofs.Changes.{Shows, deleted_by, deleted_all, adds_any, of_pairs, of_vectors, changed}
use Rattle.risinglight.proofs.Maps.{instead}
use Rattle.risinglight.proofs.Files.{any-arranged, tables-append, through-append, frame-replayed, Boots, Filed, rowsets-alike, dvs-alike}

-- the operations that open rowsets, and those that open vectors
abbrev opens : Rowset → Operation
opens x = add_rowset x.table x.rowset

abbrev opens_dv : Dv → Operation
opens_dv x = add_vector x.table x.rowset x.dv

-- Operations that delete nothing.
abbrev AddsOnly : {A : Type 0} → Edit A → Type 0
AddsOnly leaves = Unit {0}
AddsOnly (adds x) = Unit {0}
AddsOnly (deletes k) = ⊥

record Deletionless (o : Operation) : Type 0 where
  pairs : AddsOnly (edits_of o).pairs
  vectors : AddsOnly (edits_of o).vectors

finds-any : (d : Edit (List ℕ)) (l : List (List ℕ)) → AddsOnly d → Finds d l
finds-any leaves l h = tt
finds-any (adds k) l h = tt
finds-any (deletes k) l h = absurd h

deletes-none : (d : Edit (List ℕ)) → AddsOnly d → deleted_by d ≡ []
deletes-none leaves h = refl
deletes-none (adds k) h = refl
deletes-none (deletes k) h = absurd h

finds-all : (os : List Operation) (x : Sets) → All Deletionless os → FindsAll os x
finds-all [] x h = tt
finds-all (o ∷ os) x h =
    (record { pairs = finds-any (edits_of o).pairs x.pairs h.0.pairs; vectors = finds-any (edits_of o).vectors x.vectors h.0.vectors }, finds-all os (apply o x) h.1)

none-deleted : (os : List Operation) → All Deletionless os → deleted_all os ≡ []
none-deleted [] h = refl
none-deleted (o ∷ os) h = ap (λ l. l ++ deleted_all os) (deletes-none (edits_of o).pairs h.0.pairs) ∙ none-deleted os h.1

-- Operations of tables leave the rest.
record OfTable (o : Operation) : Type 0 where
  deletionless : Deletionless o
  rowsets : (l : List Rowset) → open_rowset o l ≡ l
  dvs : (l : List Dv) → open_dv o l ≡ l
  adds : (k : List ℕ) → of_pairs o k ≡ false

of-table : (o : Operation) → is_of_table o ≡ true → OfTable o
of-table (create_table t h n) e = record { deletionless = record { pairs = tt; vectors = tt }; rowsets = λ l. refl; dvs = λ l. refl; adds = λ k. refl }
of-table (drop_table t) e = record { deletionless = record { pairs = tt; vectors = tt }; rowsets = λ l. refl; dvs = λ l. refl; adds = λ k. refl }
of-table (add_rowset t r) e = clash e refl
of-table (delete_rowset t r) e = clash e refl
of-table (add_vector t r v) e = clash e refl
of-table (delete_vector t r v) e = clash e refl
of-table (next_ids t r v) e = clash e refl

all-of-table : (ops : List Operation) → All OfTable (table_changeset ops)
all-of-table ops = all_map (table_changeset ops) of-table (kept-all is_of_table ops)

then-alike : {A B : Type 0} (x : Outcome A) (f g : A → Outcome B) → ((y : A) → f y ≡ g y) → and_then x f ≡ and_then x g
then-alike fails f g h = refl
then-alike (ok y) f g h = h y

changeset-tables : (ops : List Operation) (l : List Table) → apply_tables (table_changeset ops) l ≡ apply_tables ops l
changeset-tables [] l = refl
changeset-tables (create_table t h n ∷ ops) l = then-alike (apply_table (create_table t h n) l) (apply_tables (table_changeset ops)) (apply_tables ops) (changeset-tables ops)
changeset-tables (drop_table t ∷ ops) l = then-alike (apply_table (drop_table t) l) (apply_tables (table_changeset ops)) (apply_tables ops) (changeset-tables ops)
changeset-tables (add_rowset t r ∷ ops) l = changeset-tables ops l
changeset-tables (delete_rowset t r ∷ ops) l = changeset-tables ops l
changeset-tables (add_vector t r v ∷ ops) l = changeset-tables ops l
changeset-tables (delete_vector t r v ∷ ops) l = changeset-tables ops l
changeset-tables (next_ids t r v ∷ ops) l = changeset-tables ops l

-- Operations that leave one of the three.
tables-stay : (os : List Operation) (l : List Table) → All (λ o. apply_table o l ≡ ok l) os → apply_tables os l ≡ ok l
tables-stay [] l h = refl
tables-stay (o ∷ os) l h = ap (λ x. and_then x (apply_tables os)) h.0 ∙ tables-stay os l h.1

through-stays : {A : Type 0} (f : Operation → A → A) (os : List Operation) (x : A) → All (λ o. (y : A) → f o y ≡ y) os → through f os x ≡ x
through-stays f [] x h = refl
through-stays f (o ∷ os) x h = ap (through f os) (h.0 x) ∙ through-stays f os x h.1

-- operations that open each of a list
through-opened : {A : Type 0} (key : A → List ℕ) (f : Operation → List A → List A) (to : A → Operation) → ((x : A) (l : List A) → f (to x) l ≡ x ∷ without key (key x) l)
    → (k : List ℕ) (xs l : List A) → has key k (through f (map to xs) l) ≡ has key k xs || has key k l
through-opened key f to h k [] l = refl
through-opened key f to h k (x ∷ xs) l =
    through-opened key f to h k xs (f (to x) l)
    ∙ ap (λ (m : List _). has key k xs || has key k m) (h x l)
    ∙ ap (λ b. has key k xs || b) (instead key k x l)
    ∙ or_across (same (key x) k) (has key k xs) (has key k l)

-- What goes into the pools.
adds-append : (f : Operation → List ℕ → Bool) (os ps : List Operation) (k : List ℕ) → adds_any f (os ++ ps) k ≡ adds_any f os k || adds_any f ps k
adds-append f [] ps k = refl
adds-append f (o ∷ os) ps k = by_cases (f o k) (λ e. rw e) (λ e. rw e (adds-append f os ps k))

adds_none : (f : Operation → List ℕ → Bool) (k : List ℕ) (os : List Operation) → All (λ o. f o k ≡ false) os → adds_any f os k ≡ false
adds_none f k [] h = refl
adds_none f k (o ∷ os) h = rw h.0 (adds_none f k os h.1)

adds-opened : (k : List ℕ) (rs : List Rowset) → adds_any of_pairs (map opens rs) k ≡ has pair_of k rs
adds-opened k [] = refl
adds-opened k (x ∷ rs) = ap (λ b. same (pair_of x) k || b) (adds-opened k rs)

same_ends : (x : Dv) (t r v : ℕ) → same (triple_of x) (t ∷ r ∷ v ∷ []) ≡ true → same (x.table ∷ x.dv ∷ []) (t ∷ v ∷ []) ≡ true
same_ends x t r v h =
    let a = both (eqb x.table t) (eqb x.rowset r && (eqb x.dv v && true)) h in
    let b = both (eqb x.rowset r) (eqb x.dv v && true) a.1 in
    join a.0 b.1

adds-dv : (t r v : ℕ) (vs : List Dv) → has triple_of (t ∷ r ∷ v ∷ []) vs ≡ true → adds_any of_vectors (map opens_dv vs) (t ∷ v ∷ []) ≡ true
adds-dv t r v [] h = clash h refl
adds-dv t r v (x ∷ vs) h =
    by_cases (same (triple_of x) (t ∷ r ∷ v ∷ []))
    (λ e. rw (same_ends x t r v e))
    (λ e.
    let i = adds-dv t r v vs (rw e at h) in
    by_cases (same (x.table ∷ x.dv ∷ []) (t ∷ v ∷ [])) (λ f. rw f) (λ f. rw f i))

-- The changeset of what is opened.
module _ (rs : List Rowset) (vs : List Dv) (ops : List Operation) where
  abbrev ts : List Operation
  ts = table_changeset ops

  abbrev cs : List Operation
  cs = changeset rs vs ts

  deletionless : All Deletionless cs
  deletionless =
      all_append Deletionless (map opens rs) (map opens_dv vs ++ ts)
      (all-mapped Deletionless opens rs (all_any rs (λ x. record { pairs = tt; vectors = tt })))
      (all_append Deletionless (map opens_dv vs) ts
      (all-mapped Deletionless opens_dv vs (all_any vs (λ x. record { pairs = tt; vectors = tt })))
      (all_map ts (λ o h. h.deletionless) (all-of-table ops)))

  tables-of : apply_tables cs [] ≡ apply_tables ops []
  tables-of =
      tables-append (map opens rs) (map opens_dv vs ++ ts) []
      ∙ ap (λ x. and_then x (apply_tables (map opens_dv vs ++ ts))) (tables-stay (map opens rs) [] (all-mapped (λ o. apply_table o [] ≡ ok []) opens rs (all_any rs (λ x. refl))))
      ∙ tables-append (map opens_dv vs) ts []
      ∙ ap (λ x. and_then x (apply_tables ts)) (tables-stay (map opens_dv vs) [] (all-mapped (λ o. apply_table o [] ≡ ok []) opens_dv vs (all_any vs (λ x. refl))))
      ∙ changeset-tables ops []

  rowsets-of : (k : List ℕ) → has pair_of k (rowsets_to_open cs []) ≡ has pair_of k rs
  rowsets-of k =
      ap (has pair_of k)
      (through-append open_rowset (map opens rs) (map opens_dv vs ++ ts) []
      ∙ through-append open_rowset (map opens_dv vs) ts (rowsets_to_open (map opens rs) [])
      ∙ ap (rowsets_to_open ts) (through-stays open_rowset (map opens_dv vs) (rowsets_to_open (map opens rs) []) (all-mapped (λ o. (m : List Rowset) → open_rowset o m ≡ m) opens_dv vs (all_any vs (λ x m. refl))))
      ∙ through-stays open_rowset ts (rowsets_to_open (map opens rs) []) (all_map ts (λ o h. h.rowsets) (all-of-table ops)))
      ∙ through-opened pair_of open_rowset opens (λ x l. refl) k rs []
      ∙ or-false (has pair_of k rs)

  dvs-of : (k : List ℕ) → has triple_of k (dvs_to_open cs []) ≡ has triple_of k vs
  dvs-of k =
      ap (has triple_of k)
      (through-append open_dv (map opens rs) (map opens_dv vs ++ ts) []
      ∙ ap (dvs_to_open (map opens_dv vs ++ ts)) (through-stays open_dv (map opens rs) [] (all-mapped (λ o. (m : List Dv) → open_dv o m ≡ m) opens rs (all_any rs (λ x m. refl))))
      ∙ through-append open_dv (map opens_dv vs) ts []
      ∙ through-stays open_dv ts (dvs_to_open (map opens_dv vs) []) (all_map ts (λ o h. h.dvs) (all-of-table ops)))
      ∙ through-opened triple_of open_dv opens_dv (λ x l. refl) k vs []
      ∙ or-false (has triple_of k vs)

  pools-rowsets : (k : List ℕ) → adds_any of_pairs cs k ≡ has pair_of k rs
  pools-rowsets k =
      adds-append of_pairs (map opens rs) (map opens_dv vs ++ ts) k
      ∙ ap (λ b. adds_any of_pairs (map opens rs) k || b)
      (adds-append of_pairs (map opens_dv vs) ts k
      ∙ ap (λ b. b || adds_any of_pairs ts k) (adds_none of_pairs k (map opens_dv vs) (all-mapped (λ o. of_pairs o k ≡ false) opens_dv vs (all_any vs (λ x. refl))))
      ∙ adds_none of_pairs k ts (all_map ts (λ o h. h.adds k) (all-of-table ops)))
      ∙ or-false (adds_any of_pairs (map opens rs) k)
      ∙ adds-opened k rs

  pools-dvs : (t r v : ℕ) → has triple_of (t ∷ r ∷ v ∷ []) vs ≡ true → adds_any of_vectors cs (t ∷ v ∷ []) ≡ true
  pools-dvs t r v h =
      adds-append of_vectors (map opens rs) (map opens_dv vs ++ ts) (t ∷ v ∷ [])
      ∙ ap (λ b. b || adds_any of_vectors (map opens_dv vs ++ ts) (t ∷ v ∷ [])) (adds_none of_vectors (t ∷ v ∷ []) (map opens rs) (all-mapped (λ o. of_vectors o (t ∷ v ∷ []) ≡ false) opens rs (all_any rs (λ x. refl))))
      ∙ adds-append of_vectors (map opens_dv vs) ts (t ∷ v ∷ [])
      ∙ ap (λ b. b || adds_any of_vectors ts (t ∷ v ∷ [])) (adds-dv t r v vs h)

-- every pair and vector has its table
pub record Whole (x : Sets) : Type 0 where
  pub pairs : (t r : ℕ) → has itself (t ∷ r ∷ []) x.pairs ≡ true → has by_id (t ∷ []) x.tables ≡ true
  pub vectors : (t r v : ℕ) → has itself (t ∷ r ∷ v ∷ []) x.vectors ≡ true → has by_id (t ∷ []) x.tables ≡ true

members : {A : Type 0} (key : A → List ℕ) (l m : List A) → ((k : List ℕ) → has key k l ≡ true → has key k m ≡ true) → All (λ x. has key (key x) m ≡ true) l
members key [] m h = tt
members key (x ∷ l) m h = (h (key x) (rw (same_refl (key x))), members key l m (λ k e. h k (by_cases (same (key x) k) (λ f. rw f) (λ f. rw f e))))

pub record Started (f : List Value) (x : Sets) : Type 0 where
  pub result : Storage
  pub runs : bootstrap f ≡ ok result
  pub catalog : arranged by_id result.catalog ≡ x.tables
  pub changing : Changing
  pub version : result.version ≡ committed fresh changing
  pub shows : Shows changing.snapshot x
  pub deletions : changing.deletions ≡ []
  pub next : result.next ≡ raised (replay f) (next_id 0 0)
  pub rowsets : (k : List ℕ) → has itself k x.pairs ≡ has itself k changing.rowsets
  pub dvs : (t r v : ℕ) → has itself (t ∷ r ∷ v ∷ []) x.vectors ≡ true → has itself (t ∷ v ∷ []) changing.dvs ≡ true
  pub written : replay result.manifest ≡ changeset (rowsets_to_open (replay f) []) (dvs_to_open (replay f) []) (table_changeset (replay f))
  pub filed : Filed result.manifest x

module _ (f : List Value) (x : Sets) (b : Boots (replay f) x) (w : Whole x) where
  abbrev ops : List Operation
  ops = replay f

  abbrev rows : List Rowset
  rows = rowsets_to_open ops []

  abbrev dvs : List Dv
  dvs = dvs_to_open ops []

  abbrev written : List Operation
  written = changeset rows dvs (table_changeset ops)

  in-catalog : (t : ℕ) → has by_id (t ∷ []) x.tables ≡ true → has by_id (t ∷ []) b.catalog ≡ true
  in-catalog t h = sym (any-arranged by_id (is_at by_id (t ∷ [])) b.catalog) ∙ ap (has by_id (t ∷ [])) b.tables ∙ h

  rows-have : all_of (λ (y : Rowset). has by_id (y.table ∷ []) b.catalog) rows ≡ true
  rows-have =
      all-all_of (λ (y : Rowset). has by_id (y.table ∷ []) b.catalog) rows
      (all_map rows (λ y h. in-catalog y.table (w.pairs y.table y.rowset (b.rowsets (pair_of y) ∙ h))) (members pair_of rows rows (λ k e. e)))

  dvs-have : all_of (λ (y : Dv). has by_id (y.table ∷ []) b.catalog) dvs ≡ true
  dvs-have =
      all-all_of (λ (y : Dv). has by_id (y.table ∷ []) b.catalog) dvs
      (all_map dvs (λ y h. in-catalog y.table (w.vectors y.table y.rowset y.dv (b.dvs (triple_of y) ∙ h))) (members triple_of dvs dvs (λ k e. e)))

  pub starts : Started f x
  starts =
      let c = changed written (changing default [] [] []) none (record { pairs = λ t r. refl; vectors = λ t r v. refl }) (finds-all written none (deletionless rows dvs ops)) in
      let boots : Boots written x =
      record {
        catalog = b.catalog;
        runs = tables-of rows dvs ops ∙ b.runs;
        tables = b.tables;
        rowsets = λ k. b.rowsets k ∙ sym (rowsets-of rows dvs ops k);
        dvs = λ k. b.dvs k ∙ sym (dvs-of rows dvs ops k);
      } in
      record {
        result = storage b.catalog (committed fresh c.left) (raised ops (next_id 0 0)) (frame written);
        runs = rw (b.runs, rows-have, dvs-have, c.runs);
        catalog = b.tables;
        changing = c.left;
        version = refl;
        shows =
            record {
              pairs = λ t r. boots.rowsets (t ∷ r ∷ []) ∙ sym (rowsets-alike written none [] (λ k. refl) (t ∷ r ∷ [])) ∙ c.shows.pairs t r;
              vectors = λ t r v. boots.dvs (t ∷ r ∷ v ∷ []) ∙ sym (dvs-alike written none [] (λ k. refl) (t ∷ r ∷ v ∷ [])) ∙ c.shows.vectors t r v;
            };
        deletions = c.deletions ∙ none-deleted written (deletionless rows dvs ops);
        next = refl;
        rowsets = λ k. b.rowsets k ∙ sym (c.rowsets k ∙ or-false (adds_any of_pairs written k) ∙ pools-rowsets rows dvs ops k);
        dvs = λ t r v h. c.dvs (t ∷ v ∷ []) ∙ or-false (adds_any of_vectors written (t ∷ v ∷ [])) ∙ pools-dvs rows dvs ops t r v (sym (b.dvs (t ∷ r ∷ v ∷ [])) ∙ h);
        written = ap (λ (s : Replaying). s.ops) (frame-replayed written []);
        filed = record { ops = written; read = frame-replayed written []; boots = boots };
      }
