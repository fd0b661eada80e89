-- `SecondaryStorage`: the catalog, and `bootstrap` of storage.rs. Assumes nothing.
use Rattle.std.specs.Prelude.{Bool, true, false, cond, ◌&&◌, List, [], ◌∷◌, ◌++◌, map, ℕ, ◌+◌, max}
use Rattle.lists.specs.Order.{same}
use Rattle.lists.specs.Keyed.{keep, all_of, any_of, has, without}
use Rattle.manifest.specs.Operations.{Operation, create_table, drop_table, add_rowset, delete_rowset, add_vector, delete_vector, next_ids}
use Rattle.manifest.specs.Edits.{Table, table}
use Rattle.plain_record.specs.Sets.{by_id}
use Rattle.risinglight.specs.Maps.{Outcome, fails, ok, and_then}
use Rattle.risinglight.specs.Numbers.{wrapping, wrapping32}
use Rattle.risinglight.specs.Manifest.{Value, frame, replay}
use Rattle.risinglight.specs.VersionManager.{Inner, fresh, commit_changes}

-- `apply_create_table` refuses a name that is there, `apply_drop_table` a table that is not
abbrev pub apply_table : Operation → List Table → Outcome (List Table)
apply_table (create_table t h n) l = cond (any_of (λ (x : Table). same x.name n) l) fails (ok (table t h n ∷ l))
apply_table (drop_table t) l = cond (has by_id (t ∷ []) l) (ok (without by_id (t ∷ []) l)) fails
apply_table (add_rowset t r) l = ok l
apply_table (delete_rowset t r) l = ok l
apply_table (add_vector t r v) l = ok l
apply_table (delete_vector t r v) l = ok l
apply_table (next_ids t r v) l = ok l

abbrev pub apply_tables : List Operation → List Table → Outcome (List Table)
apply_tables [] l = ok l
apply_tables (o ∷ os) l = and_then (apply_table o l) (apply_tables os)

-- The loop of `bootstrap` over what `replay` gave, for each thing that it fills.
abbrev pub through : {A : Type 0} → (Operation → A → A) → List Operation → A → A
through f [] x = x
through f (o ∷ os) x = through f os (f o x)

pub record Rowset : Type 0 where
  pub table : ℕ
  pub rowset : ℕ

abbrev pub rowset : ℕ → ℕ → Rowset
rowset t r = record { table = t; rowset = r }

abbrev pub pair_of : Rowset → List ℕ
pair_of x = x.table ∷ x.rowset ∷ []

abbrev pub open_rowset : Operation → List Rowset → List Rowset
open_rowset (create_table t h n) l = l
open_rowset (drop_table t) l = l
open_rowset (add_rowset t r) l = rowset t r ∷ without pair_of (t ∷ r ∷ []) l
open_rowset (delete_rowset t r) l = without pair_of (t ∷ r ∷ []) l
open_rowset (add_vector t r v) l = l
open_rowset (delete_vector t r v) l = l
open_rowset (next_ids t r v) l = l

abbrev pub rowsets_to_open : List Operation → List Rowset → List Rowset
rowsets_to_open os l = through open_rowset os l

pub record Dv : Type 0 where
  pub table : ℕ
  pub rowset : ℕ
  pub dv : ℕ

abbrev pub dv : ℕ → ℕ → ℕ → Dv
dv t r v = record { table = t; rowset = r; dv = v }

abbrev pub triple_of : Dv → List ℕ
triple_of x = x.table ∷ x.rowset ∷ x.dv ∷ []

abbrev pub open_dv : Operation → List Dv → List Dv
open_dv (create_table t h n) l = l
open_dv (drop_table t) l = l
open_dv (add_rowset t r) l = l
open_dv (delete_rowset t r) l = l
open_dv (add_vector t r v) l = dv t r v ∷ without triple_of (t ∷ r ∷ v ∷ []) l
open_dv (delete_vector t r v) l = without triple_of (t ∷ r ∷ v ∷ []) l
open_dv (next_ids t r v) l = l

abbrev pub dvs_to_open : List Operation → List Dv → List Dv
dvs_to_open os l = through open_dv os l

-- every create and drop there ever was
abbrev pub is_of_table : Operation → Bool
is_of_table (create_table t h n) = true
is_of_table (drop_table t) = true
is_of_table (add_rowset t r) = false
is_of_table (delete_rowset t r) = false
is_of_table (add_vector t r v) = false
is_of_table (delete_vector t r v) = false
is_of_table (next_ids t r v) = false

abbrev pub table_changeset : List Operation → List Operation
table_changeset os = keep is_of_table os

-- what is opened is committed, and written anew; a rowset or vector whose table is not there panics
abbrev pub changeset : List Rowset → List Dv → List Operation → List Operation
changeset rs vs ts =
    map (λ (x : Rowset). add_rowset x.table x.rowset) rs ++ (map (λ (x : Dv). add_vector x.table x.rowset x.dv) vs ++ ts)

abbrev pub openable : List Table → List Rowset → List Dv → Bool
openable l rs vs = all_of (λ (x : Rowset). has by_id (x.table ∷ []) l) rs && all_of (λ (x : Dv). has by_id (x.table ∷ []) l) vs

-- `next_id` of rowsets and of vectors
pub record NextId : Type 0 where
  pub rowset : ℕ
  pub dv : ℕ

abbrev pub next_id : ℕ → ℕ → NextId
next_id r v = record { rowset = r; dv = v }

-- `fetch_max`: past every id that the manifest still adds
abbrev pub raise : Operation → NextId → NextId
raise (create_table t h n) x = x
raise (drop_table t) x = x
raise (add_rowset t r) x = next_id (max x.rowset (wrapping32 (r + 1))) x.dv
raise (delete_rowset t r) x = x
raise (add_vector t r v) x = next_id x.rowset (max x.dv (wrapping (v + 1)))
raise (delete_vector t r v) x = x
raise (next_ids t r v) x = x

abbrev pub raised : List Operation → NextId → NextId
raised os x = through raise os x

-- the catalog, the version manager, the next ids and the manifest
pub record Storage : Type 0 where
  pub catalog : List Table
  pub version : Inner
  pub next : NextId
  pub manifest : List Value

abbrev pub storage : List Table → Inner → NextId → List Value → Storage
storage c v n m = record { catalog = c; version = v; next = n; manifest = m }

-- `rewrite_changes`: committed by a manager that has nothing yet, into a new file
abbrev pub rewritten : List Table → NextId → List Operation → Outcome Storage
rewritten l n os = and_then (commit_changes os fresh) (λ m. ok (storage l m n (frame os)))

abbrev pub opened : List Operation → List Table → Outcome Storage
opened ops l =
    let rs = rowsets_to_open ops [] in
    let vs = dvs_to_open ops [] in
    cond (openable l rs vs) (rewritten l (raised ops (next_id 0 0)) (changeset rs vs (table_changeset ops))) fails

abbrev pub bootstrap : List Value → Outcome Storage
bootstrap file = and_then (apply_tables (replay file) []) (opened (replay file))
