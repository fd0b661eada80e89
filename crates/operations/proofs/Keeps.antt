-- What an accepted operation keeps: order, tables below the next id, lengths within the limits. Assumes nothing.
use mathlib.Core.Path.{◌≡◌}
use mathlib.Core.Bool.{true}
use mathlib.Core.List.{List}
use Prim.Native.Nat.{ℕ, ◌≤◌}
use native.Mathlib.Omega.{arith}
use lib.Dec.{ltb}
use lib.ListN.{length}
use borrow.Author.Tests.{ltb-true, lt-ltb}
use Rattle.std.specs.Prelude.{Ok}
use Rattle.lists.specs.Keyed.{ascending}
use Rattle.lists.proofs.Keyed.{All, all_map, ascend-to, ascend-from}
use Rattle.ids.specs.Limits.{most_tables, most_held}
use Rattle.ids.specs.Verdicts.{judged, Verdict}
use Rattle.manifest.specs.Operations.{Operation, well_formed}
use Rattle.manifest.specs.Edits.{Edit, edits_of}
use Rattle.snapshot.specs.Entries.{Entry, by_ids}
use Rattle.snapshot.specs.Tables.{TableEntry, by_table}
use Rattle.version_state.specs.State.{State}
use Rattle.version_state.proofs.Facts.{Ordered}
use Rattle.version_state.specs.Sets.{next_of}
use Rattle.operations.specs.Effect.{edited, marked, as_entry, raised, applied}
use Rattle.operations.specs.Judge.{op_rules}
use Rattle.operations.specs.Steps.{step_of}
use Rattle.operations.specs.Ready.{Leaves, Turned}
use Rattle.operations.proofs.Edits.{adds_map, all-edited, ascending-edited, ascending-marked, rises, passed, fits, short-edited, short-marked}

ordered-marked : (e : ℕ) (d : Edit (List ℕ)) (l : List Entry) → ascending by_ids l ≡ true → ascending by_ids (marked e d l) ≡ true
ordered-marked e d l h = ascend-from by_ids (marked e d l) (ascending-marked e d l (ascend-to by_ids l h))

pub ordered-applied : (e : ℕ) (o : Operation) (s : State) → Ordered s → Ordered (applied e o s)
ordered-applied e o s r =
    let d = edits_of o in
    record {
      tables = ascend-from by_table (edited by_table as_entry d.tables s.tables) (ascending-edited by_table as_entry d.tables s.tables (ascend-to by_table s.tables r.tables));
      pairs = ordered-marked e d.pairs s.pairs r.pairs;
      vectors = ordered-marked e d.vectors s.vectors r.vectors;
    }

-- the tables' ids are below n
abbrev pub Below : ℕ → List TableEntry → Type 0
Below n l = All (λ x. ltb x.table n ≡ true) l

pub below-applied : (e : ℕ) (o : Operation) (s : State) → Below s.next_table s.tables → Below (applied e o s).next_table (applied e o s).tables
below-applied e o s b =
    let d = edits_of o in
    let x = next_of s in
    let m = (raised d x).table in
    let up = (rises d x).table in
    all-edited by_table as_entry (λ t. ltb t.table m ≡ true) d.tables s.tables (adds_map d.tables (λ t. lt-ltb t.id m) (passed d x).tables)
    (all_map s.tables (λ t k. lt-ltb t.table m (omega (arith, ltb-true t.table s.next_table k))) b)

-- the lists are within the limits
pub record Short (s : State) : Type 0 where
  pub tables : length s.tables ≤ most_tables
  pub pairs : length s.pairs ≤ most_held
  pub vectors : length s.vectors ≤ most_held

pub short-applied : (i e : ℕ) (o : Operation) (s : State) → judged (op_rules i e o s) ≡ Ok tt → Short s → Short (applied e o s)
short-applied i e o s a r =
    let d = edits_of o in
    let f = fits i e o s a in
    record {
      tables = short-edited as_entry d.tables s f.tables r.tables;
      pairs = short-marked e d.pairs s.pairs f.pairs r.pairs;
      vectors = short-marked e d.vectors s.vectors f.vectors r.vectors;
    }

-- a well-formed operation is judged by its rules on the state alone
pub turned_step : (i e : ℕ) (o : Operation) (s : State) (v : Verdict) (t : State) → well_formed o ≡ true → Turned i e o s v t → Leaves (step_of i e o s) v t
unfolding step_of Turned
turned_step i e o s v t f h = rw f h
