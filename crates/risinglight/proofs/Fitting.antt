-- What the operations of an accepted commit find in the sets that were shown before them. Assumes nothing.
use mathlib.Core.Path.{◌≡◌, refl, sym, subst, ◌∙◌}
use mathlib.Core.Bool.{true, false}
use mathlib.Core.List.{List, [], ◌∷◌, map}
use Prim.Native.Nat.{ℕ, ◌+◌, ◌≤◌}
use native.Mathlib.Omega.{arith}
use borrow.Author.Tests.{ltb-true, ne_eqb}
use Rattle.std.specs.Prelude.{Result, Ok, Err}
use Rattle.lists.specs.Order.{same}
use Rattle.lists.specs.Keyed.{keep, any_of, has, is_at}
use Rattle.lists.proofs.Keyed.{all_map, none-any_of, any_of-map}
use Rattle.ids.specs.declared.refusal.Refusal.{Refusal}
use Rattle.ids.specs.Verdicts.{judged}
use Rattle.ids.specs.Results.{and_then}
use Rattle.manifest.specs.Operations.{Operation}
use Rattle.manifest.specs.Edits.{Edit, leaves, adds, deletes, Table, edits_of}
use Rattle.snapshot.specs.Entries.{Entry, shown_by}
use Rattle.snapshot.specs.Tables.{TableEntry}
use Rattle.version_state.specs.State.{State}
use Rattle.version_state.proofs.Facts.{Ordered}
use Rattle.operations.specs.Effect.{applied}
use Rattle.operations.specs.Judge.{op_rules}
use Rattle.operations.specs.Steps.{step_of, steps_of}
use Rattle.operations.proofs.Edits.{TableFits, EntryFits, fits}
use Rattle.operations.proofs.Keeps.{ordered-applied, Below, below-applied}
use Rattle.commit.proofs.Stepwise.{halt, step_given}
use Rattle.plain_record.specs.Sets.{Sets, by_id, itself, edit, apply}
use Rattle.plain_record.proofs.Invariant.{plain_table}
use Rattle.plain_record.proofs.CommitSets.{plain_at, apply_at}

-- what is added to the tables has a new id and a new name, and what is deleted is there
abbrev pub TableFinds : Edit Table → List Table → Type 0
TableFinds leaves l = Unit {0}
TableFinds (adds t) l = (has by_id (by_id t) l ≡ false) × (any_of (λ (x : Table). same x.name t.name) l ≡ false)
TableFinds (deletes k) l = has by_id k l ≡ true

abbrev pub Finds : Edit (List ℕ) → List (List ℕ) → Type 0
Finds leaves l = Unit {0}
Finds (adds k) l = Unit {0}
Finds (deletes k) l = has itself k l ≡ true

pub record FindsAt (o : Operation) (x : Sets) : Type 0 where
  pub pairs : Finds (edits_of o).pairs x.pairs
  pub vectors : Finds (edits_of o).vectors x.vectors

-- each finds what those before it left
abbrev pub FindsAll : List Operation → Sets → Type 0
FindsAll [] x = Unit {0}
FindsAll (o ∷ os) x = FindsAt o x × FindsAll os (apply o x)

abbrev pub TablesFind : List Operation → List Table → Type 0
TablesFind [] l = Unit {0}
TablesFind (o ∷ os) l = TableFinds (edits_of o).tables l × TablesFind os (edit by_id (edits_of o).tables l)

new-id : (n : ℕ) (l : List TableEntry) → Below n l → has by_id (n ∷ []) (map plain_table l) ≡ false
new-id n l b =
    any_of-map plain_table (is_at by_id (n ∷ [])) l
    ∙ none-any_of (λ (x : TableEntry). is_at by_id (n ∷ []) (plain_table x)) l
    (all_map l (λ (x : TableEntry) h. rw (ne_eqb x.table n (omega (arith, ltb-true x.table n h)))) b)

tables-find : (d : Edit Table) (s : State) → Below s.next_table s.tables → TableFits d s → TableFinds d (map plain_table s.tables)
tables-find leaves s b f = tt
tables-find (adds t) s b f = (
  subst (λ (n : ℕ). has by_id (n ∷ []) (map plain_table s.tables) ≡ false) (sym f.0) (new-id s.next_table s.tables b),
  any_of-map plain_table (λ (x : Table). same x.name t.name) s.tables ∙ f.1,
)
tables-find (deletes k) s b f = any_of-map plain_table (is_at by_id k) s.tables ∙ f

entries-find : (e : ℕ) (d : Edit (List ℕ)) (l : List Entry) → EntryFits e d l → Finds d (map (λ (x : Entry). x.ids) (keep (shown_by e) l))
entries-find e leaves l f = tt
entries-find e (adds k) l f = tt
entries-find e (deletes k) l f = any_of-map (λ (x : Entry). x.ids) (is_at itself k) (keep (shown_by e) l) ∙ f

-- what all operations of an accepted commit find
pub record Found (os : List Operation) (x : Sets) : Type 0 where
  pub ids : FindsAll os x
  pub tables : TablesFind os x.tables

found-one : (i e : ℕ) (o : Operation) (os : List Operation) (s : State) → Below s.next_table s.tables → judged (op_rules i e o s) ≡ Ok tt
    → Found os (apply o (plain_at e s)) → Found (o ∷ os) (plain_at e s)
found-one i e o os s b a g =
    let f = fits i e o s a in
    record {
      ids = (record { pairs = entries-find e (edits_of o).pairs s.pairs f.pairs; vectors = entries-find e (edits_of o).vectors s.vectors f.vectors }, g.ids);
      tables = (tables-find (edits_of o).tables s b f.tables, g.tables);
    }

pub found : (i e : ℕ) (os : List Operation) (s t : State) → 1 ≤ e → Ordered s → Below s.next_table s.tables → steps_of i e os s ≡ Ok t → Found os (plain_at e s)
found i e [] s t p r b h = record { ids = tt; tables = tt }
found i e (o ∷ os) s t p r b h =
    go (step_of i e o s) refl h (found (i + 1) e os (applied e o s) t p (ordered-applied e o s r) (below-applied e o s b))
  where
    go : (x : Result State Refusal) → step_of i e o s ≡ x → and_then x (λ u. steps_of (i + 1) e os u) ≡ Ok t
        → (steps_of (i + 1) e os (applied e o s) ≡ Ok t → Found os (plain_at e (applied e o s))) → Found (o ∷ os) (plain_at e s)
    go (Ok u) a h ih =
        let w = step_given i e o s u a in
        let g : steps_of (i + 1) e os (applied e o s) ≡ Ok t = subst (λ (v : State). steps_of (i + 1) e os v ≡ Ok t) (sym w.1) h in
        found-one i e o os s b w.0 (subst (Found os) (apply_at e o s p r) (ih g))
    go (Err k) a h ih = absurd (halt h)
