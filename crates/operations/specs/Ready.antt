-- What a step over a state says. All here is internal. Assumes nothing.
use Rattle.std.specs.Prelude.{◌≡◌, true, ℕ, ltb, Result, Ok, Err}
use Rattle.std.specs.Result.{result_and}
use Rattle.lists.specs.Keyed.{all_of, ascending}
use Rattle.ids.specs.declared.refusal.Refusal.{Refusal}
use Rattle.ids.specs.Verdicts.{judged, Verdict}
use Rattle.manifest.specs.Operations.{Operation}
use Rattle.snapshot.specs.Entries.{by_ids}
use Rattle.snapshot.specs.Tables.{by_table}
use Rattle.snapshot.specs.Views.{tables_of, rowsets_of, vectors_of}
use Rattle.version_state.specs.declared.VersionManagerInner.{VersionManagerInner}
use Rattle.version_state.specs.State.{State, Fit}
use Rattle.operations.specs.Effect.{applied}
use Rattle.operations.specs.Judge.{state_rules}

-- the outcome is the verdict v; what is left, where it is accepted, is t
unfoldable pub Leaves : Result State Refusal → Verdict → State → Type 0
Leaves (Ok s) v t = (v ≡ Ok tt) × (t ≡ s)
Leaves (Err k) v t = v ≡ Err k

-- a well-formed operation was judged on s, and applied where it is accepted
unfoldable pub Turned : ℕ → ℕ → Operation → State → Verdict → State → Type 0
Turned i e o s v t = Leaves (result_and (judged (state_rules i e o s)) (Ok (applied e o s))) v t

-- what a step needs: counts within the limits, lists that rise, and tables below the next id
pub record Ready (m : VersionManagerInner) : Type 0 where
  pub fits : Fit m
  pub tables : ascending by_table (tables_of m.tables) ≡ true
  pub pairs : ascending by_ids (rowsets_of m.rowsets) ≡ true
  pub vectors : ascending by_ids (vectors_of m.vectors) ≡ true
  pub below : all_of (λ t. ltb t.table m.next.table.0) (tables_of m.tables) ≡ true
