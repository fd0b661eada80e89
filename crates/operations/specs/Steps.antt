-- One operation after another: each is judged on what the ones before it left. Assumes nothing.
use Rattle.std.specs.Prelude.{List, [], ◌∷◌, ℕ, ◌+◌, Result, Ok}
use Rattle.std.specs.Result.{result_and}
use Rattle.ids.specs.declared.refusal.Refusal.{Refusal}
use Rattle.ids.specs.Verdicts.{judged}
use Rattle.ids.specs.Results.{and_then}
use Rattle.manifest.specs.Operations.{Operation}
use Rattle.version_state.specs.State.{State}
use Rattle.operations.specs.Effect.{applied}
use Rattle.operations.specs.Judge.{op_rules}

-- one operation at epoch e, at place i
unfoldable pub step_of : ℕ → ℕ → Operation → State → Result State Refusal
step_of i e o s = result_and (judged (op_rules i e o s)) (Ok (applied e o s))

-- the operations in order at epoch e, the first at place i
abbrev pub steps_of : ℕ → ℕ → List Operation → State → Result State Refusal
steps_of i e [] s = Ok s
steps_of i e (o ∷ os) s = and_then (step_of i e o s) (λ t. steps_of (i + 1) e os t)
