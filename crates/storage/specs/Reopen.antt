-- Reopen: from a manifest's bytes to a manager, an empty pin book and the rewritten manifest. Assumes nothing.
use Rattle.std.specs.Prelude.{◌≡◌, List, [], ◌∷◌, ℕ, length, Result, Ok, Err}
use Rattle.std.specs.Result.{result_and}
use Rattle.lists.specs.Written.{over}
use Rattle.ids.specs.declared.refusal.Refusal.{Refusal}
use Rattle.ids.specs.Verdicts.{judged}
use Rattle.ids.specs.Answers.{Told, told}
use Rattle.ids.specs.Results.{and_then}
use Rattle.version_state.specs.State.{State, start}
use Rattle.pins.specs.Book.{Keeps}
use Rattle.version_manager.specs.Managers.{Manages}
use Rattle.rewrite.specs.Rewritten.{rewritten_of}
use Rattle.rewrite.specs.Says.{rewrite_rules, with_rewritten}
use Rattle.replay.specs.Replay.{replay_of}
use Rattle.storage.specs.declared.Reopened.{Reopened}

-- the manifest of what is handed out is the rewritten one
abbrev pub opened_of : ℕ → State → Result State Refusal
opened_of room s = result_and (judged (rewrite_rules room s)) (Ok (with_rewritten s))

-- the state of the manager that a reopen hands out, for a lent buffer of `room`: 1, the lines in order, 5, 9
abbrev pub reopen_of : List ℕ → ℕ → Result State Refusal
reopen_of src room = and_then (replay_of src) (opened_of room)

-- the rewritten manifest's length
abbrev pub ReopenAnswer : Type 0
ReopenAnswer = Result ℕ Refusal

abbrev pub reopen_told : ReopenAnswer → Told
reopen_told (Ok n) = told (Ok tt) (n ∷ [])
reopen_told (Err k) = told (Err k) []

-- beside a refusal stand a fresh manager and an empty book, since a struct must hold something; they are not handed on
abbrev pub ReopenIs : Result State Refusal → List ℕ → Reopened → List ℕ → Type 0
ReopenIs (Ok s) out r out' =
    (reopen_told r.answer ≡ told (Ok tt) (s.manifest ∷ []))
    × Manages r.manager s
    × Keeps r.book []
    × (out' ≡ over (rewritten_of s) out)
ReopenIs (Err k) out r out' =
    (reopen_told r.answer ≡ told (Err k) [])
    × Manages r.manager start
    × Keeps r.book []
    × (out' ≡ out)

-- what a reopen of the bytes src into the lent buffer says
abbrev pub ReopenSays : List ℕ → List ℕ → Reopened → List ℕ → Type 0
ReopenSays src out r out' = ReopenIs (reopen_of src (length out)) out r out'
