-- Commit: its rules in order, what it leaves, and what it appends. Assumes nothing.
use Rattle.std.specs.Prelude.{◌≡◌, List, [], ◌∷◌, ◌++◌, ℕ, ◌+◌, leb, ltb, length, Result, Ok, Err}
use Rattle.std.specs.Result.{result_and}
use Rattle.lists.specs.Written.{over}
use Rattle.ids.specs.declared.refusal.Refusal.{Refusal}
use Rattle.ids.specs.declared.refusal.Refusal.TheVariants.{TooManyOperations, EpochsFull, LeftBehind, ManifestFull, OutputTooShort}
use Rattle.ids.specs.Verdicts.{Rule, ◌⇒◌, judged}
use Rattle.text.specs.Class.{newline}
use Rattle.manifest.specs.Operations.{Operation, torn}
use Rattle.manifest.specs.Lines.{line_text}
use Rattle.ids.specs.Limits.{last_epoch, longest_manifest, most_operations}
use Rattle.ids.specs.Results.{and_then}
use Rattle.version_state.specs.declared.VersionManagerInner.{VersionManagerInner}
use Rattle.version_state.specs.State.{State, with_epoch, Hands}
use Rattle.version_state.specs.Sound.{left_behind}
use Rattle.operations.specs.Steps.{steps_of}
use Rattle.frames.specs.Frames.{frame_of}

-- the bytes that a commit of os appends to the manifest: `!`, which ends the line that an append before it was cut off in, and a frame
abbrev pub append_of : List Operation → List ℕ
append_of os = line_text torn ++ (newline ∷ frame_of os)

-- before the operations, of which there are n: 6, 20
abbrev pub first_rules : State → ℕ → List Rule
first_rules s n = (ltb most_operations n ⇒ TooManyOperations 0) ∷ (leb last_epoch s.epoch ⇒ EpochsFull) ∷ []

-- after them, where they left s at epoch e: 17, 23, 9, for an append of n bytes and a lent buffer of `room`
abbrev pub last_rules : ℕ → State → ℕ → ℕ → List Rule
last_rules e s n room =
    (left_behind e s ⇒ LeftBehind)
    ∷ (ltb longest_manifest (s.manifest + n) ⇒ ManifestFull)
    ∷ (ltb room n ⇒ OutputTooShort)
    ∷ []

-- what is left is at the epoch e, its manifest longer by the append
abbrev pub finish_of : ℕ → List Operation → ℕ → State → Result State Refusal
finish_of e os room s =
    result_and (judged (last_rules e s (length (append_of os)) room)) (Ok (with_epoch s e (s.manifest + length (append_of os))))

-- the operations os, which number n, apply in order at the next epoch
abbrev pub commit_of : State → ℕ → List Operation → ℕ → Result State Refusal
commit_of s n os room = result_and (judged (first_rules s n)) (and_then (steps_of 0 (s.epoch + 1) os s) (finish_of (s.epoch + 1) os room))

-- Internal: a commit of os into the lent buffer answers the append's length, and leaves the state and the bytes to append; or a refusal,
-- and nothing written.
abbrev pub CommitIs : Result State Refusal → List Operation → List ℕ → Result ℕ Refusal → VersionManagerInner → List ℕ → Type 0
CommitIs (Ok s) os out r m out' = (r ≡ Ok (length (append_of os))) × Hands m s × (out' ≡ over (append_of os) out)
CommitIs (Err k) os out r m out' = (r ≡ Err k) × (out' ≡ out)
