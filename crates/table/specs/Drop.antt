-- Drop: it commits the table's deletion, and that of all its vectors and rowsets. Assumes nothing.
use Rattle.std.specs.Prelude.{not, List, [], ◌∷◌, ℕ, ◌+◌, leb, ltb, length}
use Rattle.ids.specs.Ids.{is_id32}
use Rattle.ids.specs.Limits.{last_epoch, longest_manifest}
use Rattle.ids.specs.declared.refusal.Refusal.TheVariants.{Malformed, TableNotLive, EpochsFull, ManifestFull, OutputTooShort}
use Rattle.ids.specs.Verdicts.{Rule, ◌⇒◌}
use Rattle.manifest.specs.Operations.{Operation}
use Rattle.version_state.specs.State.{State, pairs_at, vectors_at}
use Rattle.operations.specs.Judge.{is_live}
use Rattle.commit.specs.Commit.{append_of}
use Rattle.table.specs.Made.{drop_operations}

module _ (s : State) (t : ℕ) where
  abbrev pub dropped_by : List Operation
  dropped_by = drop_operations t (pairs_at s.epoch s) (vectors_at s.epoch s)

  -- 2, 11, 20, 23, 9, for a lent buffer of `room`; before them 29
  abbrev pub drop_rules : ℕ → List Rule
  drop_rules room =
      (not (is_id32 t) ⇒ Malformed 0)
      ∷ (not (is_live t s) ⇒ TableNotLive 0)
      ∷ (leb last_epoch s.epoch ⇒ EpochsFull)
      ∷ (ltb longest_manifest (s.manifest + length (append_of dropped_by)) ⇒ ManifestFull)
      ∷ (ltb room (length (append_of dropped_by)) ⇒ OutputTooShort)
      ∷ []
