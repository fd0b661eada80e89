-- Create: it checks before it writes, commits a `T` with the next table id, and answers that id. Assumes nothing.
use Rattle.std.specs.Prelude.{not, List, [], ◌∷◌, ℕ, ◌+◌, leb, ltb, length}
use Rattle.ids.specs.Ids.{largest32}
use Rattle.ids.specs.Limits.{most_tables, last_epoch, longest_manifest}
use Rattle.ids.specs.declared.refusal.Refusal.TheVariants.{Malformed, NameTaken, EpochsFull, TablesFull, ManifestFull, IdsUsedUp, OutputTooShort}
use Rattle.ids.specs.Verdicts.{Rule, ◌⇒◌}
use Rattle.text.specs.Name.{is_name}
use Rattle.manifest.specs.Operations.{Operation}
use Rattle.snapshot.specs.Tables.{name_taken}
use Rattle.version_state.specs.State.{State}
use Rattle.commit.specs.Commit.{append_of}
use Rattle.table.specs.Made.{create_operations}

module _ (s : State) (shape : ℕ) (name : List ℕ) where
  abbrev pub created_by : List Operation
  created_by = create_operations s.next_table shape name

  -- 2, 15, 20, 21, 23, 26, 9, for a lent buffer of `room`; before them 29
  abbrev pub create_rules : ℕ → List Rule
  create_rules room =
      (not (is_name name) ⇒ Malformed 0)
      ∷ (name_taken name s.tables ⇒ NameTaken 0)
      ∷ (leb last_epoch s.epoch ⇒ EpochsFull)
      ∷ (leb most_tables (length s.tables) ⇒ TablesFull 0)
      ∷ (ltb longest_manifest (s.manifest + length (append_of created_by)) ⇒ ManifestFull)
      ∷ (leb largest32 s.next_table ⇒ IdsUsedUp)
      ∷ (ltb room (length (append_of created_by)) ⇒ OutputTooShort)
      ∷ []
