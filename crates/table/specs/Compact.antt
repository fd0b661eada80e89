-- A compaction's commit: the new rowset, of which there is one or none, is added, and the taken ones go with the vectors over them. Assumes nothing.
use Rattle.std.specs.Prelude.{Bool, not, ◌&&◌, List, [], ◌∷◌, ◌++◌, ℕ, ◌+◌, leb, ltb, length}
use Rattle.lists.specs.Keyed.{all_of, any_of, has, ascending}
use Rattle.ids.specs.Ids.{is_id32}
use Rattle.ids.specs.Limits.{most_operations, most_held, last_epoch, longest_manifest}
use Rattle.ids.specs.declared.refusal.Refusal.TheVariants.{Malformed, TooManyOperations, TableNotLive, PairNotShown, IdNotDrawn, StillHeld, EpochsFull, HeldFull, ManifestFull, LockNotHeld, OutputTooShort}
use Rattle.ids.specs.Verdicts.{Rule, ◌⇒◌}
use Rattle.manifest.specs.Operations.{Operation}
use Rattle.snapshot.specs.Entries.{by_ids}
use Rattle.version_state.specs.State.{State, vectors_at}
use Rattle.operations.specs.Judge.{is_live, is_shown}
use Rattle.commit.specs.Commit.{append_of}
use Rattle.table.specs.Made.{by_number, compact_operations}
use Rattle.transaction_manager.specs.Locks.{is_locked}

module _ (s : State) (t : ℕ) where
  -- 23, 27, 9, for an append of n bytes and a lent buffer of `room`
  abbrev pub compact_last : ℕ → ℕ → List Rule
  compact_last n room =
      (ltb longest_manifest (s.manifest + n) ⇒ ManifestFull)
      ∷ (not (is_locked t s) ⇒ LockNotHeld)
      ∷ (ltb room n ⇒ OutputTooShort)
      ∷ []

  module _ (new taken : List ℕ) where
    abbrev pub compacted_by : List Operation
    compacted_by = compact_operations t new taken (vectors_at s.epoch s)

    -- every id below its width's largest value, the taken ones rising
    abbrev pub valid_compaction : Bool
    valid_compaction = is_id32 t && (all_of is_id32 new && (all_of is_id32 taken && ascending by_number taken))

    -- 2, 6
    abbrev pub compact_input : List Rule
    compact_input =
        (not valid_compaction ⇒ Malformed 0)
        ∷ (ltb most_operations (length compacted_by) ⇒ TooManyOperations 0)
        ∷ []

    -- 11, 12, 14, 16, 20, 22
    abbrev pub compact_state : List Rule
    compact_state =
        (not (is_live t s) ⇒ TableNotLive 0)
        ∷ (not (all_of (λ r. is_shown s.epoch (t ∷ r ∷ []) s.pairs) taken) ⇒ PairNotShown 0)
        ∷ (any_of (λ r. leb s.next_rowset r) new ⇒ IdNotDrawn 0)
        ∷ (any_of (λ r. has by_ids (t ∷ r ∷ []) s.pairs) new ⇒ StillHeld 0)
        ∷ (leb last_epoch s.epoch ⇒ EpochsFull)
        ∷ (any_of (λ r. leb most_held (length s.pairs)) new ⇒ HeldFull 0)
        ∷ []

    -- all of them, in this order; before them 29
    abbrev pub compact_rules : ℕ → List Rule
    compact_rules room = compact_input ++ (compact_state ++ compact_last (length (append_of compacted_by)) room)
