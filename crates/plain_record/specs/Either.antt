-- After a checkpoint either manifest may stand, the one that it replaced or the one that it handed out: a reopen finds the same sets. Assumes nothing.
use Rattle.std.specs.Prelude.{◌≡◌, Bool, true, List, [], ◌∷◌, ◌++◌, ℕ, ◌≤◌, length}
use Rattle.lists.specs.Keyed.{all_of}
use Rattle.version_manager.specs.Managers.{held_by}
use Rattle.rewrite.specs.Rewritten.{longest_rewritten}
use Rattle.replay.specs.Replay.{reopened}
use Rattle.storage.specs.declared.Reopened.{Reopened}
use Rattle.storage.specs.Reopen.{reopen_told}
use Rattle.plain_record.specs.Sets.{Sets}
use Rattle.plain_record.specs.Calls.{checkpoint}
use Rattle.plain_record.specs.Plain.{Plain, Id, at_start}
use Rattle.plain_record.specs.Run.{Steps, no_append, World, world, Event, is_accepted, Chain, Starts}
use Rattle.plain_record.specs.Shows.{ShowsTables, ShowsPairs, ShowsVectors}
use Rattle.plain_record.specs.Claim.{below_next, record_of}

-- what a reopen r shows: these sets at its epoch, with next ids that exceed these ids. The next ids themselves may differ from one manifest
-- to the other: a checkpoint writes those that were drawn, and a draw alone is in no append.
pub record Finds (S : Steps) (r : Reopened) (z : Sets) (ids : List Id) : Type 0 where
  pub accepted : is_accepted (reopen_told r.answer) ≡ true
  pub tables : ShowsTables S (world r.manager r.book [] [] no_append) reopened z.tables
  pub pairs : ShowsPairs S (world r.manager r.book [] [] no_append) reopened z.pairs
  pub vectors : ShowsVectors S (world r.manager r.book [] [] no_append) reopened z.vectors
  pub next : all_of (below_next (held_by r.manager)) ids ≡ true

-- every reopen of the manifest f that is lent enough
abbrev pub ReopensTo : Steps → Plain → List ℕ → Type 0
ReopensTo S p f = (out : List ℕ) (r : Reopened) (left : List ℕ) → longest_rewritten ≤ length out → S.reopen f out r left → Finds S r p.now p.added

-- after any calls and an accepted checkpoint: the record's last sets, from the manifest that was replaced and from the new one
abbrev pub EitherStands : Steps → Type 0
EitherStands S =
    (w : World) (es : List Event) (c : Event) (out : List ℕ) (stale : Bool)
    → Starts S w → Chain S w (es ++ (c ∷ []))
    → c.call ≡ checkpoint out stale → is_accepted c.told ≡ true
    → ReopensTo S (record_of at_start es).whole c.before.file × ReopensTo S (record_of at_start es).whole c.after.file
