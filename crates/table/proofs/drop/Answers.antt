-- `table::drop` meets its contract.
use mathlib.Core.Path.{◌≡◌, sym, ◌∙◌}
use lib.ListN.{length}
use borrow.Author.Tests.{lt-ltb, le-ltb}
use Rattle.ids.specs.Verdicts.{judged}
use Rattle.version_state.specs.State.{state_of}
use Rattle.table.specs.Drop.{drop_rules}
use Rattle.table.proofs.Judged.{made-no, made-yes, drop_left, drop-judged}
use Rattle.table.proofs.drop.Goals as goal
use Rattle.table.proofs.drop.Goals.{After-as_slice}

left : (c : After-as_slice) → judged (drop_rules (state_of c.args.state.inner.now) c.args.table.0 c.args.room) ≡ judged (drop_left c.args.state.inner.now c.args.room (length c.as_slice.result.now))
left c =
    drop-judged c.args.state.inner.now c.args.table.0 c.args.room (sym c.is_id.ensures ∙ c.if-not-is_id.false) (sym c.holds.ensures ∙ c.if-not-holds.false) c.if-inner-ge-LAST_EPOCH.false _ (c.as_slice.ensures ∙ c.put.ensures)

pub returns-then-inner-size-gt-LONGEST_MANIFEST : goal.returns-then-inner-size-gt-LONGEST_MANIFEST
returns-then-inner-size-gt-LONGEST_MANIFEST c =
    made-no (left (goal.at.returns-then-inner-size-gt-LONGEST_MANIFEST c).After-as_slice ∙ rw (lt-ltb _ _ c.if-inner-size-gt-LONGEST_MANIFEST.true))

pub returns-then-room-size : goal.returns-then-room-size
returns-then-room-size c =
    made-no (left (goal.at.returns-then-room-size c).After-as_slice ∙ rw (le-ltb _ _ c.if-inner-size-gt-LONGEST_MANIFEST.false, lt-ltb _ _ c.if-room-size.true))

pub returns : goal.returns
returns c =
    made-yes
    (left (goal.at.returns c).After-as_slice ∙ rw (le-ltb _ _ c.if-inner-size-gt-LONGEST_MANIFEST.false, le-ltb _ _ c.if-room-size.false))
    c.put.ensures
