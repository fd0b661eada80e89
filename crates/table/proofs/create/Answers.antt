-- `table::create` meets its contract.
use mathlib.Core.Path.{◌≡◌, sym, ◌∙◌}
use lib.ListN.{length}
use borrow.Author.Tests.{lt-ltb, le-ltb, le-leb, lt-leb}
use Rattle.ids.specs.Names.{name_of}
use Rattle.ids.specs.Verdicts.{judged}
use Rattle.version_state.specs.State.{state_of}
use Rattle.frames.specs.Frames.{texts_of}
use Rattle.table.specs.Create.{created_by, create_rules}
use Rattle.table.proofs.Judged.{made-no, made-yes, create_left, create-full, create-judged}
use Rattle.table.proofs.create.Goals as goal
use Rattle.table.proofs.create.Goals.{After-as_slice-2}

pub returns-then-inner-ge-MOST_TABLES : goal.returns-then-inner-ge-MOST_TABLES
returns-then-inner-ge-MOST_TABLES c =
    let named = rw c.as_slice.ensures at (sym c.is_name.ensures ∙ c.if-not-is_name.false) in
    made-no (create-full c.args.state.inner.now c.args.shape (name_of c.args.name) c.args.room named (sym c.taken.ensures ∙ c.if-taken.false) c.if-inner-ge-LAST_EPOCH.false c.if-inner-ge-MOST_TABLES.true)

made : (c : After-as_slice-2) → c.put_line.new.self ≡ texts_of (created_by (state_of c.args.state.inner.now) c.args.shape (name_of c.args.name))
made c = rw (c.clear.ensures, c.create_change.ensures.0) at c.put_line.ensures

left : (c : After-as_slice-2) → judged (create_rules (state_of c.args.state.inner.now) c.args.shape (name_of c.args.name) c.args.room) ≡ judged (create_left c.args.state.inner.now c.args.room (length c.as_slice-2.result.now))
left c =
    let named = rw c.as_slice.ensures at (sym c.is_name.ensures ∙ c.if-not-is_name.false) in
    create-judged c.args.state.inner.now c.args.shape (name_of c.args.name) c.args.room named (sym c.taken.ensures ∙ c.if-taken.false) c.if-inner-ge-LAST_EPOCH.false c.if-inner-ge-MOST_TABLES.false _ (c.as_slice-2.ensures ∙ made c)

pub returns-then-inner-size-gt-LONGEST_MANIFEST : goal.returns-then-inner-size-gt-LONGEST_MANIFEST
returns-then-inner-size-gt-LONGEST_MANIFEST c =
    made-no (left (goal.at.returns-then-inner-size-gt-LONGEST_MANIFEST c).After-as_slice-2 ∙ rw (lt-ltb _ _ c.if-inner-size-gt-LONGEST_MANIFEST.true))

pub returns-then-next-ge-LARGEST_32 : goal.returns-then-next-ge-LARGEST_32
returns-then-next-ge-LARGEST_32 c =
    made-no (left (goal.at.returns-then-next-ge-LARGEST_32 c).After-as_slice-2 ∙ rw (le-ltb _ _ c.if-inner-size-gt-LONGEST_MANIFEST.false, le-leb _ _ c.if-next-ge-LARGEST_32.true))

pub returns-then-room-size : goal.returns-then-room-size
returns-then-room-size c =
    made-no (left (goal.at.returns-then-room-size c).After-as_slice-2 ∙ rw (le-ltb _ _ c.if-inner-size-gt-LONGEST_MANIFEST.false, lt-leb _ _ c.if-next-ge-LARGEST_32.false, lt-ltb _ _ c.if-room-size.true))

pub returns : goal.returns
returns c =
    made-yes
    (left (goal.at.returns c).After-as_slice-2 ∙ rw (le-ltb _ _ c.if-inner-size-gt-LONGEST_MANIFEST.false, lt-leb _ _ c.if-next-ge-LARGEST_32.false, le-ltb _ _ c.if-room-size.false))
    (made (goal.at.returns c).After-as_slice-2)
