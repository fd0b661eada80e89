-- `snapshot::epoch::ShownByEpochTest::passes` meets its contract.
use mathlib.Core.Path.{ap}
use mathlib.Core.Bool.{not}
use borrow.Author.Tests.{le-leb, lt-leb}
use Rattle.snapshot.specs.Entries.{shown_at}
use Rattle.snapshot.proofs.epoch.ShownByEpochTest.passes.Goals as goal

pub returns-then-added-self : goal.returns-then-added-self
unfolding shown_at
returns-then-added-self c = rw (le-leb _ _ c.if-added-self.true) (ap not c.passes.ensures)

pub returns-else-added-self : goal.returns-else-added-self
unfolding shown_at
returns-else-added-self c = rw (lt-leb _ _ c.if-added-self.false)
