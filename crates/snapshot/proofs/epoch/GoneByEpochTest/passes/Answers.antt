-- `snapshot::epoch::GoneByEpochTest::passes` meets its contract.
use borrow.Author.Tests.{eq-eqb, ne_eqb}
use Rattle.snapshot.specs.Entries.{gone_at}
use Rattle.snapshot.proofs.epoch.GoneByEpochTest.passes.Goals as goal

pub returns-then-deleted-ne0 : goal.returns-then-deleted-ne0
unfolding gone_at
returns-then-deleted-ne0 c = rw (ne_eqb _ _ c.if-deleted-ne0.true)

pub returns-else-deleted-ne0 : goal.returns-else-deleted-ne0
unfolding gone_at
returns-else-deleted-ne0 c = rw (eq-eqb _ _ c.if-deleted-ne0.false)
