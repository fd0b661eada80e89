use Rattle.std.proofs.Common.{refl}
use Rattle.replay.proofs.Entries.{table-has}
use Rattle.replay.proofs.sets.Sets.clashes.Goals as goal

pub returns-then-holds : goal.returns-then-holds
returns-then-holds c = rw (table-has, ← c.holds.ensures, c.if-holds.true) refl

pub returns-else-holds : goal.returns-else-holds
returns-else-holds c = rw (table-has, ← c.holds.ensures, c.if-holds.false) c.name_taken.ensures
