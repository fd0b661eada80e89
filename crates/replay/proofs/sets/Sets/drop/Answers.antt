use Rattle.std.proofs.Common.{refl}
use Rattle.replay.proofs.Entries.{table-has, table-without}
use Rattle.replay.proofs.sets.Sets.drop.Goals as goal

pub returns-then-not-holds : goal.returns-then-not-holds
returns-then-not-holds c = rw (table-has, ← c.holds.ensures, c.if-not-holds.true) refl

pub returns : goal.returns
returns c = rw (table-has, ← c.holds.ensures, c.if-not-holds.false, c.remove.ensures.told, table-without) refl
