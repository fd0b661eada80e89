use Rattle.std.proofs.Common.{refl, rules}
use Rattle.replay.proofs.Entries.{table-put}
use Rattle.replay.proofs.sets.Sets.create.Goals as goal

pub returns-then-clashes : goal.returns-then-clashes
returns-then-clashes c = rw (← c.clashes.ensures, c.if-clashes.true) refl

pub returns : goal.returns
returns c = rw (← c.clashes.ensures, c.if-clashes.false, c.put.ensures.told, table-put, c.max.ensures) (search rules)
