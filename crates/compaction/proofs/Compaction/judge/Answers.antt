-- `compaction::Compaction::judge` meets its contract.
use Rattle.std.proofs.Common.{rules}
use Rattle.compaction.proofs.Whole.{pairs_of}
use Rattle.compaction.proofs.Compaction.judge.Goals as goal

pub returns-then-is_some_and-3 : goal.returns-then-is_some_and-3
returns-then-is_some_and-3 c = rw (pairs_of c.args.self.now.state.inner.now) (search rules)

pub returns : goal.returns
returns c = rw (pairs_of c.args.self.now.state.inner.now) (search rules)
