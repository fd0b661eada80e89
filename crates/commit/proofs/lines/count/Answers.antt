-- `commit::lines::count` meets its contract.
use Rattle.std.proofs.Common.{rules, tests}
use Rattle.std.proofs.lemmas.Iterator.Consumers.{count_from_yields_List}
use Rattle.commit.proofs.Pieces.{YieldsList-from_pieces}
use Rattle.commit.proofs.lines.count.Goals as goal

pub returns : goal.returns
returns c =
    let s = c.split_inclusive in
    count_from_yields_List _ _ c.count.ensures.ran (YieldsList-from_pieces _ c.args.ops.now s.ensures.rest s.ensures.closure (λ x b q k. search (rules, tests)))
