use Rattle.std.proofs.lemmas.Result.{err_from_is_err_and}
use Rattle.replay.proofs.Turns.{reading-start, reading-end, reading-lies, reading-stop, reading-on}
use Rattle.replay.proofs.sets.Sets.read.Goals as goal

pub loop-i-init : goal.loop-i-init
loop-i-init c =
    rw c.into_iter-i-iterator.ensures.into_iter_gives
    (reading-start _ _ c.enumerate-i-items.result (rw c.enumerate-i-items.ensures.source c.lines_from.ensures.src) (rw c.enumerate-i-items.ensures.source c.lines_from.ensures.at) c.enumerate-i-items.ensures.count c.requires.start c.requires.room)

pub returns : goal.returns
returns c = reading-end _ _ _ _ c.loop-i.invariant _ c.next.new.self c.next.ensures.steps c.in-None.is

pub read_line-requires-clause-lies : goal.read_line-requires-clause-lies
read_line-requires-clause-lies c = reading-lies _ _ _ _ c.loop-i.invariant _ c.next.new.self c.next.ensures.steps _ c.in-Some.is

pub returns-in_err-begun : goal.returns-in_err-begun
returns-in_err-begun c =
    let p = err_from_is_err_and c.from_residual.result c.from_residual.ensures.1 in
    rw (p.1, p.2) (reading-stop _ _ _ _ c.loop-i.invariant _ c.next.new.self c.next.ensures.steps _ c.in-Some.is c.read_line.new.self _ c.in_err-begun.ensures)

pub loop-i-preserved : goal.loop-i-preserved
loop-i-preserved c = reading-on _ _ _ _ c.loop-i.invariant _ c.next.new.self c.next.ensures.steps _ c.in-Some.is _ _ c.in_ok-begun.ensures
