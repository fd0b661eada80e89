use Rattle.std.proofs.lemmas.Result.{err_from_is_err_and}
use Rattle.replay.proofs.Turns.{end-refused, end-carries}
use Rattle.replay.proofs.sets.Sets.read_line.Goals as goal

pub returns-in_err-end_frame-in-End : goal.returns-in_err-end_frame-in-End
returns-in_err-end_frame-in-End c at f s k =
    let p = err_from_is_err_and c.from_residual.result c.from_residual.ensures.1 in
    rw (p.1, p.2, ← c.said.ensures, c.in-Some.is, c.in-End.is) (end-refused _ c.args.self.now at _ _ _ f (rw c.in-Some-begun.is at k) (rw (← c.said.ensures, c.in-Some.is, c.in-End.is) at s) _ c.in_err-end_frame-in-End.ensures)

pub returns-in_ok-end_frame-in-End : goal.returns-in_ok-end_frame-in-End
returns-in_ok-end_frame-in-End c at f s k =
    rw (← c.said.ensures, c.in-Some.is, c.in-End.is) (end-carries _ c.args.self.now at _ _ _ f (rw c.in-Some-begun.is at k) (rw (← c.said.ensures, c.in-Some.is, c.in-End.is) at s) _ c.in_ok-end_frame-in-End.ensures)
