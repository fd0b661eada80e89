use Rattle.std.proofs.lemmas.Result.{err_from_is_err_and}
use Rattle.replay.proofs.Reading.{going-end, going-lies, going-other, going-well, going-stop, going-on}
use Rattle.replay.proofs.sets.Sets.apply_frame.Goals as goal

pub operation-requires : goal.operation-requires
operation-requires c = going-lies _ _ _ _ _ c.loop-number.invariant _ c.next.new.self c.next.ensures.steps _ c.in-Some.is

pub returns-in_default : goal.returns-in_default
returns-in_default c = going-other _ _ _ _ _ c.loop-number.invariant _ c.next.new.self c.next.ensures.steps _ c.in-Some.is c.in_default.ensures

pub apply-requires-clause-well : goal.apply-requires-clause-well
apply-requires-clause-well c = going-well _ _ _ _ _ c.loop-number.invariant _ c.next.new.self c.next.ensures.steps _ c.in-Some.is _ c.in-Some-operation.ensures

pub returns-in_err-apply : goal.returns-in_err-apply
returns-in_err-apply c =
    let p = err_from_is_err_and c.from_residual.result c.from_residual.ensures.1 in
    rw (p.1, p.2) (going-stop _ _ _ _ _ c.loop-number.invariant _ c.next.new.self c.next.ensures.steps _ c.in-Some.is _ c.in-Some-operation.ensures _ c.in_err-apply.ensures)

pub loop-number-preserved : goal.loop-number-preserved
loop-number-preserved c = going-on _ _ _ _ _ c.loop-number.invariant _ c.next.new.self c.next.ensures.steps _ c.in-Some.is _ c.in-Some-operation.ensures _ c.in_ok-apply.ensures

pub returns : goal.returns
returns c = going-end _ _ _ _ _ c.loop-number.invariant _ c.next.new.self c.next.ensures.steps c.in-None.is
