-- `delete_vector::record::put_varint` meets its contract.
use Rattle.std.proofs.Common.{refl, ◌∙◌, arith, length-set}
use Rattle.delete_vector.proofs.Bytes.{big-length, small-length, varint-put, varint-last}
use Rattle.delete_vector.proofs.record.put_varint.Goals as goal

pub loop-left-init : goal.loop-left-init
loop-left-init c = (refl, refl, refl)

pub bounds-out-i : goal.bounds-out-i
bounds-out-i c = omega (arith, big-length c.loop-left.left c.loop-left-test.true)

pub loop-left-preserved : goal.loop-left-preserved
loop-left-preserved c =
    let b = big-length c.loop-left.left c.loop-left-test.true in
    let v = c.loop-left.invariant in
    (varint-put _ _ _ c.loop-left-test.true (omega arith) ∙ v.0, omega arith, simp length-set v.2)

pub bounds-out-i-2 : goal.bounds-out-i-2
bounds-out-i-2 c = omega (arith, small-length c.loop-left.left c.loop-left-test.false)

pub shape_of-out : goal.shape_of-out
shape_of-out c = simp length-set c.loop-left.invariant.2

pub returns : goal.returns
returns c =
    let b = small-length c.loop-left.left c.loop-left-test.false in
    let v = c.loop-left.invariant in
    record { content = varint-last _ _ _ c.loop-left-test.false (omega arith) ∙ v.0; next = omega arith }
