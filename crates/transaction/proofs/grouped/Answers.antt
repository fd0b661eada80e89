-- `transaction::grouped` meets its contract.
use Rattle.std.proofs.Common.{map, length, refl, ap, ◌∙◌, arith}
use Rattle.std.proofs.lemmas.Result.{err_from_is_err_and}
use Rattle.transaction.specs.Groups.{handle_of}
use Rattle.transaction.proofs.Making.{same_vectors}
use Rattle.transaction.proofs.Outputs.{used-up, no_room, accepts}
use Rattle.transaction.proofs.grouped.Goals as goal

pub returns-then-next-count : goal.returns-then-next-count
returns-then-next-count c =
    let hs = map handle_of c.args.given.now.handles.now in
    let n = c.of-vectors.ensures.0.count ∙ ap length (same_vectors hs _ c.by_rowset.ensures) in
    used-up hs (length c.args.given.now.handles.now) c.args.next c.args.rs.now c.args.ls.now c.args.cs.now c.args.fs.now c.args.ms.now c.requires c.args.given.now.few (omega (arith, c.if-next-count.true))

pub returns-in_err-hand_out : goal.returns-in_err-hand_out
returns-in_err-hand_out c =
    let hs = map handle_of c.args.given.now.handles.now in
    let same = same_vectors hs _ c.by_rowset.ensures in
    let n = c.of-vectors.ensures.0.count ∙ ap length same in
    let w = c.in_err-hand_out.ensures _ c.of-vectors.ensures.0 c.of-vectors.ensures.1 in
    let p = err_from_is_err_and c.from_residual.result c.from_residual.ensures.1 in
    rw (p.1, p.2, w.0) (no_room hs (length c.args.given.now.handles.now) c.args.next c.args.rs.now c.args.ls.now c.args.cs.now c.args.fs.now c.args.ms.now c.requires c.args.given.now.few (omega (arith, c.if-next-count.false, c.ranges.next)) _ _ _ _ _ _
    (rw same at w.1) refl)

pub returns : goal.returns
returns c =
    let hs = map handle_of c.args.given.now.handles.now in
    let same = same_vectors hs _ c.by_rowset.ensures in
    let n = c.of-vectors.ensures.0.count ∙ ap length same in
    accepts hs (length c.args.given.now.handles.now) c.args.next c.args.rs.now c.args.ls.now c.args.cs.now c.args.fs.now c.args.ms.now c.requires c.args.given.now.few (omega (arith, c.if-next-count.false, c.ranges.next)) _ _ _ _ _ _
    (rw same at (c.in_ok-hand_out.ensures _ c.of-vectors.ensures.0 c.of-vectors.ensures.1)) refl _ n
