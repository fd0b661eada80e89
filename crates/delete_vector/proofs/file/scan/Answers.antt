-- `delete_vector::file::scan` meets its contract.
use Rattle.std.proofs.Common.{sym, ◌∙◌, arith}
use borrow.Author.Tests.{eqb-false, eqb-true}
use Rattle.delete_vector.proofs.Files.{after-less, scan-bad, scan-turn, scan-end}
use Rattle.delete_vector.proofs.Records.{good}
use Rattle.delete_vector.proofs.file.scan.Goals as goal

pub returns-then-not-is_record : goal.returns-then-not-is_record
returns-then-not-is_record c =
    let n = eqb-false _ _ (sym c.loop-rest-test.ensures) in
    sym (scan-bad c.loop-rest.rest.now _ (omega arith) _ (sym c.if-not-is_record.ensures)) ∙ c.loop-rest.invariant.1

pub slice_bounds-rest-count : goal.slice_bounds-rest-count
slice_bounds-rest-count c = let f = (good c.loop-rest.rest.now (sym c.if-not-is_record.ensures)).fits in omega arith

pub slice_bounds-rest-start : goal.slice_bounds-rest-start
slice_bounds-rest-start c = let f = (good c.loop-rest.rest.now (sym c.if-not-is_record.ensures)).fits in omega arith

pub loop-rest-smaller : goal.loop-rest-smaller
loop-rest-smaller c = after-less _ _ (sym c.if-not-is_record.ensures) (sym c.size_in.ensures)

pub loop-rest-preserved : goal.loop-rest-preserved
loop-rest-preserved c =
    let n = eqb-false _ _ (sym c.loop-rest-test.ensures) in
    scan-turn c.args.file.now c.loop-rest.rest.now c.loop-rest.count c.size_in.result _ (omega arith) (sym c.if-not-is_record.ensures) (sym c.size_in.ensures) c.loop-rest.invariant.0 c.loop-rest.invariant.1

pub returns : goal.returns
returns c = sym (scan-end c.loop-rest.rest.now _ _ (eqb-true _ _ (sym c.loop-rest-test.ensures))) ∙ c.loop-rest.invariant.1
