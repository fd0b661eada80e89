-- `delete_vector::mask::clear` meets its contract.
use Rattle.std.proofs.Common.{ltb, sym, ◌∙◌, arith, ltb-false, ltb-true}
use Rattle.lists.proofs.Tests.{by_cases}
use Rattle.delete_vector.proofs.Masking.{is-below, masked_below, masked-past, masked-at}
use Rattle.delete_vector.proofs.mask.clear.Goals as goal

pub returns-then-i-bits : goal.returns-then-i-bits
returns-then-i-bits c =
    let row = c.args.row.0 in
    let offset = c.args.offset.0 in
    by_cases (ltb row offset)
    (λ b. sym (masked_below _ _ _ (ltb-true row offset b)))
    (λ b. sym (masked-past _ _ _ (omega (arith, ltb-false row offset b))))

pub returns-then-lt : goal.returns-then-lt
returns-then-lt c =
    let a = c.row_at-here.result.0 in
    let b = c.args.offset.0 in
    sym (masked_below _ _ _ (omega (arith, ltb-true a b (sym (is-below a b) ∙ sym c.lt.ensures ∙ c.if-lt.true))))

pub returns : goal.returns
returns c =
    let a = c.row_at-here.result.0 in
    let b = c.args.offset.0 in
    let l = ltb-false a b (sym (is-below a b) ∙ sym c.lt.ensures ∙ c.if-lt.false) in
    sym (masked-at _ _ _ _ (omega arith) (omega arith))
