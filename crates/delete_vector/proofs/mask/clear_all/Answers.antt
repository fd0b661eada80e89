-- `delete_vector::mask::clear_all` meets its contract.
use Rattle.std.proofs.Common.{◌+◌, drop, sym, ap, ◌∙◌}
use Rattle.delete_vector.specs.Memory.{is_in}
use Rattle.delete_vector.specs.Mask.{masked}
use Rattle.delete_vector.proofs.Masking.{masked-turn, masked-end}
use Rattle.delete_vector.proofs.mask.clear_all.Goals as goal

pub loop-row-preserved : goal.loop-row-preserved
loop-row-preserved c =
    let i = c.loop-row.row-index in
    ap (λ m. masked (is_in (drop (i + 1) c.args.rows.now)) c.args.offset.0 m) c.clear.ensures
    ∙ sym (masked-turn c.args.rows.now i c.args.offset.0 c.loop-row.bits c.loop-row-test.true)
    ∙ c.loop-row.invariant

pub returns : goal.returns
returns c = masked-end c.args.rows.now c.loop-row.row-index c.args.offset.0 c.loop-row.bits c.loop-row-test.false ∙ c.loop-row.invariant
