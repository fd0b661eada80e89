-- `delete_vector::record::holds_varint` meets its contract.
use Rattle.std.proofs.Common.{eqb, sym, ap, ◌∙◌, eq-eqb, ne_eqb}
use Rattle.delete_vector.proofs.Bytes.{starts-end, starts-big, starts-small}
use Rattle.delete_vector.proofs.record.holds_varint.Goals as goal

pub returns-then-left-lt128 : goal.returns-then-left-lt128
returns-then-left-lt128 c =
    ap (λ b. eqb b c.loop-byte.left) c.from.ensures ∙ sym (starts-small _ _ _ c.if-left-lt128.true c.loop-byte-test.true) ∙ c.loop-byte.invariant

pub returns-then-from-left : goal.returns-then-from-left
returns-then-from-left c = sym (starts-big _ _ _ c.if-left-lt128.false c.loop-byte-test.true ∙ rw (← c.from-in-loop-byte.ensures, ne_eqb _ _ c.if-from-left.true)) ∙ c.loop-byte.invariant

pub loop-byte-preserved : goal.loop-byte-preserved
loop-byte-preserved c = sym (starts-big _ _ _ c.if-left-lt128.false c.loop-byte-test.true ∙ rw (← c.from-in-loop-byte.ensures, eq-eqb _ _ c.if-from-left.false)) ∙ c.loop-byte.invariant

pub returns : goal.returns
returns c = sym (starts-end _ _ _ c.loop-byte-test.false) ∙ c.loop-byte.invariant
