-- `delete_vector::record::holds_record` meets its contract.
use Rattle.std.proofs.Common.{sym, ◌∙◌, arith, ne_eqb}
use Rattle.delete_vector.proofs.Bytes.{starts-none, starts-zero, starts-differ, starts-short, starts-key, starts-rest}
use Rattle.delete_vector.proofs.record.holds_record.Goals as goal

pub returns-in_default : goal.returns-in_default
returns-in_default c = sym (starts-none _ _ (omega arith) c.in_default.len_below)

pub returns-then-row-eq0 : goal.returns-then-row-eq0
returns-then-row-eq0 c = sym (starts-zero _ _ (omega arith) c.in-len1-up.len_at_least c.if-row-eq0.true)

pub returns-then-from-varint_size : goal.returns-then-from-varint_size
returns-then-from-varint_size c = sym (starts-differ _ _ (omega arith) c.in-len1-up.len_at_least c.if-row-eq0.false (λ e. omega arith))

pub returns-in_default-field : goal.returns-in_default-field
returns-in_default-field c = sym (starts-short _ _ (omega arith) c.in-len1-up.len_at_least c.if-row-eq0.false (omega arith) c.in_default-field.len_below)

pub returns-then-key-eq-KEY : goal.returns-then-key-eq-KEY
returns-then-key-eq-KEY c =
    c.holds_varint.ensures ∙ sym (starts-rest c.args.file.now c.args.row.0 (omega arith) c.in-len1-up.len_at_least c.if-row-eq0.false (omega arith) c.in-len1-up-field.len_at_least c.if-key-eq-KEY.true)

pub returns-else-key-eq-KEY : goal.returns-else-key-eq-KEY
returns-else-key-eq-KEY c =
    ne_eqb _ _ c.if-key-eq-KEY.false ∙ sym (starts-key _ _ (omega arith) c.in-len1-up.len_at_least c.if-row-eq0.false (omega arith) c.in-len1-up-field.len_at_least c.if-key-eq-KEY.false)
