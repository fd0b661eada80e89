-- `vacuum::vacuum` meets its contract.
use Rattle.std.proofs.Common.{length, refl, sym, ap, ◌∙◌}
use Rattle.version_state.specs.State.{state_of}
use Rattle.version_state.proofs.Facts.{sound-of}
use Rattle.vacuum.proofs.Says.{too-short, accepts}
use Rattle.vacuum.proofs.vacuum.Goals as goal

pub returns-then-tables-count : goal.returns-then-tables-count
returns-then-tables-count c =
    too-short (state_of c.args.inner.now) c.args.book.now c.args.tables.now c.args.rowsets.now c.args.inner.now c.listed-gone.result.items c.bound-bound.result _ c.bound-bound.ensures
    c.len-count.ensures.value c.listed-gone.ensures (sym c.bad.ensures ∙ c.if-bad.false) c.then-tables-count.either (record { fits = (sound-of c.args.inner.now c.requires).fits; state = refl })

pub returns : goal.returns
returns c =
    accepts (state_of c.args.inner.now) c.args.book.now c.args.tables.now c.args.rowsets.now _ c.as_slice.result.now c.bound-bound.result _ c.bound-bound.ensures
    (c.len-count.ensures.value ∙ sym (ap length c.as_slice.ensures.value)) (c.as_slice.ensures.value ∙ c.listed-gone.ensures) (sym c.bad.ensures ∙ c.if-bad.false) _ _ c.if-tables-count.false c.if-rowsets-count.false c.write.ensures.tables c.write.ensures.rowsets c.let_go.ensures
