-- `compaction::compact` meets its contract.
use mathlib.Core.Path.{sym, ap, ◌∙◌}
use borrow.Author.Tests.{ltb-false}
use lib.ListN.{length}
use Rattle.compaction.specs.New.{new_of}
use Rattle.compaction.proofs.Whole.{state-refused, last-judged, refused, ended}
use Rattle.compaction.proofs.compact.Goals as goal

pub put-requires : goal.put-requires
put-requires c = ltb-false _ _ (sym c.is_long.ensures ∙ c.if-is_long.false)

pub returns-in_err-judge : goal.returns-in_err-judge
returns-in_err-judge c =
    let few = ltb-false _ _ (sym c.is_long.ensures ∙ c.if-is_long.false) in
    refused _ _ _ _ _ c.from_residual.ensures.1 (state-refused c.args.state.inner.now c.args.table.0 (new_of c.args.new) c.args.taken.now c.args.room (sym c.valid.ensures ∙ c.if-not-valid.false) few _ (sym c.judge.ensures ∙ c.in_err-judge.was))

pub returns : goal.returns
returns c =
    let few = ltb-false _ _ (sym c.is_long.ensures ∙ c.if-is_long.false) in
    let last = last-judged c.args.state.inner.now c.args.table.0 (new_of c.args.new) c.args.taken.now c.args.room (sym c.valid.ensures ∙ c.if-not-valid.false) few (length c.as_slice.result.now) (ap length (c.as_slice.ensures ∙ c.put.ensures)) (sym c.judge.ensures ∙ c.in_ok-judge.was) in
    ended _ _ _ _ c.put.ensures (last ∙ sym c.judge_append.ensures)
