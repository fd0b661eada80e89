-- `commit::lines::steps` meets its contract.
use mathlib.Core.Path.{◌∙◌}
use Rattle.std.proofs.Common.{rules, tests}
use Rattle.std.proofs.lemmas.List.{length_push}
use Rattle.std.proofs.lemmas.Result.{err_from_is_err_and}
use Rattle.commit.specs.Lent.{operations_in}
use Rattle.commit.proofs.Calls.{go_on, go-off, gone}
use Rattle.commit.proofs.Pieces.{piece-well, pieces-turn, pieces-end}
use Rattle.commit.proofs.lines.steps.Goals as goal

pub step-requires : goal.step-requires
step-requires c = rw c.said.ensures (piece-well c.in-Some.piece.now)

pub loop-i-preserved : goal.loop-i-preserved
loop-i-preserved c =
    let t = pieces-turn c.into_iter-i-iterator.result _ c.args.ops.now (cc) (cc) c.loop-i.yielded c.loop-i.i-iterator c.loop-i.yielded_by _ c.next.new.self c.next.ensures.steps (c.in-Some.i, c.in-Some.piece) c.in-Some.is (λ x b q k. search (rules, tests)) in
    let g = rw t.1 at c.loop-i.invariant.0 in
    let d = rw (c.said.ensures, t.0, c.loop-i.invariant.1.1) at c.in_ok-step.ensures.told in
    rw (length_push c.loop-i.yielded (c.in-Some.i, c.in-Some.piece)) (go_on _ _ (operations_in c.args.ops.now) _ _ _ _ _ g d, (c.in_ok-step.ensures.same.0 ∙ c.loop-i.invariant.1.0, c.in_ok-step.ensures.same.1 ∙ c.loop-i.invariant.1.1))

pub returns-in_err-step-clause-told : goal.returns-in_err-step-clause-told
returns-in_err-step-clause-told c =
    let p = err_from_is_err_and c.from_residual.result c.from_residual.ensures.1 in
    let t = pieces-turn c.into_iter-i-iterator.result _ c.args.ops.now (cc) (cc) c.loop-i.yielded c.loop-i.i-iterator c.loop-i.yielded_by _ c.next.new.self c.next.ensures.steps (c.in-Some.i, c.in-Some.piece) c.in-Some.is (λ x b q k. search (rules, tests)) in
    let g = rw t.1 at c.loop-i.invariant.0 in
    let d = rw (c.said.ensures, t.0, c.loop-i.invariant.1.1) at c.in_err-step.ensures.told in
    rw (p.1, p.2) (go-off _ _ (operations_in c.args.ops.now) _ _ _ _ _ g _ d)

pub returns-clause-told : goal.returns-clause-told
returns-clause-told c =
    let e = pieces-end c.into_iter-i-iterator.result _ c.args.ops.now (cc) (cc) c.loop-i.yielded c.loop-i.i-iterator c.loop-i.yielded_by _ c.next.new.self c.next.ensures.steps c.in-None.is (λ x b q k. search (rules, tests)) in
    gone _ c.args.working.now.epoch (operations_in c.args.ops.now) 0 _ (rw e at c.loop-i.invariant.0)
