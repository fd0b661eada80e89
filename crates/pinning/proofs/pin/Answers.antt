-- `pinning::pin` meets its contract.
use mathlib.Core.Path.{◌≡◌, sym, ◌∙◌}
use Rattle.pinning.specs.Says.{pin_verdict}
use Rattle.pinning.proofs.Says.{two-passed, pin-early, pin-late, pinnable, pin-refuses, pin-accepts}
use Rattle.pinning.proofs.pin.Goals as goal
use Rattle.pinning.proofs.pin.Goals.{After-judge_pin}

-- what the rest decides, where 29 and 28 let pass
rest : (c : After-judge_pin) → pin_verdict c.args.manager c.args.book.now ≡ c.judge_pin.result
rest c =
    pin-late c.args.manager c.args.book.now _ _ c.pins_at-pins.ensures c.is_full.ensures (sym c.judge.ensures ∙ c.in_ok-judge.was) ∙ sym c.judge_pin.ensures

pub returns-in_err-judge : goal.returns-in_err-judge
returns-in_err-judge c =
    pin-refuses c.args.manager c.args.book.now _ _ c.from_residual.ensures.1 (pin-early c.args.manager c.args.book.now _ (sym c.judge.ensures ∙ c.in_err-judge.was))

pub pins_at-pins-requires : goal.pins_at-pins-requires
pins_at-pins-requires c = (two-passed c.args.manager c.args.book.now (sym c.judge.ensures ∙ c.in_ok-judge.was)).ordered

pub returns-in_err-judge_pin : goal.returns-in_err-judge_pin
returns-in_err-judge_pin c =
    pin-refuses c.args.manager c.args.book.now _ _ c.from_residual-in_err-judge_pin.ensures.1 (rest (goal.at.returns-in_err-judge_pin c).After-judge_pin ∙ c.in_err-judge_pin.was)

pub recount-requires : goal.recount-requires
recount-requires c =
    let p = pinnable c.args.manager c.args.book.now (rest (goal.at.recount-requires c).After-judge_pin ∙ c.in_ok-judge_pin.was) in
    (p.good.fits, p.good.ordered, p.place)

pub returns : goal.returns
returns c =
    pin-accepts c.args.manager c.args.book.now _ (rest (goal.at.returns c).After-judge_pin ∙ c.in_ok-judge_pin.was) (rw c.pins_at-pins.ensures at c.recount.ensures)
