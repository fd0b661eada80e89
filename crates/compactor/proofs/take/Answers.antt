-- `compactor::take` meets its contract.
use Rattle.compactor.proofs.Taking.{taking-start, taking-one, taking-none, taking-done}
use Rattle.compactor.proofs.take.Goals as goal

pub loop-i-init : goal.loop-i-init
loop-i-init c = taking-start c.args.target c.args.rowsets.now c.args.sizes.now

pub loop-i-preserved : goal.loop-i-preserved
loop-i-preserved c =
    let n = c.loop-i in
    elim c.if-size-left.branch [
      | goal.then-size-left w ↦ rw (w.rowsets-is, w.left-is, w.count-is) (taking-one c.args.target c.args.rowsets.now c.args.sizes.now n.i n.count n.left n.rowsets c.loop-i-test.true c.requires n.invariant w.if-size-left.true)
      | goal.else-size-left w ↦ rw (w.rowsets-is, w.left-is, w.count-is) (taking-none c.args.target c.args.rowsets.now c.args.sizes.now n.i n.count n.left n.rowsets c.loop-i-test.true c.requires n.invariant w.if-size-left.false)
    ]

pub returns-clause-told : goal.returns-clause-told
returns-clause-told c = taking-done c.args.target c.args.rowsets.now c.args.sizes.now c.loop-i.i c.loop-i.count c.loop-i.left c.loop-i.rowsets c.loop-i-test.false c.loop-i.invariant
