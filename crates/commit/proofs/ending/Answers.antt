-- `commit::ending` meets its contract.
use Rattle.version_state.specs.State.{state_of}
use Rattle.version_state.proofs.Facts.{order-walks}
use Rattle.commit.proofs.ending.Goals as goal

pub left_behind-requires-clause-rises : goal.left_behind-requires-clause-rises
left_behind-requires-clause-rises c =
    let r = c.args.working.now.ready in
    order-walks (state_of c.args.working.now.inner.now) (record { tables = r.tables; pairs = r.pairs; vectors = r.vectors })
