-- `version_state::VersionManagerInner::bad_with` meets its contract.
use Rattle.std.proofs.Common.{◌≡◌, false, rules}
use Rattle.version_state.specs.State.{state_of}
use Rattle.version_state.specs.Sound.{out_of_order}
use Rattle.version_state.proofs.Facts.{in_order, order-walks}
use Rattle.version_state.proofs.VersionManagerInner.bad_with.Goals as goal

pub left_behind-requires-clause-rises : goal.left_behind-requires-clause-rises
left_behind-requires-clause-rises c =
    let s = state_of c.args.self.now in
    let o : out_of_order s ≡ false = search rules in
    order-walks s (in_order s o)
