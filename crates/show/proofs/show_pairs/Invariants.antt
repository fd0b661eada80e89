-- `show::show_pairs` meets its contract.
use Rattle.version_state.specs.State.{state_of, pairs_at}
use Rattle.show.proofs.Says.{Fronts}
use Rattle.show.proofs.show_pairs.Given as goal

abbrev pub invariant-loop-i : goal.invariant-loop-i
invariant-loop-i l =
    let m = pairs_at l.epoch (state_of l.state.inner.now) in
    Fronts m 0 l.initial.tables l.i l.tables × Fronts m 1 l.initial.rowsets l.i l.rowsets
