-- `compactor::rowsets_now` meets its contract.
use mathlib.Core.Path.{◌≡◌}
use mathlib.Core.List.{map}
use Rattle.compactor.proofs.Selecting.{rowset_held}
use Rattle.compactor.proofs.rowsets_now.Given as goal

abbrev pub invariant-loop-rowset : goal.invariant-loop-rowset
invariant-loop-rowset l = l.rowsets.items ≡ map rowset_held l.yielded
