-- `show::gathered` meets its contract.
use mathlib.Core.Path.{◌≡◌}
use mathlib.Core.List.{map}
use Rattle.show.proofs.Says.{ids_in}
use Rattle.show.proofs.gathered.Given as goal

abbrev pub invariant-loop-one : goal.invariant-loop-one
invariant-loop-one g l = l.ids.items ≡ map ids_in l.yielded
