-- `vacuum::listed` meets its contract.
use mathlib.Core.Path.{◌≡◌}
use mathlib.Core.List.{map}
use Rattle.vacuum.proofs.Arranged.{listed_as}
use Rattle.vacuum.proofs.listed.Given as goal

abbrev pub invariant-loop-rowset : goal.invariant-loop-rowset
invariant-loop-rowset l = l.gone.items ≡ map listed_as l.yielded
