-- `vacuum::counted` meets its contract.
use mathlib.Core.Path.{ap}
use mathlib.Core.Logic.{inl}
use native.Mathlib.Omega.{arith}
use lib.ListN.{length}
use Rattle.vacuum.proofs.Arranged.{gone-few}
use Rattle.vacuum.proofs.counted.Goals as goal

pub count-requires-clause-fits : goal.count-requires-clause-fits
count-requires-clause-fits c = inl (omega (arith, ap length c.gone.ensures, gone-few c.args.epoch c.args.rowsets.now))
