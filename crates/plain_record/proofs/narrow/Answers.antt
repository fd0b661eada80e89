-- `plain_record::narrow` meets its contract.
use native.Mathlib.Omega.{arith}
use Rattle.plain_record.proofs.narrow.Goals as goal

pub returns : goal.returns
returns c =
    let g = c.well_formed.0.1.1.0.1.1.1.0 in
    record { table = omega (arith, g); rowset = omega (arith, g); vector = omega (arith, g) }
