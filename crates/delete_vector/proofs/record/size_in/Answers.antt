-- `delete_vector::record::size_in` meets its contract.
use Rattle.std.proofs.Common.{arith}
use Rattle.delete_vector.proofs.Bytes.{size-first}
use Rattle.delete_vector.proofs.Records.{good}
use Rattle.delete_vector.proofs.record.size_in.Goals as goal

pub bounds-file-0 : goal.bounds-file-0
bounds-file-0 c = let g = good c.args.file.now c.requires in let p = g.positive in let f = g.fits in omega arith

pub returns : goal.returns
returns c = omega (arith, size-first c.args.file.now c.requires)
