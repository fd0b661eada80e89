-- `frames::put_letter` meets its contract.
use native.Mathlib.Omega.{arith}
use Rattle.lists.proofs.Written.{wrote_on}
use Rattle.frames.proofs.put_letter.Goals as goal

pub returns : goal.returns
returns c = wrote_on _ _ _ _ _ _ _ _ (omega (arith, c.requires)) c.put_byte-i.ensures c.put_byte.ensures
