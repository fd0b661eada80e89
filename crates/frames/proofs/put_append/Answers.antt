-- `frames::put_append` meets its contract.
use native.Mathlib.Omega.{arith}
use Rattle.lists.proofs.Written.{wrote_on, wrote-over}
use Rattle.frames.proofs.put_append.Goals as goal

pub returns : goal.returns
returns c =
    let p = c.requires in
    let i = wrote_on _ _ _ _ _ _ _ _ (omega (arith, p)) c.put_letter-i.ensures c.put_letter-i-2.ensures in
    let j = wrote_on _ _ _ _ _ _ _ _ (omega (arith, p)) i c.put_bytes-i.ensures in
    wrote-over _ _ _ _ (wrote_on _ _ _ _ _ _ _ _ (omega (arith, p)) j c.put_letter.ensures)
