-- `text::put_bytes` meets its contract.
use mathlib.Core.Path.{◌≡◌, refl}
use Prim.Native.Nat.{◌+◌, ◌-◌}
use lib.ListN.{length}
use lib.Seq.{drop-drop}
use native.Mathlib.Omega.{arith}
use Rattle.lists.specs.Written.{written}
use Rattle.text.proofs.put_bytes.Goals as goal

pub returns : goal.returns
unfolding written
returns c =
    let k : c.args.at + length c.args.src.now - c.args.at ≡ length c.args.src.now = omega arith in
    let e = c.copy_from_slice.ensures.after in
    record { content = rw (e, k, drop-drop); next = refl }
