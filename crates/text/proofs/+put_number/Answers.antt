-- `text::put_number` meets its contract.
use native.Mathlib.Omega.{arith}
use Prim.Native.Nat.{◌≤◌}
use Rattle.text.proofs.Decimal.{digits-small, digits-big, length-small, length-big}
use Rattle.lists.proofs.Written.{written_one, written-more}
use Rattle.text.proofs.+put_number.Goals as goal

pub returns-then-n-lt10 : goal.returns-then-n-lt10
returns-then-n-lt10 t c = record { next = omega (arith, length-small c.args.n c.if-n-lt10.true); content = rw (digits-small c.args.n c.if-n-lt10.true) (written_one _ _ _ (omega (arith, length-small c.args.n c.if-n-lt10.true))) }

pub returns-else-n-lt10 : goal.returns-else-n-lt10
returns-else-n-lt10 t c =
    let big : 10 ≤ c.args.n = omega arith in
    let l = length-big c.args.n big in
    let p = c.put_number-i.ensures in
    record { next = omega (arith, p.next); content = rw (p.content, p.next, digits-big c.args.n big) (written-more _ _ _ _ (omega arith)) }
