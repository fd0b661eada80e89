-- `transaction::vectors::put_rows` meets its contract.
use Rattle.std.proofs.Common.{◌≡◌, map, take}
use Rattle.transaction.specs.Groups.{Handle, handle_of}
use Rattle.transaction.proofs.vectors.put_rows.Given as goal

abbrev pub invariant-loop-i : goal.invariant-loop-i
invariant-loop-i l = take l.i l.out ≡ take l.i (map (λ (h : Handle). h.row) (map handle_of l.handles))
