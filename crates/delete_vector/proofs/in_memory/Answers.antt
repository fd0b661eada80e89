-- `delete_vector::in_memory` meets its contract.
use Rattle.std.proofs.Common.{length, sym, ap, arith}
use Rattle.delete_vector.proofs.InMemory.{memory-own}
use Rattle.delete_vector.proofs.Says.{memory-short, memory_done}
use Rattle.delete_vector.proofs.in_memory.Goals as goal

pub returns-then-out-rows : goal.returns-then-out-rows
returns-then-out-rows c = let n = ap length (memory-own c.args.rows.now (sym c.if-not-rises.ensures)) in memory-short _ _ (omega arith) (omega arith)

pub returns : goal.returns
returns c =
    let own = memory-own c.args.rows.now (sym c.if-not-rises.ensures) in
    let n = ap length own in
    memory_done _ _ _ _ (omega arith) (omega arith) (omega arith) (cc (own, c.copy_from_slice.ensures.after))
