-- `vacuum::write` meets its contract.
use Rattle.std.proofs.Common.{◌≡◌, ℕ, ◌+◌, ◌<◌, ◌≤◌, List, map, length, get_or, take, set, arith}
use lib.ListN.{length-map, get_or-map}
use Rattle.lists.specs.Written.{over}
use Rattle.lists.proofs.Written.{over-turn}
use Rattle.vacuum.proofs.write.Goals as goal

-- one more of a column
turn : (f : ℕ × ℕ × ℕ → ℕ) (gone : List (ℕ × ℕ × ℕ)) (s t : List ℕ) (i : ℕ) → i < length gone → length gone ≤ length s → t ≡ over (take i (map f gone)) s
    → set t i (f (get_or gone i (0, 0, 0))) ≡ over (take (i + 1) (map f gone)) s
turn f gone s t i h r e =
    let l = length-map gone f in
    rw (e, ← get_or-map f gone i (0, 0, 0)) (over-turn s (map f gone) i (f (0, 0, 0)) (omega arith) (omega arith))

pub loop-i-preserved : goal.loop-i-preserved
loop-i-preserved c = (
  turn (λ x. x.1) c.args.gone.now c.args.tables.now c.loop-i.tables c.loop-i.i c.loop-i-test.true c.requires.tables c.loop-i.invariant.0,
  turn (λ x. x.2) c.args.gone.now c.args.rowsets.now c.loop-i.rowsets c.loop-i.i c.loop-i-test.true c.requires.rowsets c.loop-i.invariant.1,
)
