-- `vacuum::write` meets its contract.
use mathlib.Core.Path.{◌≡◌}
use mathlib.Core.List.{map}
use Prim.Native.Nat.{ℕ}
use lib.ListN.{take}
use Rattle.lists.specs.Written.{over}
use Rattle.vacuum.proofs.write.Given as goal

abbrev pub invariant-loop-i : goal.invariant-loop-i
invariant-loop-i l =
    (l.tables ≡ over (take l.i (map (λ (x : ℕ × ℕ × ℕ). x.1) l.gone)) l.initial.tables)
    × (l.rowsets ≡ over (take l.i (map (λ (x : ℕ × ℕ × ℕ). x.2) l.gone)) l.initial.rowsets)
