-- `text::ByteClasses::read_number` meets its contract.
use Prim.Native.Nat.{◌≤◌}
use mathlib.Core.Path.{◌≡◌}
use Rattle.text.specs.Decimal.{read_at}
use Rattle.text.proofs.Decimal.{read_from}
use Rattle.text.proofs.ByteClasses.read_number.Given as goal

abbrev pub invariant-loop-i : goal.invariant-loop-i
invariant-loop-i l = (l.n ≤ l.limit) × (read_from l.limit l.s l.n l.i ≡ read_at l.limit l.s l.at)
