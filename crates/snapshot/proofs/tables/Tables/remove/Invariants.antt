-- `snapshot::tables::Tables::remove` meets its contract.
use mathlib.Core.Path.{◌≡◌}
use mathlib.Core.Bool.{not}
use mathlib.Core.List.{[], ◌∷◌}
use Prim.Native.Nat.{◌≤◌}
use Rattle.lists.specs.Keyed.{is_at}
use Rattle.snapshot.specs.Tables.{by_table}
use Rattle.snapshot.specs.Views.{tables_of}
use Rattle.snapshot.proofs.Packed.{Packing}
use Rattle.snapshot.proofs.tables.Tables.remove.Given as goal

abbrev pub invariant-loop-i : goal.invariant-loop-i
invariant-loop-i l = record {
  count : l.self.count ≡ l.initial.self.count;
  behind : l.left ≤ l.i;
  packed : Packing (λ x. not (is_at by_table (l.table.0 ∷ []) x)) (tables_of l.initial.self) l.i l.left (tables_of l.self);
}
