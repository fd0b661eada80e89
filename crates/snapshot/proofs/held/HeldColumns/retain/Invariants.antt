-- `snapshot::held::HeldColumns::retain` meets its contract.
use Prim.Native.Nat.{◌≤◌}
use mathlib.Core.Bool.{Bool}
use mathlib.Core.Path.{◌≡◌}
use Rattle.snapshot.specs.Entries.{Entry}
use Rattle.snapshot.specs.Found.{Tests}
use Rattle.snapshot.specs.Views.{entry_of}
use Rattle.snapshot.proofs.Packed.{Packing}
use Rattle.snapshot.proofs.held.HeldColumns.retain.Given as goal

abbrev pub invariant-loop-i : goal.invariant-loop-i
invariant-loop-i g l = record {
  callable : goal.F-IsAlwaysCallable g l.test;
  count : g.Self.Counted.count l.self ≡ g.Self.Counted.count l.initial.self;
  behind : l.left ≤ l.i;
  packed : (p : Entry → Bool) → Tests (goal.F-post g l.test) (entry_of g.Self.Ids.HeldIds.numbers) p → Packing p (g.Self.Counted.entries l.initial.self) l.i l.left (g.Self.Counted.entries l.self);
}
