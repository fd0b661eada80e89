-- `columns::place` meets its contract: what it looks for is between low and high.
use mathlib.Core.Path.{◌≡◌}
use mathlib.Core.Bool.{true, false}
use Prim.Native.Nat.{ℕ, ◌+◌, ◌-◌, ◌≤◌, ◌<◌}
use Rattle.columns.proofs.place.Given as goal

abbrev pub invariant-loop-low : goal.invariant-loop-low
invariant-loop-low g l = record {
  ordered : l.low ≤ l.high;
  inside : l.high ≤ l.count;
  below : (i : ℕ) → i + 1 ≡ l.low → goal.F-post g l.before i true;
  above : l.high < l.count → goal.F-post g l.before l.high false;
}

abbrev pub decreases-loop-low : goal.decreases-loop-low
decreases-loop-low g l = l.high - l.low
