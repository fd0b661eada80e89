-- The loop of `host::arguments::handles`.
use Rattle.std.proofs.Common.{◌≡◌, length, map, take}
use Rattle.transaction.specs.Groups.{handle_of}
use Rattle.transaction.specs.Says.{most_handles}
use Rattle.host.specs.Arguments.{handle_in}
use Rattle.host.proofs.arguments.handles.Given as goal

abbrev pub invariant-loop-i : goal.invariant-loop-i
invariant-loop-i l = record {
  full : length l.items ≡ most_handles;
  handled : take l.i (map handle_of l.items) ≡ take l.i (map handle_in l.numbers);
}
