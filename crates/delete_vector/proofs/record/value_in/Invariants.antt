-- `delete_vector::record::value_in` meets its contract.
use Rattle.std.proofs.Common.{◌≡◌, min, reverse, map}
use Rattle.delete_vector.specs.Encoding.{value_of}
use Rattle.delete_vector.specs.Records.{row_limit}
use Rattle.delete_vector.proofs.record.value_in.Given as goal

abbrev pub invariant-loop-group : goal.invariant-loop-group
invariant-loop-group l =
    (goal.iterator-loop-group).can_next l.group-iterator × (goal.iterator-loop-group).is_finite l.group-iterator × (l.value ≡ min (value_of (reverse (map (λ b. b.now) l.yielded))) row_limit)
