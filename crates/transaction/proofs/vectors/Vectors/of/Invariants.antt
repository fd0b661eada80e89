-- `transaction::vectors::Vectors::of` meets its contract.
use Rattle.std.proofs.Common.{map}
use Rattle.std.specs.Slice.Iter.{chunk_by_rest}
use Rattle.transaction.specs.Groups.{handle_of}
use Rattle.transaction.proofs.Making.{Filling}
use Rattle.transaction.proofs.vectors.Vectors.of.Given as goal

abbrev pub invariant-loop-run : goal.invariant-loop-run
invariant-loop-run l =
    (goal.iterator-loop-run).can_next l.run-iterator × (goal.iterator-loop-run).is_finite l.run-iterator
    × Filling (map handle_of l.ordered.handles.now) (map handle_of (chunk_by_rest l.run-iterator)) l.at l.vectors
