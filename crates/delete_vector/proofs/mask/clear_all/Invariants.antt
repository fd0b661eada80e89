-- `delete_vector::mask::clear_all` meets its contract.
use Rattle.std.proofs.Common.{◌≡◌, drop}
use Rattle.delete_vector.specs.Memory.{is_in}
use Rattle.delete_vector.specs.Mask.{masked}
use Rattle.delete_vector.proofs.mask.clear_all.Given as goal

abbrev pub invariant-loop-row : goal.invariant-loop-row
invariant-loop-row l = masked (is_in (drop l.row-index l.rows)) l.offset.0 l.bits ≡ masked (is_in l.rows) l.offset.0 l.initial.bits
