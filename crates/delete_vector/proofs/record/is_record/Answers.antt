-- `delete_vector::record::is_record` meets its contract.
use Rattle.std.proofs.Common.{sym, ◌∙◌, arith}
use Rattle.delete_vector.proofs.Files.{over-limit, judge}
use Rattle.delete_vector.proofs.record.is_record.Goals as goal

pub returns-in_default : goal.returns-in_default
returns-in_default c = let n = c.in_default.ensures in sym (over-limit _ _ c.row_in.ensures (omega arith))

pub returns : goal.returns
returns c = let e = c.in-Ok.ensures in c.holds_record.ensures ∙ sym (judge _ _ (e.1 ∙ c.row_in.ensures) (omega arith))
