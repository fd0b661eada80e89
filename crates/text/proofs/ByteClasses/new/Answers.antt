-- `text::ByteClasses::new` meets its contract: the table's rule is a test at each of its 256 entries, which antt computes.
-- Assumes nothing.
use Rattle.lists.proofs.Tabled.{rule}
use Rattle.text.specs.Class.{class_of, is_digit, is_lower, is_capital}
use Rattle.text.proofs.ByteClasses.new.Goals as goal

pub invariant_of-result : goal.invariant_of-result
unfolding class_of is_digit is_lower is_capital
invariant_of-result c = record { right = record { rule = λ b h. rule class_of 256 b h } }
