-- `text::holds` meets its contract.
use Rattle.text.proofs.Round.{read-digits, read-converse, digits-fit}
use Rattle.text.proofs.holds.Goals as goal

pub returns : goal.returns
returns c = record { written = read-digits; read = read-converse; fit = digits-fit }
