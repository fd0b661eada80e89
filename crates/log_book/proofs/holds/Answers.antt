-- `log_book::holds` meets its contract.
use Rattle.log_book.proofs.Book.{log-book}
use Rattle.log_book.proofs.holds.Goals as goal

pub returns : goal.returns
returns c = log-book
