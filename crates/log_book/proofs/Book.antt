-- The whole log book. Assumes nothing.
use Rattle.log_book.specs.LogBook.{LogBook}
use Rattle.log_book.proofs.Rows.{row-cases}
use Rattle.log_book.proofs.Vacuums.{vacuum-cases}
use Rattle.log_book.proofs.Manifests.{manifest-cases}
use Rattle.log_book.proofs.Pins.{pin-cases}
use Rattle.log_book.proofs.Selections.{selection-cases}

pub log-book : LogBook
log-book = record { rows = row-cases; vacuums = vacuum-cases; manifests = manifest-cases; pins = pin-cases; selections = selection-cases }
