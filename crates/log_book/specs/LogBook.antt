-- The log book: the worked cases of the specification, by the part of it that they are about. Assumes nothing.
use Rattle.log_book.specs.Rows.{RowCases}
use Rattle.log_book.specs.Vacuums.{VacuumCases}
use Rattle.log_book.specs.Manifests.{ManifestCases}
use Rattle.log_book.specs.Pins.{PinCases}
use Rattle.log_book.specs.Selections.{SelectionCases}

pub record LogBook : Type 0 where
  pub rows : RowCases
  pub vacuums : VacuumCases
  pub manifests : ManifestCases
  pub pins : PinCases
  pub selections : SelectionCases
