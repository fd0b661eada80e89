-- No refusal has the number of an accepted call. Assumes nothing.
use mathlib.Core.Path.{◌≡◌, refl}
use mathlib.Core.Bool.{false}
use lib.Dec.{eqb}
use Rattle.ids.specs.declared.refusal.Refusal.{Refusal}
use Rattle.ids.specs.declared.refusal.Refusal.TheVariants.{ManifestTooLong, Malformed, TableConflict, OverLimit, RowsetWithoutTable, TooManyOperations, BadRecord, WrongCount, OutputTooShort, PinAtEpochZero, TableNotLive, PairNotShown, VectorNotShown, IdNotDrawn, NameTaken, StillHeld, LeftBehind, PinsFull, PinnedEpochsFull, EpochsFull, TablesFull, HeldFull, ManifestFull, EpochNotPinned, LockHeld, IdsUsedUp, LockNotHeld, BadPinBook, BadManager, NotReportable}
use Rattle.ids.specs.Refusals.{number_of}

pub refused-number : (k : Refusal) → eqb (number_of k) 0 ≡ false
refused-number ManifestTooLong = refl
refused-number (Malformed p) = refl
refused-number (TableConflict p) = refl
refused-number (OverLimit p) = refl
refused-number RowsetWithoutTable = refl
refused-number (TooManyOperations p) = refl
refused-number (BadRecord p) = refl
refused-number WrongCount = refl
refused-number OutputTooShort = refl
refused-number PinAtEpochZero = refl
refused-number (TableNotLive p) = refl
refused-number (PairNotShown p) = refl
refused-number (VectorNotShown p) = refl
refused-number (IdNotDrawn p) = refl
refused-number (NameTaken p) = refl
refused-number (StillHeld p) = refl
refused-number LeftBehind = refl
refused-number PinsFull = refl
refused-number PinnedEpochsFull = refl
refused-number EpochsFull = refl
refused-number (TablesFull p) = refl
refused-number (HeldFull p) = refl
refused-number ManifestFull = refl
refused-number EpochNotPinned = refl
refused-number LockHeld = refl
refused-number IdsUsedUp = refl
refused-number LockNotHeld = refl
refused-number BadPinBook = refl
refused-number BadManager = refl
refused-number NotReportable = refl
