-- The numbers and places of the refusals, and their text. Assumes nothing.
use Rattle.std.specs.Prelude.{ℕ, List, ◌++◌, codes}
use Rattle.std.specs.Fmt.{decimal}
use Rattle.ids.specs.declared.refusal.Refusal.{Refusal}
use Rattle.ids.specs.declared.refusal.Refusal.TheVariants.{ManifestTooLong, Malformed, TableConflict, OverLimit, RowsetWithoutTable, TooManyOperations, BadRecord, WrongCount, OutputTooShort, PinAtEpochZero, TableNotLive, PairNotShown, VectorNotShown, IdNotDrawn, NameTaken, StillHeld, LeftBehind, PinsFull, PinnedEpochsFull, EpochsFull, TablesFull, HeldFull, ManifestFull, EpochNotPinned, LockHeld, IdsUsedUp, LockNotHeld, BadPinBook, BadManager, NotReportable}

abbrev pub number_of : Refusal → ℕ
number_of ManifestTooLong = 1
number_of (Malformed p) = 2
number_of (TableConflict p) = 3
number_of (OverLimit p) = 4
number_of RowsetWithoutTable = 5
number_of (TooManyOperations p) = 6
number_of (BadRecord p) = 7
number_of WrongCount = 8
number_of OutputTooShort = 9
number_of PinAtEpochZero = 10
number_of (TableNotLive p) = 11
number_of (PairNotShown p) = 12
number_of (VectorNotShown p) = 13
number_of (IdNotDrawn p) = 14
number_of (NameTaken p) = 15
number_of (StillHeld p) = 16
number_of LeftBehind = 17
number_of PinsFull = 18
number_of PinnedEpochsFull = 19
number_of EpochsFull = 20
number_of (TablesFull p) = 21
number_of (HeldFull p) = 22
number_of ManifestFull = 23
number_of EpochNotPinned = 24
number_of LockHeld = 25
number_of IdsUsedUp = 26
number_of LockNotHeld = 27
number_of BadPinBook = 28
number_of BadManager = 29
number_of NotReportable = 31

-- 0 where a refusal has no place
abbrev pub place_of : Refusal → ℕ
place_of ManifestTooLong = 0
place_of (Malformed p) = p
place_of (TableConflict p) = p
place_of (OverLimit p) = p
place_of RowsetWithoutTable = 0
place_of (TooManyOperations p) = p
place_of (BadRecord p) = p
place_of WrongCount = 0
place_of OutputTooShort = 0
place_of PinAtEpochZero = 0
place_of (TableNotLive p) = p
place_of (PairNotShown p) = p
place_of (VectorNotShown p) = p
place_of (IdNotDrawn p) = p
place_of (NameTaken p) = p
place_of (StillHeld p) = p
place_of LeftBehind = 0
place_of PinsFull = 0
place_of PinnedEpochsFull = 0
place_of EpochsFull = 0
place_of (TablesFull p) = p
place_of (HeldFull p) = p
place_of ManifestFull = 0
place_of EpochNotPinned = 0
place_of LockHeld = 0
place_of IdsUsedUp = 0
place_of LockNotHeld = 0
place_of BadPinBook = 0
place_of BadManager = 0
place_of NotReportable = 0

-- as it is printed: `refused`, its number and its place
abbrev pub text_of : Refusal → List ℕ
text_of r = codes "refused," ++ decimal (number_of r) ++ codes "," ++ decimal (place_of r)
