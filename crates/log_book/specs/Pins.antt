-- Entries on pins. Assumes nothing.
use Rattle.std.specs.Prelude.{◌≡◌, []}
use Rattle.pins.specs.declared.PinBook.{PinBook}
use Rattle.version_manager.specs.declared.Opened.{Opened}
use Rattle.version_manager.specs.Managers.{FreshSays}
use Rattle.pinning.specs.Says.{pin_told, PinSays, PinAnswer}

pub record PinCases : Type 0 where
  -- what a pin of a fresh manager and its book answers
  pub fresh : (r : Opened) → FreshSays r → (a : PinAnswer) (b : PinBook) → PinSays r.manager r.book a b
      → pin_told a ≡ record { number = 10; place = 0; values = [] }
