-- The book that pin and unpin leave passes 28. Assumes nothing.
use Rattle.std.specs.Prelude.{◌≡◌, false, ℕ}
use Rattle.pins.specs.declared.PinBook.{PinBook}
use Rattle.pins.specs.Book.{bad_book}
use Rattle.version_manager.specs.declared.VersionManager.{VersionManager}
use Rattle.pinning.specs.Says.{current, PinSays, UnpinSays, PinAnswer, UnpinAnswer}

pub record PinLaws : Type 0 where
  -- a book that 28 lets pass does so afterwards, whether the call was accepted or refused
  pub pin : (m : VersionManager) (b : PinBook) (a : PinAnswer) (b' : PinBook) → PinSays m b a b' → bad_book (current m) b ≡ false → bad_book (current m) b' ≡ false
  pub unpin : (m : VersionManager) (e : ℕ) (b : PinBook) (a : UnpinAnswer) (b' : PinBook) → UnpinSays m e b a b' → bad_book (current m) b ≡ false → bad_book (current m) b' ≡ false
