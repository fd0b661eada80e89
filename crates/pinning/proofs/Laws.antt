-- What pin and unpin leave passes 28 where the book did. Assumes nothing.
use mathlib.Core.Path.{◌≡◌, refl}
use mathlib.Core.Bool.{false}
use mathlib.Core.List.{List}
use Prim.Native.Nat.{ℕ, ◌+◌}
use native.Mathlib.Omega.{arith}
use Rattle.std.specs.Prelude.{Ok, Err}
use Rattle.ids.specs.Verdicts.{Verdict}
use Rattle.pins.specs.declared.PinBook.{PinBook}
use Rattle.pins.specs.Book.{PinEntry, pins_of, place_on, bad_book, GoodBook, Keeps}
use Rattle.pins.specs.Counts.{pins_at, left_on, with_pin, without_pin}
use Rattle.pins.proofs.Facts.{book-good}
use Rattle.pins.proofs.Books.{good-recounted}
use Rattle.version_manager.specs.declared.VersionManager.{VersionManager}
use Rattle.pinning.specs.Says.{current, BookAfter, pin_verdict, unpin_verdict}
use Rattle.pinning.specs.Laws.{PinLaws}
use Rattle.pinning.proofs.Says.{pinnable, unpinnable}

-- an accepted pin leaves a good book
pub pinned-good : (m : VersionManager) (b b' : PinBook) → pin_verdict m b ≡ Ok tt → Keeps b' (with_pin (place_on (current m)) (pins_of b)) → GoodBook (current m) b'
pinned-good m b b' a k =
    let p = pinnable m b a in
    good-recounted (current m) (place_on (current m)) (pins_at (place_on (current m)) (pins_of b) + 1) b b' p.first-epoch (omega arith) p.good k

pub unpinned-good : (m : VersionManager) (e : ℕ) (b b' : PinBook) → unpin_verdict m e b ≡ Ok tt → Keeps b' (without_pin (place_on e) (pins_of b)) → GoodBook (current m) b'
unpinned-good m e b b' a k =
    let p = unpinnable m b e a in
    good-recounted (current m) (place_on e) (left_on (place_on e) (pins_of b)) b b' p.pins.first p.pins.last p.good k

-- the book afterwards, of either verdict
either_way : (d : Verdict) (c : ℕ) (b : PinBook) (l : List PinEntry) (b' : PinBook) → (d ≡ Ok tt → Keeps b' l → GoodBook c b') → BookAfter d b l b' → bad_book c b ≡ false → bad_book c b' ≡ false
either_way (Ok _) c b l b' f k h = book-good c b' (f refl k)
either_way (Err q) c b l b' f k h = rw k h

pub pin-laws : PinLaws
pin-laws =
    record {
      pin = λ m b a b' s h. either_way (pin_verdict m b) (current m) b (with_pin (place_on (current m)) (pins_of b)) b' (pinned-good m b b') s.book h;
      unpin = λ m e b a b' s h. either_way (unpin_verdict m e b) (current m) b (without_pin (place_on e) (pins_of b)) b' (unpinned-good m e b b') s.book h;
    }
