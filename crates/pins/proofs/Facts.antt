-- What 28 tells as facts. Assumes nothing.
use mathlib.Core.Path.{◌≡◌}
use mathlib.Core.Bool.{false, not, ◌&&◌}
use Prim.Native.Nat.{ℕ}
use lib.Dec.{ltb}
use borrow.Author.Tests.{ltb-false, le-ltb, not-false}
use Rattle.lists.specs.Keyed.{all_of, ascending}
use Rattle.lists.proofs.Tests.{both, neither}
use Rattle.pins.specs.declared.PinBook.{PinBook}
use Rattle.pins.specs.Book.{pins_of, by_place, most_pinned, valid_pin, bad_book, GoodBook}

pub good_book : (e : ℕ) (b : PinBook) → bad_book e b ≡ false → GoodBook e b
good_book e b h =
    let a = neither (ltb most_pinned b.count) (not (all_of (valid_pin e) (pins_of b) && ascending by_place (pins_of b))) h in
    let d = both (all_of (valid_pin e) (pins_of b)) (ascending by_place (pins_of b)) (not-false _ a.1) in
    record { fits = ltb-false most_pinned b.count a.0; valid = d.0; ordered = d.1 }

pub book-good : (e : ℕ) (b : PinBook) → GoodBook e b → bad_book e b ≡ false
book-good e b g = rw (le-ltb most_pinned b.count g.fits, g.valid, g.ordered)
