-- The laws of counts, of 28 as the epoch rises, and of guards. Assumes nothing.
use Rattle.std.specs.Prelude.{◌≡◌, true, false, cond, not, List, ℕ, ◌≤◌, leb}
use Rattle.lists.specs.Order.{same}
use Rattle.pins.specs.declared.PinBook.{PinBook}
use Rattle.pins.specs.declared.Place.{Place}
use Rattle.pins.specs.Book.{PinEntry, place_key, bad_book}
use Rattle.pins.specs.Guards.{Guards, may_show, blocked, bound}
use Rattle.pins.specs.Counts.{pins_at, recounted}

pub record BookLaws : Type 0 where
  -- a count that is changed is its place's alone
  pub counts : (k j : Place) (n : ℕ) (l : List PinEntry) → pins_at j (recounted k n l) ≡ cond (same (place_key k) (place_key j)) n (pins_at j l)
  -- a book that 28 lets pass still passes when the epoch rises
  pub later : (e d : ℕ) (b : PinBook) → e ≤ d → bad_book e b ≡ false → bad_book d b ≡ false
  -- no epoch that may be shown is below the bound
  pub shows : (g : Guards) (d : ℕ) → may_show g d ≡ true → bound g ≤ d
  -- a vacuum up to the bound lets go exactly what is not blocked
  pub free : (g : Guards) (w : ℕ) → w ≤ g.current → not (blocked g w) ≡ leb w (bound g)
