-- The pin book: places for pins, each with its count. Assumes nothing.
use Rattle.std.specs.Prelude.{◌≡◌, Bool, true, not, ◌&&◌, ◌||◌, List, [], ◌∷◌, map, ℕ, ◌≤◌, leb, ltb, eqb, take}
use Rattle.lists.specs.Keyed.{all_of, any_of, has, ascending}
use Rattle.pins.specs.declared.Pin.{Pin}
use Rattle.pins.specs.declared.PinBook.{PinBook}
use Rattle.pins.specs.declared.Place.{Place}

pub record PinEntry : Type 0 where
  pub epoch : ℕ
  pub count : ℕ

abbrev pub pin_entry : Pin → PinEntry
pin_entry p = record { epoch = p.epoch; count = p.count }

abbrev pub pins_of : PinBook → List PinEntry
pins_of b = map pin_entry (take b.count b.items)

-- the place of a book for the pins on an epoch
abbrev pub place_on : ℕ → Place
place_on e = record { epoch = e }

-- what tells places apart, and their order
abbrev pub place_key : Place → List ℕ
place_key k = k.epoch ∷ []

abbrev pub by_place : PinEntry → List ℕ
by_place p = place_key (place_on p.epoch)

-- the specification's limits: places at a time, and pins of a place
abbrev pub most_pinned : ℕ
most_pinned = 64

abbrev pub most_pins : ℕ
most_pins = 65535

-- a place of a book at epoch e: a count that is not 0, an epoch that is neither 0 nor above e
abbrev pub valid_pin : ℕ → PinEntry → Bool
valid_pin e p = ltb 0 p.count && (ltb 0 p.epoch && leb p.epoch e)

-- 28
abbrev pub bad_book : ℕ → PinBook → Bool
bad_book e b = ltb most_pinned b.count || not (all_of (valid_pin e) (pins_of b) && ascending by_place (pins_of b))

-- the same, as facts: a book that 28 lets pass at epoch e
pub record GoodBook (e : ℕ) (b : PinBook) : Type 0 where
  pub fits : b.count ≤ most_pinned
  pub valid : all_of (valid_pin e) (pins_of b) ≡ true
  pub ordered : ascending by_place (pins_of b) ≡ true

-- the book stands for the pins l
pub record Keeps (b : PinBook) (l : List PinEntry) : Type 0 where
  pub fits : b.count ≤ most_pinned
  pub pins : pins_of b ≡ l

-- the place is held: the list has this very one
abbrev pub has_place : Place → List PinEntry → Bool
has_place k l = has by_place (place_key k) l

-- the epoch is pinned: some place has it
abbrev pub pinned : ℕ → List PinEntry → Bool
pinned e l = any_of (λ p. eqb p.epoch e) l
