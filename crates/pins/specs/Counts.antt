-- The counts of a list of pins, and the list with one of them changed. Assumes nothing.
use Rattle.std.specs.Prelude.{◌≡◌, Bool, cond, not, ◌&&◌, List, [], ◌∷◌, ℕ, ◌+◌, ◌-◌, ◌≤◌, leb, ltb, eqb, length, get_or, Result, Ok, Err, is_ok}
use Rattle.lists.specs.Keyed.{is_at, put, without, rank}
use Rattle.pins.specs.declared.Place.{Place}
use Rattle.pins.specs.Book.{PinEntry, place_key, by_place, most_pinned, most_pins, has_place}

-- n pins at a place
abbrev pub pins_on : Place → ℕ → PinEntry
pins_on k n = record { epoch = k.epoch; count = n }

-- how many pins a place has
abbrev pub pins_at : Place → List PinEntry → ℕ
pins_at k [] = 0
pins_at k (p ∷ l) = cond (is_at by_place (place_key k) p) p.count (pins_at k l)

-- the list with n pins at the place; a place without pins is not in it
abbrev pub recounted : Place → ℕ → List PinEntry → List PinEntry
recounted k n l = cond (eqb n 0) (without by_place (place_key k) l) (put by_place (pins_on k n) l)

-- one pin more
abbrev pub with_pin : Place → List PinEntry → List PinEntry
with_pin k l = recounted k (pins_at k l + 1) l

-- the pins that are left at the place when one is taken off
abbrev pub left_on : Place → List PinEntry → ℕ
left_on k l = pins_at k l - 1

-- one pin less
abbrev pub without_pin : Place → List PinEntry → List PinEntry
without_pin k l = recounted k (left_on k l) l

-- pins of the place full
abbrev pub pins_full : Place → List PinEntry → Bool
pins_full k l = leb most_pins (pins_at k l)

-- places full: this one is not held, and none is left
abbrev pub places_full : Place → List PinEntry → Bool
places_full k l = not (has_place k l) && leb most_pinned (length l)

-- the place in the list that a search tells, and the pins that stand there
abbrev pub found_at : Result ℕ ℕ → ℕ
found_at (Ok at) = at
found_at (Err at) = at

abbrev pub found_pins : Place → List PinEntry → Result ℕ ℕ → ℕ
found_pins k l (Ok at) = (get_or l at (pins_on k 0)).count
found_pins k l (Err at) = 0

-- what a search for the place k in the list l tells: `Ok` of where it stands there, or `Err` of where it would
pub record Placed (k : Place) (l : List PinEntry) (r : Result ℕ ℕ) : Type 0 where
  pub place : found_at r ≡ rank by_place (place_key k) l
  pub within : found_at r ≤ length l
  pub there : is_ok r ≡ ltb (found_at r) (length l) && is_at by_place (place_key k) (get_or l (found_at r) (pins_on k 0))
  pub count : found_pins k l r ≡ pins_at k l
