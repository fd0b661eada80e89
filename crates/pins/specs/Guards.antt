-- What keeps an epoch: may it be shown, and what has a vacuum to leave for it. Assumes nothing.
use Rattle.std.specs.Prelude.{Bool, ◌||◌, List, [], ◌∷◌, ℕ, min, ltb, eqb}
use Rattle.lists.specs.Keyed.{any_of}
use Rattle.version_state.specs.State.{State}
use Rattle.pins.specs.declared.PinBook.{PinBook}
use Rattle.pins.specs.Book.{PinEntry, pins_of, pinned}

pub record Guards : Type 0 where
  pub current : ℕ
  pub pins : List PinEntry

abbrev pub guards_by : ℕ → List PinEntry → Guards
guards_by e l = record { current = e; pins = l }

-- those of a state and the book lent with it
abbrev pub guards_of : State → PinBook → Guards
guards_of s b = guards_by s.epoch (pins_of b)

-- the epoch is kept beside the current one: it is pinned
abbrev pub is_guarded : Guards → ℕ → Bool
is_guarded g d = pinned d g.pins

-- pairs and vectors may be shown of the current epoch and of those that are guarded
abbrev pub may_show : Guards → ℕ → Bool
may_show g d = eqb d g.current || is_guarded g d

-- a deletion at epoch w waits on: a guarded epoch is below w
abbrev pub blocked : Guards → ℕ → Bool
blocked g w = any_of (λ p. ltb p.epoch w) g.pins

-- the smallest epoch of the pins, or e if none is smaller
abbrev pub smallest : ℕ → List PinEntry → ℕ
smallest e [] = e
smallest e (p ∷ l) = min p.epoch (smallest e l)

-- the epoch up to which a vacuum lets go: the smallest guarded one, or the current one
abbrev pub bound : Guards → ℕ
bound g = smallest g.current g.pins
