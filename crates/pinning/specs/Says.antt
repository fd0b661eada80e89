-- Pin answers the current epoch and adds one to its count, unpin takes one off. Assumes nothing.
use Rattle.std.specs.Prelude.{◌≡◌, Bool, cond, not, ◌&&◌, List, [], ◌∷◌, ℕ, ◌≤◌, eqb, length, Ok, Err, Result}
use Rattle.ids.specs.declared.refusal.Refusal.{Refusal}
use Rattle.ids.specs.declared.refusal.Refusal.TheVariants.{BadManager, BadPinBook, PinAtEpochZero, PinsFull, PinnedEpochsFull, EpochNotPinned}
use Rattle.ids.specs.Verdicts.{Rule, ◌⇒◌, judged, Verdict}
use Rattle.ids.specs.Answers.{Told, told}
use Rattle.pins.specs.declared.PinBook.{PinBook}
use Rattle.pins.specs.Book.{PinEntry, pins_of, place_on, Keeps, bad_book, has_place, pinned}
use Rattle.pins.specs.Counts.{pins_full, places_full, with_pin, without_pin}
use Rattle.vacuum.specs.Says.{list_of}
use Rattle.version_manager.specs.declared.VersionManager.{VersionManager}
use Rattle.version_manager.specs.Managers.{held_by, bad_manager}
use Rattle.pinning.specs.declared.Readiness.{Readiness}

-- the epoch that is pinned
abbrev pub PinAnswer : Type 0
PinAnswer = Result ℕ Refusal

-- whether a vacuum is due, and the number ready
abbrev pub UnpinAnswer : Type 0
UnpinAnswer = Result Readiness Refusal

-- the current epoch
abbrev pub current : VersionManager → ℕ
current m = m.inner.epoch

-- the lent book afterwards: on a refusal the very same b, and else one that stands for l
abbrev pub BookAfter : Verdict → PinBook → List PinEntry → PinBook → Type 0
BookAfter (Ok _) b l b' = Keeps b' l
BookAfter (Err k) b l b' = b' ≡ b

-- 29, 28, 10, 18, 19
abbrev pub pin_rules : VersionManager → PinBook → List Rule
pin_rules m b =
    (bad_manager m ⇒ BadManager)
    ∷ (bad_book (current m) b ⇒ BadPinBook)
    ∷ (eqb (current m) 0 ⇒ PinAtEpochZero)
    ∷ (pins_full (place_on (current m)) (pins_of b) ⇒ PinsFull)
    ∷ (places_full (place_on (current m)) (pins_of b) ⇒ PinnedEpochsFull)
    ∷ []

abbrev pub pin_verdict : VersionManager → PinBook → Verdict
pin_verdict m b = judged (pin_rules m b)

abbrev pub pin_told : PinAnswer → Told
pin_told (Ok e) = told (Ok tt) (e ∷ [])
pin_told (Err k) = told (Err k) []

-- pin of m, lent the book b, answers a and leaves b' there
pub record PinSays (m : VersionManager) (b : PinBook) (a : PinAnswer) (b' : PinBook) : Type 0 where
  pub answer : pin_told a ≡ told (pin_verdict m b) (current m ∷ [])
  pub book : BookAfter (pin_verdict m b) b (with_pin (place_on (current m)) (pins_of b)) b'

-- 29, 28, 24
abbrev pub unpin_rules : VersionManager → ℕ → PinBook → List Rule
unpin_rules m e b =
    (bad_manager m ⇒ BadManager)
    ∷ (bad_book (current m) b ⇒ BadPinBook)
    ∷ (not (has_place (place_on e) (pins_of b)) ⇒ EpochNotPinned)
    ∷ []

abbrev pub unpin_verdict : VersionManager → ℕ → PinBook → Verdict
unpin_verdict m e b = judged (unpin_rules m e b)

-- a vacuum is due: epoch e is pinned no more, and not the current one
abbrev pub is_due : VersionManager → ℕ → PinBook → Bool
is_due m e b = not (pinned e (without_pin (place_on e) (pins_of b))) && not (eqb e (current m))

-- 1 for yes, 0 for no
abbrev pub flag : Bool → ℕ
flag y = cond y 1 0

abbrev pub unpin_told : UnpinAnswer → Told
unpin_told (Ok u) = told (Ok tt) (flag u.due ∷ u.ready ∷ [])
unpin_told (Err k) = told (Err k) []

-- the number ready that an answer gives
abbrev pub ready_of : UnpinAnswer → ℕ
ready_of (Ok u) = u.ready
ready_of (Err k) = 0

-- unpin of epoch e of m, lent the book b, answers a and leaves b' there; the number ready is left free, up to the length of the
-- list that a vacuum would then give
pub record UnpinSays (m : VersionManager) (e : ℕ) (b : PinBook) (a : UnpinAnswer) (b' : PinBook) : Type 0 where
  pub answer : unpin_told a ≡ told (unpin_verdict m e b) (flag (is_due m e b) ∷ ready_of a ∷ [])
  pub ready : ready_of a ≤ length (list_of (held_by m) b')
  pub book : BookAfter (unpin_verdict m e b) b (without_pin (place_on e) (pins_of b)) b'
