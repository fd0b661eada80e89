-- The specification's plain record, with its reports. It is fed the calls' arguments, whether each was accepted, the id that a create answers, and how far an append landed. Assumes nothing.
use Rattle.std.specs.Prelude.{Bool, true, false, cond, not, List, [], ◌∷◌, ◌++◌, ℕ, ◌+◌, ◌-◌, eqb, leb, length, get_or}
use Rattle.lists.specs.Keyed.{keep, placed, put, without}
use Rattle.manifest.specs.Operations.{Operation}
use Rattle.manifest.specs.Edits.{Edit, leaves, adds, deletes, rowset_in, vector_in, Edits, edits_of}
use Rattle.pins.specs.Book.{PinEntry, place_on, place_key, by_place}
use Rattle.pins.specs.Guards.{Guards, guards_by, blocked}
use Rattle.pins.specs.Counts.{pins_on, pins_at}
use Rattle.plain_record.specs.Sets.{Sets, none, apply_all}
use Rattle.plain_record.specs.Calls.{Kind, quiet, as_commit, as_pin, as_unpin, as_vacuum, as_report, as_checkpoint, as_reopen}

-- a deletion that waits, told apart from every other by the place of its commit in the list and of its operation in the commit
pub record Waiting : Type 0 where
  pub epoch : ℕ
  pub pair : List ℕ
  pub commit : ℕ
  pub operation : ℕ

abbrev pub waiting_as : ℕ → List ℕ → ℕ → ℕ → Waiting
waiting_as e k c i = record { epoch = e; pair = k; commit = c; operation = i }

-- by epoch, table, rowset
abbrev pub by_epoch_and_pair : Waiting → List ℕ
by_epoch_and_pair w = w.epoch ∷ w.pair

-- an id that a commit added
pub data Id : Type 0 where
  table_id : ℕ → Id
  rowset_id : ℕ → Id
  vector_id : ℕ → Id

pub record Plain : Type 0 where
  -- the sets of the epochs before the current one, from epoch 0 on, and of the current one
  pub past : List Sets
  pub now : Sets
  -- pinned epochs, and the deletions that wait
  pub pinned : List PinEntry
  pub waiting : List Waiting
  -- every id that a counted commit added
  pub added : List Id

abbrev pub plain : List Sets → Sets → List PinEntry → List Waiting → List Id → Plain
plain p n b w a = record { past = p; now = n; pinned = b; waiting = w; added = a }

-- epoch 0 shows nothing
abbrev pub start : Plain
start = plain [] none [] [] []

-- the current epoch, and what an epoch shows
abbrev pub epoch_of : Plain → ℕ
epoch_of p = length p.past

abbrev pub sets_at : ℕ → Plain → Sets
sets_at d p = get_or p.past d p.now

-- each `D` is a deletion of its own: that of an operation at place i of a commit at place c that makes epoch e, if it is one
abbrev pub deletion : ℕ → ℕ → ℕ → Edit (List ℕ) → List Waiting
deletion c e i leaves = []
deletion c e i (adds k) = []
deletion c e i (deletes k) = waiting_as e k c i ∷ []

-- those of the commit's operations, the first at place i
abbrev pub deletions : ℕ → ℕ → ℕ → List Operation → List Waiting
deletions c e i [] = []
deletions c e i (o ∷ os) = deletion c e i (edits_of o).pairs ++ deletions c e (i + 1) os

-- they wait in order
abbrev pub await : List Waiting → List Waiting → List Waiting
await [] l = l
await (w ∷ ws) l = await ws (placed by_epoch_and_pair w l)

-- the ids that operations add: f tells the id of what is added
abbrev pub id_added : {A : Type 0} → (A → Id) → Edit A → List Id
id_added f leaves = []
id_added f (adds x) = f x ∷ []
id_added f (deletes k) = []

abbrev pub ids_by : Edits → List Id
ids_by d = id_added (λ t. table_id t.id) d.tables ++ (id_added (λ k. rowset_id (rowset_in k)) d.pairs ++ id_added (λ k. vector_id (vector_in k)) d.vectors)

abbrev pub ids_of : List Operation → List Id
ids_of [] = []
ids_of (o ∷ os) = ids_by (edits_of o) ++ ids_of os

-- a counted commit at place c of the list: the next epoch remembers the result
abbrev pub counted : ℕ → List Operation → Plain → Plain
counted c os p =
    plain (p.past ++ (p.now ∷ [])) (apply_all os p.now) p.pinned (await (deletions c (epoch_of p + 1) 0 os) p.waiting) (p.added ++ ids_of os)

-- a pin adds one at the current epoch, an unpin takes one off the epoch it names; an epoch with pins left is pinned
abbrev pub one_pin : ℕ → List PinEntry → List PinEntry
one_pin e l = let k = place_on e in put by_place (pins_on k (pins_at k l + 1)) l

abbrev pub one_less : ℕ → List PinEntry → List PinEntry
one_less e l = let k = place_on e in cond (leb (pins_at k l) 1) (without by_place (place_key k) l) (put by_place (pins_on k (pins_at k l - 1)) l)

abbrev pub with_pins : List PinEntry → Plain → Plain
with_pins l p = plain p.past p.now l p.waiting p.added

-- what keeps epochs
abbrev pub guards_in : Plain → Guards
guards_in p = guards_by (epoch_of p) p.pinned

-- what a vacuum lists and removes, and what is left
abbrev pub listed : Plain → List Waiting
listed p = keep (λ w. not (blocked (guards_in p) w.epoch)) p.waiting

abbrev pub swept : Plain → Plain
swept p = plain p.past p.now p.pinned (keep (λ w. blocked (guards_in p) w.epoch) p.waiting) p.added

-- a reopen keeps the last sets as epoch 1 and forgets older epochs, pins and waiting deletions
abbrev pub kept : Plain → Plain
kept p = plain (none ∷ []) p.now [] [] p.added

-- what a report may take off: nothing, or the last commit, before which the record was p
pub data Former : Type 0 where
  gone : Former
  former : Plain → Former

-- a report takes off the last commit's epoch, sets, waiting deletions and ids; pins stay
abbrev pub taken_off : Former → Plain → Plain
taken_off gone p = p
taken_off (former q) p = with_pins p.pinned q

-- The record of a list: as it is if all has landed, and as it is if the next accepted call is a reopen; what a report may take off; and the place of the next call.
pub record Record : Type 0 where
  pub whole : Plain
  pub torn : Plain
  pub former : Former
  pub place : ℕ

abbrev pub recorded : Plain → Plain → Former → ℕ → Record
recorded w t f n = record { whole = w; torn = t; former = f; place = n }

abbrev pub at_start : Record
at_start = recorded start start gone 0

-- an accepted call after which nothing is missing, and nothing is left to report
abbrev pub landed : Plain → Record → Record
landed p r = recorded p p gone (r.place + 1)

-- pins and unpins may stand between a commit and its report
abbrev pub repinned : List PinEntry → Record → Record
repinned l r = recorded (with_pins l r.whole) (with_pins l r.whole) r.former (r.place + 1)

-- a commit whose last bytes are missing does not count where the next accepted call is a reopen
abbrev pub counts : List Operation → ℕ → Record → Record
counts os missing r =
    recorded (counted r.place os r.whole) (cond (eqb missing 0) (counted r.place os r.whole) r.whole) (former r.whole) (r.place + 1)

-- an accepted call, by its kind and the id that it answers
abbrev pub accepts : Kind → ℕ → Record → Record
accepts quiet id r = landed r.whole r
accepts (as_commit made missing) id r = counts (made id r.whole.now) missing r
accepts as_pin id r = repinned (one_pin (epoch_of r.whole) r.whole.pinned) r
accepts (as_unpin e) id r = repinned (one_less e r.whole.pinned) r
accepts as_vacuum id r = landed (swept r.whole) r
accepts (as_report n) id r = landed (taken_off r.former r.whole) r
accepts (as_checkpoint lent) id r = landed r.whole r
accepts (as_reopen lent) id r = landed (kept r.torn) r

-- a refused call changes nothing
abbrev pub turn : Kind → Bool → ℕ → Record → Record
turn k true id r = accepts k id r
turn k false id r = recorded r.whole r.torn r.former (r.place + 1)
