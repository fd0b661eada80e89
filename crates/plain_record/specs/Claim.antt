-- The first theorem: what is claimed of every run, beside the plain record of its calls. Assumes nothing.
use Rattle.std.specs.Prelude.{◌≡◌, Bool, true, false, cond, not, ◌&&◌, List, [], ◌∷◌, map, ℕ, ◌+◌, ◌≤◌, eqb, ltb, length}
use Rattle.lists.specs.Order.{same}
use Rattle.lists.specs.Keyed.{keep, all_of, any_of, arranged}
use Rattle.snapshot.specs.Entries.{by_deletion, waits}
use Rattle.version_state.specs.State.{State}
use Rattle.pins.specs.Book.{pins_of, pinned}
use Rattle.pins.specs.Guards.{guards_of, may_show, blocked}
use Rattle.version_manager.specs.Managers.{held_by}
use Rattle.rewrite.specs.Rewritten.{longest_rewritten}
use Rattle.plain_record.specs.Calls.{Kind, quiet, as_commit, as_pin, as_unpin, as_vacuum, as_report, as_checkpoint, as_reopen, kind_of}
use Rattle.plain_record.specs.Plain.{Waiting, Id, table_id, rowset_id, vector_id, Plain, epoch_of, sets_at, deletions, guards_in, listed, Former, gone, former, taken_off, Record, at_start, turn}
use Rattle.plain_record.specs.Run.{Steps, World, Event, is_accepted, value, Chain, last_of, Starts}
use Rattle.plain_record.specs.Shows.{ShowsTables, ShowsPairs, ShowsVectors}

-- What the manager holds, in the record's terms.

-- the waiting deletions, by epoch, table, rowset: (epoch, table, rowset)
abbrev pub waiting_in : State → List (List ℕ)
waiting_in s = map by_deletion (arranged by_deletion (keep waits s.pairs))

abbrev pub waiting_of : Plain → List (List ℕ)
waiting_of p = map (λ (w : Waiting). w.epoch ∷ w.pair) p.waiting

abbrev pub pairs_of : List Waiting → List (List ℕ)
pairs_of l = map (λ (w : Waiting). w.pair) l

-- no two have one pair
abbrev pub differ : List (List ℕ) → Bool
differ [] = true
differ (k ∷ l) = not (any_of (same k) l) && differ l

abbrev pub below_next : State → Id → Bool
below_next s (table_id t) = ltb t s.next_table
below_next s (rowset_id r) = ltb r s.next_rowset
below_next s (vector_id v) = ltb v s.next_vector

-- equal after the list
pub record Agrees (S : Steps) (w : World) (p : Plain) : Type 0 where
  pub epoch : (held_by w.manager).epoch ≡ epoch_of p
  pub tables : ShowsTables S w (epoch_of p) p.now.tables
  -- of the current epoch and of each guarded one
  pub pairs : (d : ℕ) → may_show (guards_in p) d ≡ true → ShowsPairs S w d (sets_at d p).pairs
  pub vectors : (d : ℕ) → may_show (guards_in p) d ≡ true → ShowsVectors S w d (sets_at d p).vectors
  pub book : pins_of w.book ≡ p.pinned
  pub waiting : waiting_in (held_by w.manager) ≡ waiting_of p
  pub apart : differ (pairs_of p.waiting) ≡ true
  -- next ids exceed every id that a counted commit added
  pub next : all_of (below_next (held_by w.manager)) p.added ≡ true
  -- the manager's manifest length is the file's
  pub manifest : (held_by w.manager).manifest ≡ length w.file

-- there is a commit to take off
abbrev pub is_former : Former → Bool
is_former gone = false
is_former (former p) = true

-- 31 does not hold: fewer bytes than the append's are said to have landed, there is a commit to take off, and no pin is on its epoch
abbrev pub may_report : ℕ → Record → World → Bool
may_report n r w = ltb n (length w.last.bytes) && (is_former r.former && not (pinned (epoch_of r.whole) r.whole.pinned))

-- each answer, where the record was r before the call
abbrev pub AnswerBy : Record → Event → Kind → Type 0
AnswerBy r e quiet = Unit {0}
AnswerBy r e (as_commit made missing) = Unit {0}
-- an accepted pin answers the current epoch
AnswerBy r e as_pin = is_accepted e.told ≡ true → value 0 e.told ≡ epoch_of r.whole
AnswerBy r e (as_unpin d) = Unit {0}
-- an accepted vacuum lists what the record lists, in its order, and answers how many these are
AnswerBy r e as_vacuum = is_accepted e.told ≡ true → (e.listed ≡ pairs_of (listed r.whole)) × (value 0 e.told ≡ length e.listed)
-- a report is refused by 31 alone; an accepted one answers the epoch that is current again and the manifest's length
AnswerBy r e (as_report n) =
    (is_accepted e.told ≡ may_report n r e.before)
    × (is_accepted e.told ≡ true → (value 0 e.told ≡ epoch_of (taken_off r.former r.whole)) × (value 1 e.told ≡ length e.after.file))
-- a checkpoint or a reopen that is lent enough is never refused
AnswerBy r e (as_checkpoint lent) = longest_rewritten ≤ lent → is_accepted e.told ≡ true
AnswerBy r e (as_reopen lent) = longest_rewritten ≤ lent → is_accepted e.told ≡ true

-- the id that a create answers is its answer's first value; no other call's operations look at it
abbrev pub next_record : Record → Event → Record
next_record r e = turn (kind_of e.call) (is_accepted e.told) (value 0 e.told) r

abbrev pub Answers : Record → List Event → Type 0
Answers r [] = Unit {0}
Answers r (e ∷ es) = AnswerBy r e (kind_of e.call) × Answers (next_record r e) es

abbrev pub record_of : Record → List Event → Record
record_of r [] = r
record_of r (e ∷ es) = record_of (next_record r e) es

-- Which vacuum lists a deletion.

abbrev pub is_vacuum : Kind → Bool
is_vacuum quiet = false
is_vacuum (as_commit made missing) = false
is_vacuum as_pin = false
is_vacuum (as_unpin e) = false
is_vacuum as_vacuum = true
is_vacuum (as_report n) = false
is_vacuum (as_checkpoint lent) = false
is_vacuum (as_reopen lent) = false

abbrev pub is_reopen : Kind → Bool
is_reopen quiet = false
is_reopen (as_commit made missing) = false
is_reopen as_pin = false
is_reopen (as_unpin e) = false
is_reopen as_vacuum = false
is_reopen (as_report n) = false
is_reopen (as_checkpoint lent) = false
is_reopen (as_reopen lent) = true

-- an accepted vacuum, and one that meets no guarded epoch before w's
abbrev pub vacuums : Event → Bool
vacuums e = is_vacuum (kind_of e.call) && is_accepted e.told

abbrev pub frees : Waiting → Event → Bool
frees w e = vacuums e && not (blocked (guards_of (held_by e.before.manager) e.before.book) w.epoch)

-- w is told apart by its commit and its operation
abbrev pub is_it : Waiting → Waiting → Bool
is_it w x = eqb x.commit w.commit && eqb x.operation w.operation

-- another deletion of w's pair waits
abbrev pub another : Waiting → Record → Bool
another w r = any_of (λ x. same w.pair x.pair && not (is_it w x)) r.whole.waiting

-- the record's list has w
abbrev pub removes : Waiting → Record → Event → Bool
removes w r e = vacuums e && any_of (is_it w) (listed r.whole)

-- the event's own list has w's pair, and it stands for no other deletion
abbrev pub lists : Waiting → Record → Event → Bool
lists w r e = vacuums e && (any_of (same w.pair) e.listed && not (another w r))

-- whether w is listed by the event, in the record and by the manager
abbrev pub Listing : Bool → Waiting → Record → Event → Type 0
Listing b w r e = (removes w r e ≡ b) × (lists w r e ≡ b)

-- in the events from the record r on, the first that frees w lists it, and no other does
abbrev pub NeverListed : Waiting → Record → List Event → Type 0
NeverListed w r [] = Unit {0}
NeverListed w r (e ∷ es) = Listing false w r e × NeverListed w (next_record r e) es

abbrev pub ListedFirst : Waiting → Record → List Event → Type 0
ListedFirst w r [] = Unit {0}
ListedFirst w r (e ∷ es) =
    ((frees w e ≡ true) → Listing true w r e × NeverListed w (next_record r e) es)
    × ((frees w e ≡ false) → Listing false w r e × ListedFirst w (next_record r e) es)

-- no accepted reopen
abbrev pub never_reopened : List Event → Bool
never_reopened es = not (any_of (λ (e : Event). is_reopen (kind_of e.call) && is_accepted e.told) es)

abbrev pub is_report : Kind → Bool
is_report quiet = false
is_report (as_commit made missing) = false
is_report as_pin = false
is_report (as_unpin e) = false
is_report as_vacuum = false
is_report (as_report n) = true
is_report (as_checkpoint lent) = false
is_report (as_reopen lent) = false

abbrev pub is_pinning : Kind → Bool
is_pinning quiet = false
is_pinning (as_commit made missing) = false
is_pinning as_pin = true
is_pinning (as_unpin e) = true
is_pinning as_vacuum = false
is_pinning (as_report n) = false
is_pinning (as_checkpoint lent) = false
is_pinning (as_reopen lent) = false

-- of the events after a commit: the first accepted call that is no pin and no unpin is its report
abbrev pub taken_back : List Event → Bool
taken_back [] = false
taken_back (e ∷ es) =
    let k = kind_of e.call in
    cond (is_accepted e.told && not (is_pinning k)) (is_report k) (taken_back es)

-- the deletions of an accepted call that answers id
abbrev pub deletions_by : Record → ℕ → Kind → List Waiting
deletions_by r id quiet = []
deletions_by r id (as_commit made missing) = deletions r.place (epoch_of r.whole + 1) 0 (made id r.whole.now)
deletions_by r id as_pin = []
deletions_by r id (as_unpin e) = []
deletions_by r id as_vacuum = []
deletions_by r id (as_report n) = []
deletions_by r id (as_checkpoint lent) = []
deletions_by r id (as_reopen lent) = []

abbrev pub EachListed : List Waiting → Record → List Event → Type 0
EachListed [] r es = Unit {0}
EachListed (w ∷ ws) r es = ListedFirst w r es × EachListed ws r es

-- every deletion since the last accepted reopen, if its commit is not reported
abbrev pub Deletions : Record → List Event → Type 0
Deletions r [] = Unit {0}
Deletions r (e ∷ es) =
    (is_accepted e.told ≡ true → never_reopened es ≡ true → taken_back es ≡ false → EachListed (deletions_by r (value 0 e.told) (kind_of e.call)) (next_record r e) es) × Deletions (next_record r e) es

-- after every list of calls
pub record Holds (S : Steps) (w : World) (es : List Event) : Type 0 where
  pub agrees : Agrees S (last_of w es) (record_of at_start es).whole
  pub answers : Answers at_start es
  pub deletions : Deletions at_start es

abbrev pub Claim : Steps → Type 0
Claim S = (w : World) (es : List Event) → Starts S w → Chain S w es → Holds S w es
