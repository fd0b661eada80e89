-- Which vacuum lists a deletion: while it waits, the first that meets no pin before its epoch, and afterwards none. Assumes nothing.
use mathlib.Core.Path.{◌≡◌, refl, sym, ap, ◌∙◌}
use mathlib.Core.Bool.{Bool, true, false, cond, not, ◌&&◌, ◌||◌, or-true, and_assoc}
use mathlib.Core.List.{List, [], ◌∷◌}
use mathlib.Core.Logic.{◌⊎◌, inl, inr, ⊎_elim}
use Prim.Native.Nat.{ℕ, ◌+◌, ◌<◌, ◌≤◌}
use native.Mathlib.Omega.{arith}
use lib.Dec.{eqb}
use borrow.Author.Tests.{eq-eqb, ne_eqb, eqb-true, not-true}
use Rattle.lists.specs.Order.{same}
use Rattle.lists.specs.Keyed.{keep, any_of, placed}
use Rattle.lists.proofs.Tests.{by_cases, clash, both, join, neither, or_across}
use Rattle.lists.proofs.Order.{same_refl, same_true}
use Rattle.lists.proofs.Keyed.{All, all_map, all_append, all_placed, all_keep, any_of-placed, none-any_of}
use Rattle.manifest.specs.Operations.{Operation}
use Rattle.manifest.specs.Edits.{Edit, leaves, adds, deletes, edits_of}
use Rattle.pins.specs.Book.{PinEntry}
use Rattle.pins.specs.Guards.{Guards, guards_of, blocked}
use Rattle.version_manager.specs.Managers.{held_by}
use Rattle.plain_record.specs.Calls.{Kind, quiet, as_commit, as_pin, as_unpin, as_vacuum, as_report, as_checkpoint, as_reopen, kind_of}
use Rattle.plain_record.specs.Plain.{Waiting, by_epoch_and_pair, epoch_of, deletion, deletions, await, counted, with_pins, guards_in, listed, Plain, Former, gone, former, taken_off, Record, at_start, turn}
use Rattle.plain_record.specs.Run.{Event, is_accepted, value}
use Rattle.plain_record.specs.Claim.{pairs_of, differ, AnswerBy, next_record, is_vacuum, is_reopen, is_report, is_pinning, taken_back, vacuums, frees, is_it, another, removes, lists, Listing, NeverListed, ListedFirst, deletions_by, EachListed, Deletions}

abbrev FormerBelow : ℕ → Former → Type 0
FormerBelow n gone = Unit {0}
FormerBelow n (former q) = All (λ (x : Waiting). x.commit < n) q.waiting

-- every waiting entry comes from a commit before the next call
pub record Below (r : Record) : Type 0 where
  pub whole : All (λ (x : Waiting). x.commit < r.place) r.whole.waiting
  pub torn : All (λ (x : Waiting). x.commit < r.place) r.torn.waiting
  pub former : FormerBelow r.place r.former

-- at each call the epochs that are kept are the record's, no two deletions that wait have one pair, and a vacuum lists the record's list
pub record Seen (r : Record) (e : Event) : Type 0 where
  pub guards : guards_of (held_by e.before.manager) e.before.book ≡ guards_in r.whole
  pub apart : differ (pairs_of r.whole.waiting) ≡ true
  pub list : vacuums e ≡ true → e.listed ≡ pairs_of (listed r.whole)

abbrev pub AllSeen : Record → List Event → Type 0
AllSeen r [] = Unit {0}
AllSeen r (e ∷ es) = Seen r e × AllSeen (next_record r e) es

pub answer-lists : (r : Record) (e : Event) (k : Kind) → AnswerBy r e k → is_vacuum k && is_accepted e.told ≡ true → e.listed ≡ pairs_of (listed r.whole)
answer-lists r e quiet a v = clash v refl
answer-lists r e (as_commit made missing) a v = clash v refl
answer-lists r e as_pin a v = clash v refl
answer-lists r e (as_unpin d) a v = clash v refl
answer-lists r e as_vacuum a v = (a v).0
answer-lists r e (as_report n) a v = clash v refl
answer-lists r e (as_checkpoint lent) a v = clash v refl
answer-lists r e (as_reopen lent) a v = clash v refl

all-await : (P : Waiting → Type 0) (ws l : List Waiting) → All P ws → All P l → All P (await ws l)
all-await P [] l p q = q
all-await P (w ∷ ws) l p q = all-await P ws (placed by_epoch_and_pair w l) p.1 (all_placed by_epoch_and_pair P w l p.0 q)

any_of-await : (p : Waiting → Bool) (ws l : List Waiting) → any_of p (await ws l) ≡ any_of p ws || any_of p l
any_of-await p [] l = refl
any_of-await p (w ∷ ws) l =
    any_of-await p ws (placed by_epoch_and_pair w l)
    ∙ ap (λ (b : Bool). any_of p ws || b) (any_of-placed by_epoch_and_pair p w l)
    ∙ or_across (p w) (any_of p ws) (any_of p l)

-- the deletions of a commit have its place and the epoch that it makes
abbrev Of : ℕ → ℕ → Waiting → Type 0
Of c e x = (x.commit ≡ c) × (x.epoch ≡ e)

own_of : (c e i : ℕ) (d : Edit (List ℕ)) → All (Of c e) (deletion c e i d)
own_of c e i leaves = tt
own_of c e i (adds k) = tt
own_of c e i (deletes k) = ((refl, refl), tt)

all_of : (c e i : ℕ) (os : List Operation) → All (Of c e) (deletions c e i os)
all_of c e i [] = tt
all_of c e i (o ∷ os) = all_append (Of c e) (deletion c e i (edits_of o).pairs) (deletions c e (i + 1) os) (own_of c e i (edits_of o).pairs) (all_of c e (i + 1) os)

-- the pair of one of them is that of its operation
abbrev pair_in : Edit (List ℕ) → List ℕ
pair_in leaves = []
pair_in (adds k) = []
pair_in (deletes k) = k

abbrev pair_from : ℕ → List Operation → ℕ → List ℕ
pair_from i [] n = []
pair_from i (o ∷ os) n = cond (eqb i n) (pair_in (edits_of o).pairs) (pair_from (i + 1) os n)

abbrev From : ℕ → List Operation → Waiting → Type 0
From i os x = (x.pair ≡ pair_from i os x.operation) × (i ≤ x.operation)

from-later : (c e i : ℕ) (o : Operation) (os : List Operation) → All (From (i + 1) os) (deletions c e (i + 1) os) → All (From i (o ∷ os)) (deletions c e (i + 1) os)
from-later c e i o os a =
    all_map (deletions c e (i + 1) os) (λ x f. let h = f.1 in (rw (ne_eqb i x.operation (λ s. omega arith)) f.0, omega arith)) a

own-from : (c e i : ℕ) (d : Edit (List ℕ)) (later : ℕ → List ℕ) → All (λ x. (x.pair ≡ cond (eqb i x.operation) (pair_in d) (later x.operation)) × (i ≤ x.operation)) (deletion c e i d)
own-from c e i leaves later = tt
own-from c e i (adds k) later = tt
own-from c e i (deletes k) later = ((rw (eq-eqb i i refl), omega arith), tt)

all_from : (c e i : ℕ) (os : List Operation) → All (From i os) (deletions c e i os)
all_from c e i [] = tt
all_from c e i (o ∷ os) =
    all_append (From i (o ∷ os)) (deletion c e i (edits_of o).pairs) (deletions c e (i + 1) os)
    (own-from c e i (edits_of o).pairs (pair_from (i + 1) os)) (from-later c e i o os (all_from c e (i + 1) os))

new-below : (n e : ℕ) (os : List Operation) → All (λ (x : Waiting). x.commit < n + 1) (deletions n e 0 os)
new-below n e os = all_map (deletions n e 0 os) (λ x o. let h = o.0 in omega arith) (all_of n e 0 os)

later : (n : ℕ) (l : List Waiting) → All (λ (x : Waiting). x.commit < n) l → All (λ (x : Waiting). x.commit < n + 1) l
later n l a = all_map l (λ x h. omega arith) a

counted-below : (os : List Operation) (r : Record) → Below r → All (λ (x : Waiting). x.commit < r.place + 1) (counted r.place os r.whole).waiting
counted-below os r b =
    all-await (λ (x : Waiting). x.commit < r.place + 1) (deletions r.place (epoch_of r.whole + 1) 0 os) r.whole.waiting
    (new-below r.place (epoch_of r.whole + 1) os) (later r.place r.whole.waiting b.whole)

former-later : (n : ℕ) (f : Former) → FormerBelow n f → FormerBelow (n + 1) f
former-later n gone b = tt
former-later n (former q) b = later n q.waiting b

former-off : (n : ℕ) (f : Former) (p : Plain) → FormerBelow n f → All (λ (x : Waiting). x.commit < n) p.waiting → All (λ (x : Waiting). x.commit < n + 1) (taken_off f p).waiting
former-off n gone p b h = later n p.waiting h
former-off n (former q) p b h = later n q.waiting b

below-turn : (k : Kind) (a : Bool) (id : ℕ) (r : Record) → Below r → Below (turn k a id r)
below-turn quiet true id r b = let h = later r.place r.whole.waiting b.whole in record { whole = h; torn = h; former = tt }
below-turn (as_commit made missing) true id r b =
    let h = counted-below (made id r.whole.now) r b in
    let q = later r.place r.whole.waiting b.whole in
    record { whole = h; torn = by_cases (eqb missing 0) (λ t. rw t h) (λ t. rw t q); former = q }
below-turn as_pin true id r b = let h = later r.place r.whole.waiting b.whole in record { whole = h; torn = h; former = former-later r.place r.former b.former }
below-turn (as_unpin e) true id r b = let h = later r.place r.whole.waiting b.whole in record { whole = h; torn = h; former = former-later r.place r.former b.former }
below-turn as_vacuum true id r b =
    let h = all_keep (λ (x : Waiting). x.commit < r.place + 1) (λ w. blocked (guards_in r.whole) w.epoch) r.whole.waiting (later r.place r.whole.waiting b.whole) in
    record { whole = h; torn = h; former = tt }
below-turn (as_report n) true id r b = let h = former-off r.place r.former r.whole b.former b.whole in record { whole = h; torn = h; former = tt }
below-turn (as_checkpoint lent) true id r b = let h = later r.place r.whole.waiting b.whole in record { whole = h; torn = h; former = tt }
below-turn (as_reopen lent) true id r b = record { whole = tt; torn = tt; former = tt }
below-turn k false id r b =
    record { whole = later r.place r.whole.waiting b.whole; torn = later r.place r.torn.waiting b.torn; former = former-later r.place r.former b.former }

pub below-start : Below at_start
below-start = record { whole = tt; torn = tt; former = tt }

-- Of one deletion d: it is from an earlier commit, and what waits under its tag has its epoch and its pair.
abbrev Alike : Waiting → Waiting → Type 0
Alike d x = is_it d x ≡ true → (x.epoch ≡ d.epoch) × (x.pair ≡ d.pair)

record Tagged (d : Waiting) (r : Record) : Type 0 where
  pub earlier : d.commit < r.place
  pub alike : All (Alike d) r.whole.waiting

-- A report leaves d as it is: it waits before the last commit exactly if it waits now, and there too under its own tag. This holds from the
-- first accepted call after its own commit on, but for pins and unpins.
abbrev SettledBy : Waiting → Former → Plain → Type 0
SettledBy d gone p = Unit {0}
SettledBy d (former q) p = All (Alike d) q.waiting × (any_of (is_it d) q.waiting ≡ any_of (is_it d) p.waiting)

abbrev Settled : Waiting → Record → Type 0
Settled d r = SettledBy d r.former r.whole

-- an accepted reopen
abbrev reopens : Event → Bool
reopens e = is_reopen (kind_of e.call) && is_accepted e.told

-- it waits
abbrev waits_in : Waiting → Record → Bool
waits_in d r = any_of (is_it d) r.whole.waiting

other-commit : (d x : Waiting) → (x.commit ≡ d.commit → ⊥) → is_it d x ≡ false
other-commit d x n = rw (ne_eqb x.commit d.commit n)

module _ (d : Waiting) where
  -- of what has its tag, a test of the epoch keeps all or nothing
  kept-tag : (q : ℕ → Bool) (l : List Waiting) → All (Alike d) l
      → any_of (is_it d) (keep (λ w. q w.epoch) l) ≡ q d.epoch && any_of (is_it d) l
  kept-tag q [] a = by_cases (q d.epoch) (λ e. rw e) (λ e. rw e)
  kept-tag q (x ∷ l) a =
      let ih = kept-tag q l a.1 in
      by_cases (is_it d x)
      (λ t. let s = (a.0 t).0 in by_cases (q d.epoch) (λ e. rw (s, e, t)) (λ e. rw (s, e) (ih ∙ rw e)))
      (λ t. by_cases (q x.epoch) (λ e. rw (e, t) ih) (λ e. rw (e, t) ih))

  new-other : (n e : ℕ) (os : List Operation) → d.commit < n → All (λ (x : Waiting). is_it d x ≡ false) (deletions n e 0 os)
  new-other n e os h = all_map (deletions n e 0 os) (λ x o. other-commit d x (λ s. let u = o.0 in omega arith)) (all_of n e 0 os)

  alike-off : (f : Former) (p : Plain) → SettledBy d f p → All (Alike d) p.waiting → All (Alike d) (taken_off f p).waiting
  alike-off gone p s a = a
  alike-off (former q) p s a = s.0

  waits-off : (f : Former) (p : Plain) → SettledBy d f p → any_of (is_it d) (taken_off f p).waiting ≡ any_of (is_it d) p.waiting
  waits-off gone p s = refl
  waits-off (former q) p s = s.1

  waits-counted : (os : List Operation) (r : Record) → Tagged d r → any_of (is_it d) (counted r.place os r.whole).waiting ≡ waits_in d r
  waits-counted os r t =
      let new = deletions r.place (epoch_of r.whole + 1) 0 os in
      any_of-await (is_it d) new r.whole.waiting
      ∙ ap (λ (b : Bool). b || waits_in d r) (none-any_of (is_it d) new (new-other r.place (epoch_of r.whole + 1) os t.earlier))

  tagged-turn : (k : Kind) (a : Bool) (id : ℕ) (r : Record) → (is_report k && a ≡ true → Settled d r) → Tagged d r → Tagged d (turn k a id r)
  tagged-turn quiet true id r s t = let h = t.earlier in record { earlier = omega arith; alike = t.alike }
  tagged-turn (as_commit made missing) true id r s t =
      let h = t.earlier in
      let new = deletions r.place (epoch_of r.whole + 1) 0 (made id r.whole.now) in
      let n = new-other r.place (epoch_of r.whole + 1) (made id r.whole.now) h in
      record { earlier = omega arith; alike = all-await (Alike d) new r.whole.waiting (all_map new (λ x f g. clash g f) n) t.alike }
  tagged-turn as_pin true id r s t = let h = t.earlier in record { earlier = omega arith; alike = t.alike }
  tagged-turn (as_unpin e) true id r s t = let h = t.earlier in record { earlier = omega arith; alike = t.alike }
  tagged-turn as_vacuum true id r s t =
      let h = t.earlier in
      record { earlier = omega arith; alike = all_keep (Alike d) (λ w. blocked (guards_in r.whole) w.epoch) r.whole.waiting t.alike }
  tagged-turn (as_report n) true id r s t = let h = t.earlier in record { earlier = omega arith; alike = alike-off r.former r.whole (s refl) t.alike }
  tagged-turn (as_checkpoint lent) true id r s t = let h = t.earlier in record { earlier = omega arith; alike = t.alike }
  tagged-turn (as_reopen lent) true id r s t = let h = t.earlier in record { earlier = omega arith; alike = tt }
  tagged-turn k false id r s t = let h = t.earlier in record { earlier = omega arith; alike = t.alike }

  -- whether it waits after a turn
  waits-turn : (k : Kind) (a : Bool) (id : ℕ) (r : Record) → (is_report k && a ≡ true → Settled d r) → Tagged d r
      → waits_in d (turn k a id r) ≡ cond (is_reopen k && a) false (cond (is_vacuum k && a) (blocked (guards_in r.whole) d.epoch && waits_in d r) (waits_in d r))
  waits-turn quiet true id r s t = refl
  waits-turn (as_commit made missing) true id r s t = waits-counted (made id r.whole.now) r t
  waits-turn as_pin true id r s t = refl
  waits-turn (as_unpin e) true id r s t = refl
  waits-turn as_vacuum true id r s t = kept-tag (blocked (guards_in r.whole)) r.whole.waiting t.alike
  waits-turn (as_report n) true id r s t = waits-off r.former r.whole (s refl)
  waits-turn (as_checkpoint lent) true id r s t = refl
  waits-turn (as_reopen lent) true id r s t = refl
  waits-turn quiet false id r s t = refl
  waits-turn (as_commit made missing) false id r s t = refl
  waits-turn as_pin false id r s t = refl
  waits-turn (as_unpin e) false id r s t = refl
  waits-turn as_vacuum false id r s t = refl
  waits-turn (as_report n) false id r s t = refl
  waits-turn (as_checkpoint lent) false id r s t = refl
  waits-turn (as_reopen lent) false id r s t = refl

  settled-pins : (f : Former) (p : Plain) (l : List PinEntry) → SettledBy d f p → SettledBy d f (with_pins l p)
  settled-pins gone p l s = tt
  settled-pins (former q) p l s = s

  settled-commit : (os : List Operation) (r : Record) → Tagged d r → SettledBy d (former r.whole) (counted r.place os r.whole)
  settled-commit os r t = (t.alike, sym (waits-counted os r t))

  settled-turn : (k : Kind) (a : Bool) (id : ℕ) (r : Record) → Tagged d r → Settled d r → Settled d (turn k a id r)
  settled-turn quiet true id r t s = tt
  settled-turn (as_commit made missing) true id r t s = settled-commit (made id r.whole.now) r t
  settled-turn as_pin true id r t s = settled-pins r.former r.whole _ s
  settled-turn (as_unpin e) true id r t s = settled-pins r.former r.whole _ s
  settled-turn as_vacuum true id r t s = tt
  settled-turn (as_report n) true id r t s = tt
  settled-turn (as_checkpoint lent) true id r t s = tt
  settled-turn (as_reopen lent) true id r t s = tt
  settled-turn k false id r t s = s

  -- a report leaves it as it is, or none comes before it does
  abbrev Steady : Record → List Event → Type 0
  Steady r es = Settled d r ⊎ (taken_back es ≡ false)

  steady-turn : (k : Kind) (a : Bool) (id : ℕ) (r : Record) (es : List Event) → Tagged d r → cond (a && not (is_pinning k)) (is_report k) (taken_back es) ≡ false → Steady (turn k a id r) es
  steady-turn quiet true id r es t n = inl tt
  steady-turn (as_commit made missing) true id r es t n = inl (settled-commit (made id r.whole.now) r t)
  steady-turn as_pin true id r es t n = inr n
  steady-turn (as_unpin e) true id r es t n = inr n
  steady-turn as_vacuum true id r es t n = inl tt
  steady-turn (as_report m) true id r es t n = inl tt
  steady-turn (as_checkpoint lent) true id r es t n = inl tt
  steady-turn (as_reopen lent) true id r es t n = inl tt
  steady-turn k false id r es t n = inr n

  none-reports : {P : Type 0} (k : Kind) (a : Bool) (later : Bool) → cond (a && not (is_pinning k)) (is_report k) later ≡ false → is_report k && a ≡ true → P
  none-reports quiet a later n h = clash h refl
  none-reports (as_commit made missing) a later n h = clash h refl
  none-reports as_pin a later n h = clash h refl
  none-reports (as_unpin e) a later n h = clash h refl
  none-reports as_vacuum a later n h = clash h refl
  none-reports (as_report m) true later n h = clash refl n
  none-reports (as_report m) false later n h = clash h refl
  none-reports (as_checkpoint lent) a later n h = clash h refl
  none-reports (as_reopen lent) a later n h = clash h refl

  -- where no pair of a list is d's, nothing in it is d
  none_is : (l : List Waiting) → All (Alike d) l → any_of (same d.pair) (pairs_of l) ≡ false → any_of (is_it d) l ≡ false
  none_is [] a n = refl
  none_is (x ∷ l) a n =
      let m = neither (same d.pair x.pair) (any_of (same d.pair) (pairs_of l)) n in
      by_cases (is_it d x)
      (λ t. clash (same_refl d.pair) (ap (same d.pair) (sym (a.0 t).1) ∙ m.0))
      (λ t. rw t (none_is l a.1 m.1))

  none_kept : (q : Waiting → Bool) (l : List Waiting) → any_of (same d.pair) (pairs_of l) ≡ false → any_of (same d.pair) (pairs_of (keep q l)) ≡ false
  none_kept q [] n = refl
  none_kept q (x ∷ l) n =
      let m = neither (same d.pair x.pair) (any_of (same d.pair) (pairs_of l)) n in
      by_cases (q x) (λ t. rw (t, m.0) (none_kept q l m.1)) (λ t. rw t (none_kept q l m.1))

  none_other : (l : List Waiting) → any_of (same d.pair) (pairs_of l) ≡ false → any_of (λ x. same d.pair x.pair && not (is_it d x)) l ≡ false
  none_other [] n = refl
  none_other (x ∷ l) n =
      let m = neither (same d.pair x.pair) (any_of (same d.pair) (pairs_of l)) n in
      rw m.0 (none_other l m.1)

  -- where pairs differ, one that is listed is d's if d waits and passes, and else another's
  listed-tag : (q : ℕ → Bool) (l : List Waiting) → All (Alike d) l → differ (pairs_of l) ≡ true
      → any_of (same d.pair) (pairs_of (keep (λ w. q w.epoch) l)) && not (any_of (λ x. same d.pair x.pair && not (is_it d x)) l) ≡ q d.epoch && any_of (is_it d) l
  listed-tag q [] a f = by_cases (q d.epoch) (λ e. rw e) (λ e. rw e)
  listed-tag q (x ∷ l) a f =
      let p = both (not (any_of (same x.pair) (pairs_of l))) (differ (pairs_of l)) f in
      let ih = listed-tag q l a.1 p.1 in
      by_cases (is_it d x)
      (λ t.
      let s = (a.0 t).0 in
      let k = (a.0 t).1 in
      let n : any_of (same d.pair) (pairs_of l) ≡ false = ap (λ y. any_of (same y) (pairs_of l)) (sym k) ∙ not-true _ p.0 in
      by_cases (q d.epoch)
      (λ e. rw (s, k, e, t, same_refl d.pair, none_other l n))
      (λ e. rw (s, e, none_kept (λ w. q w.epoch) l n)))
      (λ t. by_cases (same d.pair x.pair)
      (λ u.
      let n : any_of (same d.pair) (pairs_of l) ≡ false = ap (λ y. any_of (same y) (pairs_of l)) (same_true d.pair x.pair u) ∙ not-true _ p.0 in
      rw (t, u, none_is l a.1 n) (neither-way (any_of (same d.pair) (pairs_of (keep (λ w. q w.epoch) (x ∷ l)))) (q d.epoch)))
      (λ u. by_cases (q x.epoch) (λ e. rw e (rw (t, u) ih)) (λ e. rw e (rw (t, u) ih))))
    where
      neither-way : (b c : Bool) → b && false ≡ c && false
      neither-way true true = refl
      neither-way true false = refl
      neither-way false true = refl
      neither-way false false = refl

  -- an event lists it if it waits and the event frees it, in the record and by its own list
  module _ (r : Record) (e : Event) (t : Tagged d r) (s : Seen r e) where
    frees-and : vacuums e && (not (blocked (guards_in r.whole) d.epoch) && waits_in d r) ≡ frees d e && waits_in d r
    frees-and =
        sym (and_assoc (vacuums e) (not (blocked (guards_in r.whole) d.epoch)) (waits_in d r))
        ∙ ap (λ (g : Guards). (vacuums e && not (blocked g d.epoch)) && waits_in d r) (sym s.guards)

    removes-is : removes d r e ≡ frees d e && waits_in d r
    removes-is = ap (λ (x : Bool). vacuums e && x) (kept-tag (λ n. not (blocked (guards_in r.whole) n)) r.whole.waiting t.alike) ∙ frees-and

    lists-is : lists d r e ≡ frees d e && waits_in d r
    lists-is = by_cases (vacuums e)
        (λ v. ap (λ l. vacuums e && (any_of (same d.pair) l && not (another d r))) (s.list v)
        ∙ ap (λ (x : Bool). vacuums e && x) (listed-tag (λ n. not (blocked (guards_in r.whole) n)) r.whole.waiting t.alike s.apart) ∙ frees-and)
        (λ v. rw v)

    listing : (b : Bool) → frees d e && waits_in d r ≡ b → Listing b d r e
    listing b h = (removes-is ∙ h, lists-is ∙ h)

  -- after a turn it waits or not by what came of the call, x for a reopen and y for a vacuum, and by whether a pin keeps it
  after-gone : (x y z u : Bool) → u ≡ false → cond x false (cond y (z && u) u) ≡ false
  after-gone true y z u h = refl
  after-gone false true true u h = h
  after-gone false true false u h = refl
  after-gone false false z u h = h

  after-freed : (x y z u : Bool) → y && not z ≡ true → cond x false (cond y (z && u) u) ≡ false
  after-freed true y z u f = refl
  after-freed false true true u f = clash f refl
  after-freed false true false u f = refl
  after-freed false false z u f = clash f refl

  after-stayed : (x y z u : Bool) → x ≡ false → y && not z ≡ false → u ≡ true → cond x false (cond y (z && u) u) ≡ true
  after-stayed true y z u n f h = clash refl n
  after-stayed false true true u n f h = h
  after-stayed false true false u n f h = clash refl f
  after-stayed false false z u n f h = h

  module _ (r : Record) (e : Event) (es : List Event) (y : Steady r (e ∷ es)) (t : Tagged d r) where
    reported : is_report (kind_of e.call) && is_accepted e.told ≡ true → Settled d r
    reported h = ⊎_elim (λ s. s) (λ n. none-reports (kind_of e.call) (is_accepted e.told) (taken_back es) n h) y

    steady-next : Steady (next_record r e) es
    steady-next =
        ⊎_elim (λ s. inl (settled-turn (kind_of e.call) (is_accepted e.told) (value 0 e.told) r t s))
        (λ n. steady-turn (kind_of e.call) (is_accepted e.told) (value 0 e.told) r es t n) y

    abbrev keeps : Bool
    keeps = blocked (guards_in r.whole) d.epoch

    turned : waits_in d (next_record r e) ≡ cond (reopens e) false (cond (vacuums e) (keeps && waits_in d r) (waits_in d r))
    turned = waits-turn (kind_of e.call) (is_accepted e.told) (value 0 e.told) r reported t

    tagged-next : Tagged d (next_record r e)
    tagged-next = tagged-turn (kind_of e.call) (is_accepted e.told) (value 0 e.told) r reported t

    gone-next : waits_in d r ≡ false → waits_in d (next_record r e) ≡ false
    gone-next h = turned ∙ after-gone (reopens e) (vacuums e) keeps (waits_in d r) h

    module _ (b : guards_of (held_by e.before.manager) e.before.book ≡ guards_in r.whole) where
      frees-by : frees d e ≡ vacuums e && not keeps
      frees-by = ap (λ (g : Guards). vacuums e && not (blocked g d.epoch)) b

      freed-next : frees d e ≡ true → waits_in d (next_record r e) ≡ false
      freed-next f = turned ∙ after-freed (reopens e) (vacuums e) keeps (waits_in d r) (sym frees-by ∙ f)

      stayed-next : reopens e ≡ false → frees d e ≡ false → waits_in d r ≡ true → waits_in d (next_record r e) ≡ true
      stayed-next n f h = turned ∙ after-stayed (reopens e) (vacuums e) keeps (waits_in d r) n (sym frees-by ∙ f) h

  never : (r : Record) (es : List Event) → Steady r es → Tagged d r → AllSeen r es → waits_in d r ≡ false → NeverListed d r es
  never r [] y t b h = tt
  never r (e ∷ es) y t b h = (
    listing r e t b.0 false (rw h (by_cases (frees d e) (λ f. rw f) (λ f. rw f))),
    never (next_record r e) es (steady-next r e es y t) (tagged-next r e es y t) b.1 (gone-next r e es y t h),
  )

  first : (r : Record) (es : List Event) → Steady r es → Tagged d r → AllSeen r es → any_of reopens es ≡ false → waits_in d r ≡ true
      → ListedFirst d r es
  first r [] y t b n h = tt
  first r (e ∷ es) y t b n h =
      let m = neither (reopens e) (any_of reopens es) n in
      let l = listing r e t b.0 in
      let z = steady-next r e es y t in
      let x = tagged-next r e es y t in (
        λ f. (l true (join f h), never (next_record r e) es z x b.1 (freed-next r e es y t b.0.guards f)),
        λ f. (l false (ap (λ (x : Bool). x && waits_in d r) f), first (next_record r e) es z x b.1 m.1 (stayed-next r e es y t b.0.guards m.0 f h)),
      )

-- a deletion that has just begun to wait
abbrev Begun : Record → Waiting → Type 0
Begun r d = Tagged d r × (waits_in d r ≡ true)

each : (ws : List Waiting) (r : Record) (es : List Event) → All (Begun r) ws → AllSeen r es → any_of reopens es ≡ false → taken_back es ≡ false
    → EachListed ws r es
each [] r es a b n c = tt
each (w ∷ ws) r es a b n c = (first w r es (inr c) a.0.0 b n a.0.1, each ws r es a.1 b n c)

is-itself : (d : Waiting) → is_it d d ≡ true
is-itself d = rw (eq-eqb d.commit d.commit refl, eq-eqb d.operation d.operation refl)

all_there : (ws : List Waiting) → All (λ d. any_of (is_it d) ws ≡ true) ws
all_there [] = tt
all_there (w ∷ ws) = (rw (is-itself w), all_map ws (λ d h. rw h (or-true (is_it d w))) (all_there ws))

all_both : (P Q : Waiting → Type 0) (l : List Waiting) → All P l → All Q l → All (λ d. P d × Q d) l
all_both P Q [] p q = tt
all_both P Q (x ∷ l) p q = ((p.0, q.0), all_both P Q l p.1 q.1)

module _ (os : List Operation) (r : Record) (b : Below r) (q : Record) (place : q.place ≡ r.place + 1) (waiting : q.whole.waiting ≡ (counted r.place os r.whole).waiting) where
  abbrev made : List Waiting
  made = deletions r.place (epoch_of r.whole + 1) 0 os

  made_all : All (λ d. Of r.place (epoch_of r.whole + 1) d × From 0 os d) made
  made_all =
      all_both (Of r.place (epoch_of r.whole + 1)) (From 0 os) made (all_of r.place (epoch_of r.whole + 1) 0 os) (all_from r.place (epoch_of r.whole + 1) 0 os)

  begins : (d : Waiting) → Of r.place (epoch_of r.whole + 1) d → From 0 os d → any_of (is_it d) made ≡ true → Begun q d
  begins d o f h =
      let c = o.0 in
      let a : All (Alike d) (await made r.whole.waiting) =
      all-await (Alike d) made r.whole.waiting
      (all_map made (λ x p t. (p.0.1 ∙ sym o.1, p.1.0 ∙ ap (pair_from 0 os) (same_operation d x t) ∙ sym f.0)) made_all)
      (all_map r.whole.waiting (λ x p t. clash t (other-commit d x (λ s. omega arith))) b.whole) in
      (record { earlier = omega arith; alike = rw waiting a }, rw waiting (any_of-await (is_it d) made r.whole.waiting ∙ rw h))
    where
      same_operation : (d x : Waiting) → is_it d x ≡ true → x.operation ≡ d.operation
      same_operation d x t = eqb-true x.operation d.operation (both (eqb x.commit d.commit) (eqb x.operation d.operation) t).1

  all-begun : All (Begun q) made
  all-begun =
      all_map made (λ d p. begins d p.0.0 p.0.1 p.1)
      (all_both (λ d. Of r.place (epoch_of r.whole + 1) d × From 0 os d) (λ d. any_of (is_it d) made ≡ true) made made_all (all_there made))

opened : (k : Kind) (a : Bool) (id : ℕ) (r : Record) (es : List Event) → a ≡ true → Below r → AllSeen (turn k a id r) es → any_of reopens es ≡ false → taken_back es ≡ false
    → EachListed (deletions_by r id k) (turn k a id r) es
opened quiet a id r es t b k n c = tt
opened (as_commit made missing) true id r es t b k n c =
    let os = made id r.whole.now in
    let q = turn (as_commit made missing) true id r in
    each (deletions r.place (epoch_of r.whole + 1) 0 os) q es (all-begun os r b q refl refl) k n c
opened (as_commit made missing) false id r es t b k n c = clash t refl
opened as_pin a id r es t b k n c = tt
opened (as_unpin e) a id r es t b k n c = tt
opened as_vacuum a id r es t b k n c = tt
opened (as_report m) a id r es t b k n c = tt
opened (as_checkpoint lent) a id r es t b k n c = tt
opened (as_reopen lent) a id r es t b k n c = tt

pub deletions-hold : (r : Record) (es : List Event) → Below r → AllSeen r es → Deletions r es
deletions-hold r [] b k = tt
deletions-hold r (e ∷ es) b k =
    let c = kind_of e.call in
    let a = is_accepted e.told in
    let id = value 0 e.told in
    (λ t n u. opened c a id r es t b k.1 (not-true _ n) u, deletions-hold (next_record r e) es (below-turn c a id r b) k.1)
