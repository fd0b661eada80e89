-- A report keeps what holds between calls: it hands back the state before the last commit. It is refused by 31 alone. Assumes nothing.
use mathlib.Core.Path.{◌≡◌, refl, sym, ap, subst, ◌∙◌}
use mathlib.Core.Bool.{Bool, true, false, cond, not, ◌&&◌, ◌||◌, and-false}
use mathlib.Core.List.{List, [], ◌∷◌, ◌++◌}
use Prim.Native.Nat.{ℕ, ◌+◌}
use native.Mathlib.Omega.{arith}
use borrow.Author.Tests.{lt-ltb, le-ltb, le-leb, leb-true, leb-false, eqb-false}
use lib.Dec.{leb, ltb, eqb}
use lib.ListN.{length, take}
use Rattle.std.specs.Prelude.{Ok}
use Rattle.lists.specs.Keyed.{all_of}
use Rattle.lists.proofs.Tests.{by_cases, clash, both, neither}
use Rattle.ids.specs.declared.refusal.Refusal.TheVariants.{NotReportable}
use Rattle.ids.specs.Verdicts.{◌⇒◌, judged, Verdict}
use Rattle.ids.specs.Answers.{Told, told}
use Rattle.ids.proofs.Verdicts.{none-judged}
use Rattle.version_state.specs.State.{State}
use Rattle.pins.specs.declared.PinBook.{PinBook}
use Rattle.pins.specs.Book.{PinEntry, pins_of, valid_pin, bad_book, pinned}
use Rattle.pins.proofs.Facts.{good_book, book-good}
use Rattle.version_manager.specs.declared.VersionManager.{VersionManager}
use Rattle.version_manager.specs.Managers.{former_by, HandsBack}
use Rattle.version_manager.specs.Report.{report_verdict, reported_state}
use Rattle.version_manager.proofs.Laws.{report-laws}
use Rattle.plain_record.specs.Calls.{as_report}
use Rattle.plain_record.specs.Plain.{Plain, epoch_of, Former, gone, former, taken_off, Record, recorded, turn}
use Rattle.plain_record.specs.Run.{port, Append, World, world, is_accepted, value, reported, after_report, DidReport}
use Rattle.plain_record.specs.Claim.{is_former, may_report}
use Rattle.plain_record.proofs.Invariant.{Inv, Recalled}
use Rattle.plain_record.proofs.CommitIds.{next-rise}
use Rattle.plain_record.proofs.Stands.{Stands, accepted-stands, refused-stands, by-verdict}
use Rattle.plain_record.proofs.Pin.{filed-pins}

-- a place that is valid at the next epoch, and not on it, is valid at this one
valid-earlier : (e : ℕ) (p : PinEntry) → eqb p.epoch (e + 1) ≡ false → valid_pin (e + 1) p ≡ true → valid_pin e p ≡ true
valid-earlier e p n v =
    let x = both (ltb 0 p.count) (ltb 0 p.epoch && leb p.epoch (e + 1)) v in
    let y = both (ltb 0 p.epoch) (leb p.epoch (e + 1)) x.1 in
    rw (x.0, y.0, le-leb p.epoch e (omega (arith, leb-true p.epoch (e + 1) y.1, eqb-false p.epoch (e + 1) n)))

all-earlier : (e : ℕ) (l : List PinEntry) → pinned (e + 1) l ≡ false → all_of (valid_pin (e + 1)) l ≡ true → all_of (valid_pin e) l ≡ true
all-earlier e [] n v = refl
all-earlier e (p ∷ l) n v =
    let m = neither (eqb p.epoch (e + 1)) (pinned (e + 1) l) n in
    let k = both (valid_pin (e + 1) p) (all_of (valid_pin (e + 1)) l) v in
    rw (valid-earlier e p m.0 k.0) (all-earlier e l m.1 k.1)

-- a book that passes 28 passes it at the epoch before, if no pin is on the current one
book-earlier : (e : ℕ) (b : PinBook) → pinned (e + 1) (pins_of b) ≡ false → bad_book (e + 1) b ≡ false → bad_book e b ≡ false
book-earlier e b n f =
    let g = good_book (e + 1) b f in
    book-good e b (record { fits = g.fits; valid = all-earlier e (pins_of b) n g.valid; ordered = g.ordered })

-- what a report hands back, beside the record without the last commit
stands-reported : (m : VersionManager) (b : PinBook) (a : Append) (p : Plain) (f : Former) (n : ℕ) → Recalled m b a p f → bad_book (epoch_of p) b ≡ false → pins_of b ≡ p.pinned
    → leb m.append n ≡ false → pinned (epoch_of p) p.pinned ≡ false → Stands (reported_state m n) b (a.before ++ take n a.bytes) (taken_off f p)
stands-reported m b a p gone n k book pins few free = clash (le-leb m.append n (omega (arith, k))) few
stands-reported m b a p (former q) n k book pins few free =
    let f = former_by m in
    let e = k.current in
    record {
      book = book-earlier f.epoch b (rw (sym e, pins) free) (rw (sym e) book);
      epoch = k.epoch;
      tables = k.tables;
      pairs = k.pairs;
      vectors = k.vectors;
      pins = pins;
      waiting = k.waiting;
      next = next-rise f (reported_state m n) q.added (record { table = omega arith; rowset = omega arith; vector = omega arith }) k.next;
      file = filed-pins (a.before ++ take n a.bytes) (reported_state m n) p.pinned q (k.cut n (leb-false m.append n few));
    }

-- 31, by the record
may-is : (m : VersionManager) (b : PinBook) (a : Append) (p : Plain) (f : Former) (n : ℕ) → Recalled m b a p f
    → ltb n (length a.bytes) && (is_former f && not (pinned (epoch_of p) p.pinned)) ≡ not (leb m.append n || pinned (epoch_of p) p.pinned)
may-is m b a p gone n k = rw (le-leb m.append n (omega (arith, k))) (and-false (ltb n (length a.bytes)))
may-is m b a p (former q) n k =
    by_cases (leb m.append n)
    (λ t. rw (t, k.long, le-ltb n m.append (leb-true m.append n t)))
    (λ t. rw (t, k.long, lt-ltb n m.append (leb-false m.append n t)))

module _ (w : World) (r : Record) (t : Told) (l : List (List ℕ)) (v : World) (n : ℕ) (i : Inv w r) (d : DidReport port w t l v n) where
  abbrev m : VersionManager
  m = d.result.manager

  abbrev s : State
  s = reported_state w.manager n

  abbrev p : Plain
  p = r.whole

  -- 31
  abbrev late : Bool
  late = leb w.manager.append n || pinned (epoch_of p) p.pinned

  abbrev verdict : Verdict
  verdict = report_verdict w.manager w.book n

  verdict-is : verdict ≡ judged ((late ⇒ NotReportable) ∷ [])
  verdict-is = rw (i.sound, i.book, i.epoch, i.pins)

  abbrev answers : List ℕ
  answers = s.epoch ∷ s.manifest ∷ []

  tells : t ≡ told verdict answers
  tells = d.told ∙ d.says.answer

  accepted-late : verdict ≡ Ok tt → late ≡ false
  accepted-late q = (none-judged ((late ⇒ NotReportable) ∷ []) (sym verdict-is ∙ q)).0

  stands : verdict ≡ Ok tt → Stands s w.book (reported n w) (taken_off r.former p)
  stands q =
      let h = neither (leb w.manager.append n) (pinned (epoch_of p) p.pinned) (accepted-late q) in
      stands-reported w.manager w.book w.last p r.former n i.recalled (rw (← i.epoch) i.book) i.pins h.0 h.1

  abbrev Handed : Verdict → Type 0
  Handed x = HandsBack x w.manager s m

  handed-on : verdict ≡ Ok tt → Inv (world m w.book (reported n w) (reported n w) w.last) (recorded (taken_off r.former p) (taken_off r.former p) gone (r.place + 1))
  handed-on q =
      let h = subst Handed q d.says.manager in
      accepted-stands m w.book (reported n w) w.last s (taken_off r.former p) gone (r.place + 1)
      (report-laws.sound w.manager w.book n d.result d.says q) h.hands.state (stands q) h.nothing

  pub report-kept : (id : ℕ) → Inv v (turn (as_report n) (is_accepted t) id r)
  report-kept id =
      subst (λ (u : World). Inv u (turn (as_report n) (is_accepted t) id r)) (sym d.after)
      (by-verdict (λ a. Inv (world m w.book (cond a (reported n w) w.file) (cond a (reported n w) w.torn) w.last) (turn (as_report n) a id r)) verdict answers t tells
      handed-on
      (λ j q. refused-stands w r m w.book (subst Handed q d.says.manager) refl i))

  not-judged : (c : Bool) → is_accepted (told (judged ((c ⇒ NotReportable) ∷ [])) answers) ≡ not c
  not-judged true = refl
  not-judged false = refl

  pub report-refused : is_accepted t ≡ may_report n r w
  report-refused =
      ap is_accepted (tells ∙ ap (λ (x : Verdict). told x answers) verdict-is)
      ∙ not-judged late
      ∙ sym (may-is w.manager w.book w.last p r.former n i.recalled)

  pub report-answers : is_accepted t ≡ true → (value 0 t ≡ epoch_of (taken_off r.former p)) × (value 1 t ≡ length v.file)
  report-answers =
      by-verdict (λ a. a ≡ true → (value 0 t ≡ epoch_of (taken_off r.former p)) × (value 1 t ≡ length v.file)) verdict answers t tells
      (λ q h.
      let e : t ≡ told (Ok tt) answers = tells ∙ ap (λ (x : Verdict). told x answers) q in
      let f : v.file ≡ reported n w = ap (λ (x : World). x.file) (d.after ∙ ap (λ (x : Told). after_report m x n w) e) in
      (ap (value 0) e ∙ (stands q).epoch, ap (value 1) e ∙ sym (stands q).file.long ∙ ap length (sym f)))
      (λ k q h. clash h refl)
