-- One accepted call: what the Rust does, and that both sides stand beside one another again. Assumes nothing.
use mathlib.Core.Path.{◌≡◌, refl, sym, ap, subst, ◌∙◌}
use mathlib.Core.Bool.{Bool, true, false, cond, not, ◌&&◌, not-not}
use mathlib.Core.List.{List, [], ◌∷◌, map}
use Prim.Native.Nat.{ℕ, zero, suc, ◌+◌, ◌-◌, ◌≤◌}
use native.Mathlib.Omega.{arith}
use lib.Dec.{eqb, ltb}
use lib.ListN.{length, take}
use borrow.Author.Tests.{eqb-false, not-false}
use Rattle.std.specs.Prelude.{Result, Ok, Err}
use Rattle.std.specs.Result.{result_and}
use Rattle.lists.specs.Keyed.{has, is_at, arranged}
use Rattle.lists.proofs.Tests.{clash, positive}
use Rattle.lists.proofs.Keyed.{All, any_of-map, ascend-to}
use Rattle.ids.specs.declared.refusal.Refusal.{Refusal}
use Rattle.ids.specs.Answers.{told}
use Rattle.ids.proofs.Verdicts.{none-judged}
use Rattle.ids.specs.declared.TableNo.{TableNo}
use Rattle.ids.specs.declared.refusal.Refusal.TheVariants.{OutputTooShort}
use Rattle.ids.specs.Verdicts.{Verdict}
use Rattle.manifest.specs.Operations.{Operation}
use Rattle.snapshot.specs.Entries.{Entry, by_ids, shown}
use Rattle.version_state.specs.State.{State}
use Rattle.version_state.proofs.Facts.{sound-of}
use Rattle.pins.specs.Book.{PinEntry, pins_of, place_on, has_place}
use Rattle.pins.specs.Counts.{pins_at}
use Rattle.pins.proofs.Counting.{counted, pinned-after}
use Rattle.transaction_manager.specs.Locks.{relocked}
use Rattle.commit.specs.Commit.{append_of, commit_of}
use Rattle.commit.proofs.Sounds.{accepts}
use Rattle.commit.proofs.Stepwise.{halt}
use Rattle.table.specs.Made.{create_operations, drop_operations, compact_operations, committed}
use Rattle.table.specs.Create.{created_by}
use Rattle.table.specs.Drop.{dropped_by}
use Rattle.table.specs.Compact.{compacted_by}
use Rattle.table.proofs.Laws.{made-laws}
use Rattle.table.specs.Laws as Made
use Rattle.compaction.specs.New.{new_of}
use Rattle.vacuum.specs.LetGo.{vacuum_list, vacuumed}
use Rattle.vacuum.specs.Says.{bound_of, list_of}
use Rattle.rewrite.specs.Rewritten.{rewritten_of}
use Rattle.rewrite.specs.Says.{with_rewritten}
use Rattle.storage.specs.Reopen.{opened_of, ReopenIs}
use Rattle.version_manager.specs.Managers.{held_by, HandsBack, HandsOn}
use Rattle.version_manager.specs.Answered.{Committed}
use Rattle.version_manager.specs.Commit.{commit_told, CommitEnds, outcome_of}
use Rattle.version_manager.specs.Create.{create_verdict}
use Rattle.version_manager.specs.Drop.{drop_verdict}
use Rattle.version_manager.specs.Compact.{compact_verdict}
use Rattle.version_manager.specs.declared.VersionManager.{VersionManager}
use Rattle.version_manager.specs.Draw.{rowset_verdict, vector_verdict, rowset_drawn, vector_drawn}
use Rattle.version_manager.specs.Group.{vectors_drawn, grouped_by, group_verdict}
use Rattle.version_manager.specs.Lock.{lock_verdict, RelockSays}
use Rattle.version_manager.specs.Vacuum.{vacuum_verdict}
use Rattle.version_manager.specs.Checkpoint.{checkpoint_verdict}
use Rattle.pinning.specs.Says.{pin_rules, pin_verdict, unpin_rules, unpin_verdict, is_due, flag, ready_of}
use Rattle.plain_record.specs.Sets.{Sets, itself}
use Rattle.plain_record.specs.Calls.{Call, draw_rowset, draw_vector, group, lock, unlock, commit, create, drop, compact, pin, unpin, vacuum, report, checkpoint, reopen, kind_of}
use Rattle.plain_record.specs.Plain.{epoch_of, with_pins, kept, gone, Record, counts, accepts as accepted, one_pin, one_less, swept}
use Rattle.plain_record.specs.Plain as plain
use Rattle.plain_record.specs.Run.{World, world, Event, is_accepted, value, port, LinkBy, DidLock, DidReopen, replaced}
use Rattle.plain_record.specs.Claim.{AnswerBy, is_report}
use Rattle.plain_record.proofs.Invariant.{plain_sets, Inv, passes}
use Rattle.plain_record.proofs.Stands.{stands_of}
use Rattle.plain_record.proofs.Stands as stands
use Rattle.plain_record.proofs.Commit.{now-at}
use Rattle.compaction.proofs.Whole.{few-new}
use Rattle.plain_record.proofs.Pin.{with-pin}
use Rattle.plain_record.proofs.Unpin.{without-pin}
use Rattle.plain_record.proofs.Vacuum.{vacuum-pairs}
use Rattle.plain_record.proofs.Reopen.{at_one, pairs-stand, vectors-stand}
use Rattle.plain_record.proofs.Standing.{Standing, all_shown}
use Rattle.risinglight.specs.Maps.{}
use Rattle.risinglight.specs.Run.{Engine, landed, Commits, DoesBy, Draws}
use Rattle.risinglight.specs.VersionManager.{find_vacuum, Inner}
use Rattle.risinglight.specs.Storage.{NextId, next_id, storage}
use Rattle.risinglight.proofs.Starts.{Whole}
use Rattle.risinglight.proofs.Relation.{Rel, rel-landed, commits, pins-on, drops-one, vacuum-answer, vacuum-rel, starts-on, Beside}
use Rattle.risinglight.proofs.Held.{NotAbove, Pool, pool-landed, pool-commit, pool-vacuum, pool-start}
use Rattle.risinglight.proofs.Accepted.{refused-told, passed, commit-found, pinning-of, valid-pins, whole_of}

-- The step of one call.
pub record Stepped (Done : Engine → Type 0) (s : State) (r : Record) : Type 0 where
  pub engine : Engine
  pub does : Done engine
  pub rel : Rel engine r
  pub pool : Pool engine s r

module _ (cut : ℕ) (g : Engine) (r : Record) (k : Rel g r) (e : Event) (i : Inv e.before r) (pool : Pool g (held_by e.before.manager) r) (a : is_accepted e.told ≡ true) where
  abbrev w : World
  w = e.before

  abbrev m : State
  m = held_by w.manager

  abbrev held_after : State
  held_after = held_by e.after.manager

  abbrev StepOf : Call → Type 0
  StepOf c = Stepped (λ h. DoesBy cut g h e c) held_after (accepted (kind_of c) (value 0 e.told) r)

  quiet : (n : NextId) → Rel (landed g.running.version n g) (plain.landed r.whole r)
  quiet n = rel-landed (storage g.running.catalog g.running.version n g.running.manifest) r.whole g.starts gone (r.place + 1) (quiet-beside n)
    where
      quiet-beside : (n : NextId) → Beside (storage g.running.catalog g.running.version n g.running.manifest) r.whole
      quiet-beside n =
          let b = k.whole in
          record { epoch = b.epoch; now = b.now; status = b.status; counts = b.counts; waiting = b.waiting; up_to = b.up_to; catalog = b.catalog; file = b.file }

  -- the state s that an accepted verdict hands back
  back : (v : Verdict) (s : State) (o : VersionManager) → v ≡ Ok tt → HandsBack v w.manager s o → held_by o ≡ s
  back v s o q h = (subst (λ (x : Verdict). HandsBack x w.manager s o) q h).hands.state

  -- and of a commit
  back_on : (v : Verdict) (s : State) (n : ℕ) (o : VersionManager) → v ≡ Ok tt → HandsOn v w.manager s n o → held_by o ≡ s
  back_on v s n o q h = (subst (λ (x : Verdict). HandsOn x w.manager s n o) q h).hands.state

  more : (n : ℕ) (x y : ℕ) → NotAbove g.starts x y → NotAbove g.starts (x + n) (y + n)
  more n x y h = (omega (arith, h.0), λ z. ap (λ (u : ℕ). u + n) (h.1 z))

  -- the next ids rise on both sides
  draw-step : (s : State) (n : NextId) (mine theirs : ℕ) → held_after ≡ s → s.pairs ≡ m.pairs → s.vectors ≡ m.vectors
      → NotAbove g.starts mine theirs → value 0 e.told ≡ theirs → NotAbove g.starts n.rowset s.next_rowset → NotAbove g.starts n.dv s.next_vector
      → Stepped (λ h. Draws cut g h e mine (value 0 e.told) n) held_after (plain.landed r.whole r)
  draw-step s n mine theirs q x y z t u v =
      record {
        engine = landed g.running.version n g;
        does = record { not_above = rw t z.0; same = λ b. z.1 b ∙ sym t; after = refl };
        rel = quiet n;
        pool = subst (λ (o : State). Pool (landed g.running.version n g) o (plain.landed r.whole r)) (sym q) (pool-landed g m r pool g.running.version n s r.whole gone (r.place + 1) refl refl x y refl u v);
      }

  -- the Rust is not called
  abbrev Resting : Type 0
  Resting = Stepped (λ h. h ≡ landed g.running.version g.running.next g) held_after (plain.landed r.whole r)

  rest-step : (s : State) → held_after ≡ s → s.pairs ≡ m.pairs → s.vectors ≡ m.vectors → s.next_rowset ≡ m.next_rowset → s.next_vector ≡ m.next_vector → Resting
  rest-step s h x y u v =
      record {
        engine = landed g.running.version g.running.next g;
        does = refl;
        rel = quiet g.running.next;
        pool = subst (λ (o : State). Pool (landed g.running.version g.running.next g) o (plain.landed r.whole r)) (sym h)
            (pool-landed g m r pool g.running.version g.running.next s r.whole gone (r.place + 1) refl refl x y refl
            (subst (NotAbove g.starts g.running.next.rowset) (sym u) pool.next_rowset) (subst (NotAbove g.starts g.running.next.dv) (sym v) pool.next_dv));
      }

  lock-step : (b : Bool) (n : TableNo) → DidLock port w e.told e.listed e.after (λ o t x. RelockSays o t b x) n → Resting
  lock-step b n d =
      let q = passed (lock_verdict w.manager n.0 b) [] e.told (d.told ∙ d.says.answer) a in
      let s = relocked n.0 b m in
      rest-step s (ap (λ (x : World). held_by x.manager) d.after ∙ back (lock_verdict w.manager n.0 b) s d.result.manager q d.says.manager) refl refl refl refl

  -- one that counts as a commit of os, and hands back the state s
  commit-step : (z : ℕ) (os : List Operation) (room missing : ℕ) (s : State) → commit_of m z os room ≡ Ok s → held_after ≡ s → held_after.epoch ≡ epoch_of (counts os missing r).whole
      → Stepped (λ h. Commits cut g h e os missing) held_after (counts os missing r)
  commit-step z os room missing s h b q =
      let d = commits cut g r os missing k (commit-found w r z os room s i h) in
      let x = accepts m z os room s h in
      let y = x.state in
      record {
        engine = _;
        does = record { version = d.version; catalog = d.catalog; runs = d.runs; follows = d.follows; epoch = d.rel.whole.epoch ∙ sym q; after = refl };
        rel = d.rel;
        pool = pool-commit g m r pool cut os missing k d x.done held_after x.steps
            (ap (λ (u : State). u.pairs) (b ∙ sym y)) (ap (λ (u : State). u.vectors) (b ∙ sym y)) (ap (λ (u : State). u.next_rowset) (b ∙ sym y)) (ap (λ (u : State). u.next_vector) (b ∙ sym y));
      }

  -- the same operations, as the record makes them
  made-step : (os ps : List Operation) (out : List ℕ) (missing : ℕ) → os ≡ ps → Made.Accepts m os (length out) → held_after ≡ committed os m → held_after.epoch ≡ epoch_of (counts os missing r).whole
      → Stepped (λ h. Commits cut g h e os missing) held_after (counts ps missing r)
  made-step os ps out missing q h b c =
      subst (λ (l : List Operation). Stepped (λ h. Commits cut g h e os missing) held_after (counts l missing r)) q (commit-step (length os) os (length out) missing (committed os m) h b c)

  given-of : (os : List Operation) (out : List ℕ) (c : Committed) (lent : List ℕ) (x : Result State Refusal) → CommitEnds x w.manager os out c lent → e.told ≡ commit_told c.answer
      → (s : State) × (x ≡ Ok s) × (held_by c.manager ≡ s)
  given-of os out c lent (Ok s) h q = (s, refl, h.1.hands.state)
  given-of os out c lent (Err j) h q = absurd (refused-told j [] e.told (q ∙ h.0) a)

  -- the state before, as the record has it
  now-is : plain_sets m ≡ r.whole.now
  now-is = now-at w r i w.manager.inner.epoch (omega arith)

  due : (n : ℕ) → is_due w.manager n w.book ≡ eqb (pins_at (place_on n) r.whole.pinned - 1) 0 && not (eqb n (epoch_of r.whole))
  due n =
      ap (λ (b : Bool). not b && not (eqb n w.manager.inner.epoch)) (pinned-after n (pins_at (place_on n) (pins_of w.book) - 1) (pins_of w.book))
      ∙ ap (λ (b : Bool). b && not (eqb n w.manager.inner.epoch)) (not-not (eqb (pins_at (place_on n) (pins_of w.book) - 1) 0))
      ∙ ap (λ (l : List PinEntry). eqb (pins_at (place_on n) l - 1) 0 && not (eqb n w.manager.inner.epoch)) i.pins
      ∙ ap (λ (d : ℕ). eqb (pins_at (place_on n) r.whole.pinned - 1) 0 && not (eqb n d)) i.epoch

  -- other pins
  pool-pins : (v : Inner) (l : List PinEntry) → v.rowsets ≡ g.running.version.rowsets → v.dvs ≡ g.running.version.dvs → held_after ≡ m
      → Pool (landed v g.running.next g) held_after (plain.repinned l r)
  pool-pins v l x y q =
      subst (λ (o : State). Pool (landed v g.running.next g) o (plain.repinned l r)) (sym q)
      (pool-landed g m r pool v g.running.next m (with_pins l r.whole) r.former (r.place + 1) x y refl refl refl pool.next_rowset pool.next_dv)

  -- what a reopen that is accepted hands out holds what it shows
  reopened-holds : (out : List ℕ) (stale : Bool) → DidReopen port w e.told e.listed e.after out stale
      → (held_after.pairs ≡ i.torn.state.pairs) × (held_after.vectors ≡ i.torn.state.vectors)
  reopened-holds out stale d = go (opened_of (length out) i.torn.state) refl says
    where
      says : ReopenIs (opened_of (length out) i.torn.state) out d.result d.left
      says = rw i.torn.replayed at d.says

      after : e.after.manager ≡ d.result.manager
      after = ap (λ (x : World). x.manager) d.after ∙ ap (λ (b : Bool). (cond b (replaced d.result.manager d.result.book w.torn (take (value 0 e.told) d.left) stale) w).manager) a

      go : (x : Result State Refusal) → opened_of (length out) i.torn.state ≡ x → ReopenIs x out d.result d.left → (held_after.pairs ≡ i.torn.state.pairs) × (held_after.vectors ≡ i.torn.state.vectors)
      go (Err j) q h = absurd (refused-told j [] e.told (d.told ∙ h.0) a)
      go (Ok s) q h =
          let z : held_after ≡ s = ap held_by after ∙ h.1.hands.state in
          let y = opened-lists (ltb (length out) (length (rewritten_of i.torn.state))) q in
          (ap (λ (u : State). u.pairs) z ∙ y.0, ap (λ (u : State). u.vectors) z ∙ y.1)
        where
          opened-lists : (b : Bool) → result_and {T = Unit} (cond b (Err OutputTooShort) (Ok tt)) (Ok (with_rewritten i.torn.state)) ≡ Ok s
              → (s.pairs ≡ i.torn.state.pairs) × (s.vectors ≡ i.torn.state.vectors)
          opened-lists true h = absurd (halt h)
          opened-lists false h =
              let q : with_rewritten i.torn.state ≡ s = cc in
              (sym (ap (λ (u : State). u.pairs) q), sym (ap (λ (u : State). u.vectors) q))

  pub step : (c : Call) → is_report (kind_of c) ≡ false → LinkBy port w e.told e.listed e.after c → Inv e.after (accepted (kind_of c) (value 0 e.told) r) → AnswerBy r e (kind_of c) → StepOf c
  step draw_rowset u d j s =
      let v = rowset_verdict w.manager in
      let q = passed v (m.next_rowset ∷ []) e.told (d.told ∙ d.says.answer) a in
      draw-step (rowset_drawn m) (next_id (g.running.next.rowset + 1) g.running.next.dv) g.running.next.rowset m.next_rowset
      (ap (λ (x : World). held_by x.manager) d.after ∙ back v (rowset_drawn m) d.result.manager q d.says.manager) refl refl
      pool.next_rowset (ap (value 0) (d.told ∙ d.says.answer ∙ ap (λ (y : Verdict). told y (m.next_rowset ∷ [])) q)) (more 1 g.running.next.rowset m.next_rowset pool.next_rowset) pool.next_dv
  step draw_vector u d j s =
      let v = vector_verdict w.manager in
      let q = passed v (m.next_vector ∷ []) e.told (d.told ∙ d.says.answer) a in
      draw-step (vector_drawn m) (next_id g.running.next.rowset (g.running.next.dv + 1)) g.running.next.dv m.next_vector
      (ap (λ (x : World). held_by x.manager) d.after ∙ back v (vector_drawn m) d.result.manager q d.says.manager) refl refl
      pool.next_dv (ap (value 0) (d.told ∙ d.says.answer ∙ ap (λ (y : Verdict). told y (m.next_vector ∷ [])) q)) pool.next_rowset (more 1 g.running.next.dv m.next_vector pool.next_dv)
  step (group h rs ls cs fs ms) u d j s =
      let n = length (grouped_by h) in
      let v = group_verdict w.manager h rs ls cs fs ms in
      let q = passed v (n ∷ m.next_vector ∷ []) e.told (d.told ∙ d.says.answer) a in
      let t = d.told ∙ d.says.answer ∙ ap (λ (y : Verdict). told y (n ∷ m.next_vector ∷ [])) q in
      let b = ap (λ (x : World). held_by x.manager) d.after ∙ back v (vectors_drawn n m) d.result.manager q d.says.manager in
      let next = next_id g.running.next.rowset (g.running.next.dv + value 0 e.told) in
      let count : value 0 e.told ≡ n = ap (value 0) t in
      let first : value 1 e.told ≡ m.next_vector = ap (value 1) t in
      record {
        engine = landed g.running.version next g;
        does = record { not_above = rw first pool.next_dv.0; same = λ z. pool.next_dv.1 z ∙ sym first; after = refl };
        rel = quiet next;
        pool = subst (λ (o : State). Pool (landed g.running.version next g) o (plain.landed r.whole r)) (sym b)
            (pool-landed g m r pool g.running.version next (vectors_drawn n m) r.whole gone (r.place + 1) refl refl refl refl refl pool.next_rowset
            (subst (λ (x : ℕ). NotAbove g.starts (g.running.next.dv + x) (m.next_vector + n)) (sym count) (more n g.running.next.dv m.next_vector pool.next_dv)));
      }
  step (lock n) u d j s = lock-step true n d
  step (unlock n) u d j s = lock-step false n d
  step (commit os out missing) u d j s =
      let same_outcome : outcome_of w.manager d.count os (length out) ≡ commit_of m d.count os (length out) = rw i.sound in
      let says = subst (λ (y : Result State Refusal). CommitEnds y w.manager os out d.result d.left) same_outcome d.says in
      let x = given-of os out d.result d.left (commit_of m d.count os (length out)) says d.told in
      commit-step d.count os (length out) missing x.0 x.1 (ap (λ (y : World). held_by y.manager) d.after ∙ x.2) j.epoch
  step (create shape name out missing) u d j s =
      let os = created_by m shape name in
      let vs = m.next_table ∷ (m.epoch + 1) ∷ length (append_of os) ∷ [] in
      let v = create_verdict w.manager shape name (length out) in
      let q = passed v vs e.told (d.told ∙ d.says.answer) a in
      let id : value 0 e.told ≡ m.next_table = ap (value 0) (d.told ∙ d.says.answer ∙ ap (λ (y : Verdict). told y vs) q) in
      subst (λ (n : ℕ). Stepped (λ h. Commits cut g h e (create_operations n shape name) missing) held_after (counts (create_operations n shape name) missing r)) (sym id)
      (commit-step (length os) os (length out) missing (committed os m) (made-laws.create w.manager.inner shape name (length out) (passes w r i) d.narrow (rw i.sound at q))
      (ap (λ (y : World). held_by y.manager) d.after ∙ back_on v (committed os m) (length (append_of os)) d.result.manager q d.says.manager) j.epoch)
  step (drop n out missing) u d j s =
      let os = dropped_by m n in
      let v = drop_verdict w.manager n (length out) in
      let q = passed v ((m.epoch + 1) ∷ length (append_of os) ∷ []) e.told (d.told ∙ d.says.answer) a in
      made-step os (drop_operations n r.whole.now.pairs r.whole.now.vectors) out missing
      (ap (λ (z : Sets). drop_operations n z.pairs z.vectors) now-is)
      (made-laws.drop w.manager.inner n (length out) (passes w r i) d.narrow (rw i.sound at q))
      (ap (λ (y : World). held_by y.manager) d.after ∙ back_on v (committed os m) (length (append_of os)) d.result.manager q d.says.manager) j.epoch
  step (compact n new taken out missing) u d j s =
      let os = compacted_by m n (new_of new) taken in
      let v = compact_verdict w.manager n (new_of new) taken (length out) in
      let q = passed v ((m.epoch + 1) ∷ length (append_of os) ∷ []) e.told (d.told ∙ d.says.answer) a in
      made-step os (compact_operations n (new_of new) taken r.whole.now.vectors) out missing
      (ap (λ (z : Sets). compact_operations n (new_of new) taken z.vectors) now-is)
      (made-laws.compact w.manager.inner n (new_of new) taken (length out) (passes w r i) d.narrow (few-new new) (rw i.sound at q)).accepts
      (ap (λ (y : World). held_by y.manager) d.after ∙ back_on v (committed os m) (length (append_of os)) d.result.manager q d.says.manager) j.epoch
  step pin u d j s =
      let o = w.manager in
      let q = passed (pin_verdict o w.book) (o.inner.epoch ∷ []) e.told (d.told ∙ d.says.answer) a in
      let z = (none-judged (pin_rules o w.book) q).1.1.0 in
      let p = pins-on g r k (positive (epoch_of r.whole) (λ n. eqb-false o.inner.epoch 0 z (i.epoch ∙ n))) in
      let l = one_pin (epoch_of r.whole) r.whole.pinned in
      record {
        engine = landed p.result.left g.running.next g;
        does = record { result = p.result; runs = p.runs; answer = p.answer ∙ sym (s a); after = refl };
        rel = subst (λ (l : List PinEntry). Rel (landed p.result.left g.running.next g) (plain.repinned l r)) (with-pin (epoch_of r.whole) r.whole.pinned) p.rel;
        pool = pool-pins p.result.left l p.rowsets p.dvs (ap (λ (y : World). held_by y.manager) d.after);
      }
  step (unpin n) u d j s =
      let o = w.manager in
      let vs = flag (is_due o n w.book) ∷ ready_of d.answer ∷ [] in
      let q = passed (unpin_verdict o n w.book) vs e.told (d.told ∙ d.says.answer) a in
      let z = not-false (has_place (place_on n) (pins_of w.book)) (none-judged (unpin_rules o n w.book) q).1.1.0 in
      let c = counted o.inner.epoch (place_on n) r.whole.pinned (valid-pins w r i) (subst (λ (l : List PinEntry). has_place (place_on n) l ≡ true) i.pins z) in
      let p = drops-one g r k n c.some in
      record {
        engine = landed p.result.left g.running.next g;
        does = record { result = p.result; runs = p.runs; answer = ap flag (p.answer ∙ sym (due n)) ∙ sym (ap (value 0) (d.told ∙ d.says.answer ∙ ap (λ (y : Verdict). told y vs) q)); after = refl };
        rel = subst (λ (l : List PinEntry). Rel (landed p.result.left g.running.next g) (plain.repinned l r)) (without-pin n r.whole.pinned) p.rel;
        pool = pool-pins p.result.left (one_less n r.whole.pinned) p.rowsets p.dvs (ap (λ (y : World). held_by y.manager) d.after);
      }
  step (vacuum ts rs) u d j s =
      let p = pinning-of w.manager.inner.epoch r.whole.pinned (valid-pins w r i) in
      let b = bound_of m w.book in
      let v = vacuum_verdict w.manager w.book (length ts) (length rs) in
      let q = passed v (length (list_of m w.book) ∷ []) e.told (d.told ∙ d.says.answer) a in
      let listed-pairs : e.listed ≡ map by_ids (vacuum_list b m) = vacuum-pairs w r e.told e.listed e.after ts rs i d a in
      let answer = vacuum-answer g r k p ∙ ap (arranged itself) (sym (s a).0) in
      record {
        engine = landed (find_vacuum g.running.version).left g.running.next g;
        does = record { answer = answer; after = refl };
        rel = vacuum-rel g r k p;
        pool = pool-vacuum g m r pool b held_after (swept r.whole) (r.place + 1) (ascend-to by_ids m.pairs (sound-of w.manager.inner (passes w r i)).ordered.pairs)
            (ap (λ (y : World). held_by y.manager) d.after ∙ back v (vacuumed b m) d.result.manager q d.says.manager) (answer ∙ ap (arranged itself) listed-pairs) refl;
      }
  step (report n) u d j s = clash refl u
  step (checkpoint out stale) u d j s =
      let n = d.result.manager in
      let v = checkpoint_verdict w.manager (length out) in
      let q = passed v (length (rewritten_of m) ∷ []) e.told (d.told ∙ d.says.answer) a in
      let after : e.after.manager ≡ n =
      ap (λ (x : World). x.manager) d.after
      ∙ ap (λ (b : Bool). (cond b (replaced n w.book w.file (take (value 0 e.told) d.left) stale) (world n w.book w.file w.torn w.last)).manager) a in
      rest-step (with_rewritten m) (ap held_by after ∙ back v (with_rewritten m) n q d.says.manager) refl refl refl refl
  step (reopen out stale) u d j s =
      let x = stands.shows-now held_after e.after.book e.after.file (kept r.torn) (stands_of e.after (plain.landed (kept r.torn) r) j) in
      let p = starts-on g r k stale (subst Whole x (whole_of e.after (plain.landed (kept r.torn) r) j)) in
      let t = i.torn in
      let y = reopened-holds out stale d in
      let has_all : (n : List ℕ) (l : List Entry) → All Standing l → has itself n (shown t.state.epoch l) ≡ has by_ids n l =
      λ n l h. ap (has itself n) (all_shown t.state.epoch l (omega (arith, at_one w.torn t.state t.replayed)) h) ∙ any_of-map by_ids (is_at itself n) l in
      record {
        engine = _;
        does = record { result = p.started.result; runs = p.started.runs; after = refl };
        rel = p.rel;
        pool = pool-start g m r pool p.started stale held_after
            (λ n. ap (has by_ids n) y.0 ∙ sym (has_all n t.state.pairs (pairs-stand w.torn t.state t.replayed)) ∙ ap (λ (z : Sets). has itself n z.pairs) t.sets)
            (λ n. ap (has by_ids n) y.1 ∙ sym (has_all n t.state.vectors (vectors-stand w.torn t.state t.replayed)) ∙ ap (λ (z : Sets). has itself n z.vectors) t.sets)
            j.next;
      }
