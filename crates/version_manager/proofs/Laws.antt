-- What fresh, draw, group, a checkpoint, a commit and a report hand out passes 29. Assumes nothing.
use mathlib.Core.Path.{◌≡◌, refl, sym, ap, subst, ◌∙◌}
use mathlib.Core.Bool.{true, false}
use mathlib.Core.List.{List, [], ◌∷◌}
use Prim.Native.Nat.{ℕ, ◌+◌, ◌<◌, ◌≤◌}
use native.Mathlib.Omega.{arith}
use borrow.Author.Tests.{le-ltb, le-leb, leb-false}
use lib.Dec.{leb, ltb}
use lib.ListN.{length}
use Rattle.std.specs.Prelude.{Result, Ok, Err}
use Rattle.lists.specs.Keyed.{all_of}
use Rattle.lists.proofs.Tests.{neither}
use Rattle.lists.proofs.Keyed.{all_map, all_of-all, all-all_of}
use Rattle.ids.specs.declared.refusal.Refusal.{Refusal}
use Rattle.ids.specs.declared.refusal.Refusal.TheVariants.{BadManager, BadPinBook, NotReportable}
use Rattle.ids.specs.Verdicts.{◌⇒◌, judged, Verdict}
use Rattle.ids.proofs.Verdicts.{none-judged}
use Rattle.ids.specs.Ids.{largest32, largest64}
use Rattle.text.specs.Name.{is_name}
use Rattle.snapshot.specs.Entries.{Entry, within}
use Rattle.version_state.specs.declared.VersionManagerInner.{VersionManagerInner}
use Rattle.ids.specs.Limits.{longest_manifest}
use Rattle.version_state.specs.State.{State, start, state_of, with_next, with_epoch, lengthened, Hands}
use Rattle.version_state.specs.Sound.{left_behind, bad_inner}
use Rattle.version_state.proofs.Within.{Rises, within_of, of-within, within-up}
use Rattle.version_state.proofs.Facts.{Ordered, sound-of, of-sound}
use Rattle.manifest.specs.Operations.{Operation}
use Rattle.pins.specs.declared.PinBook.{PinBook}
use Rattle.pins.specs.Book.{pins_of, bad_book, pinned}
use Rattle.commit.specs.Commit.{append_of, commit_of}
use Rattle.commit.proofs.Stepwise.{steps-manifest}
use Rattle.commit.proofs.Sounds.{accepts, onward-given, commit-sound}
use Rattle.rewrite.specs.Rewritten.{rewritten_of}
use Rattle.rewrite.specs.Says.{rewrite_rules, with_rewritten}
use Rattle.transaction.specs.Groups.{handles_of}
use Rattle.transaction.specs.Says.{group_rules}
use Rattle.version_manager.specs.declared.VersionManager.{VersionManager}
use Rattle.version_manager.specs.Answered.{Committed, Reported}
use Rattle.version_manager.specs.Managers.{held_by, bad_manager, Follows, HandsBack}
use Rattle.version_manager.specs.Draw.{draw_rules, rowset_verdict, vector_verdict, rowset_drawn, vector_drawn}
use Rattle.version_manager.specs.Group.{vectors_drawn, grouped_by, group_verdict}
use Rattle.version_manager.specs.Checkpoint.{checkpoint_verdict}
use Rattle.version_manager.specs.Commit.{outcome_of, CommitEnds, CommitSays}
use Rattle.version_manager.specs.Report.{not_reportable, report_verdict, reported_state, ReportSays}
use Rattle.version_manager.specs.Laws.{DrawLaws, CheckpointLaws, CommitLaws, ReportLaws}
use Rattle.version_manager.proofs.Managers.{inner-passes, kept-passes, nothing-passes, both-pass}

-- entries stay within next ids that rise
entries-up : (e : ℕ) (ns ms : List ℕ) (l : List Entry) → Rises ns ms → all_of (within e ns) l ≡ true → all_of (within e ms) l ≡ true
entries-up e ns ms l r t =
    all-all_of (within e ms) l (all_map l (of-within e ms) (within-up e e ns ms (omega arith) r l (all_map l (within_of e ns) (all_of-all (within e ns) l t))))

-- what 29 asks of a state, its counts aside
record Passes (s : State) : Type 0 where
  manifest : s.manifest ≤ longest_manifest
  names : all_of (λ x. is_name x.name) s.tables ≡ true
  ordered : Ordered s
  below : all_of (λ x. ltb x.table s.next_table) s.tables ≡ true
  pairs : all_of (within s.epoch (s.next_table ∷ s.next_rowset ∷ [])) s.pairs ≡ true
  vectors : all_of (within s.epoch (s.next_table ∷ s.next_rowset ∷ s.next_vector ∷ [])) s.vectors ≡ true
  whole : left_behind s.epoch s ≡ false

-- a manager that stands for such a state
handed-sound : (n : VersionManagerInner) (s : State) → Hands n s → Passes s → bad_inner n ≡ false
handed-sound n s k p =
    let q = subst Passes (sym k.state) p in
    of-sound n
    (record { fits = k.fits; manifest = q.manifest; names = q.names; ordered = q.ordered; below = q.below; pairs = q.pairs; vectors = q.vectors; whole = q.whole })

-- next ids of rowsets and vectors that rise leave a manager that passes 29 passing it
raised-sound : (m n : VersionManagerInner) (r v : ℕ) → (state_of m).next_rowset ≤ r → (state_of m).next_vector ≤ v
    → bad_inner m ≡ false → Hands n (with_next (state_of m) (state_of m).next_table r v) → bad_inner n ≡ false
raised-sound m n r v hr hv b k =
    let s = sound-of m b in
    let t = state_of m in
    handed-sound n (with_next t t.next_table r v) k
    (record {
      manifest = s.manifest;
      names = s.names;
      ordered = record { tables = s.ordered.tables; pairs = s.ordered.pairs; vectors = s.ordered.vectors };
      below = s.below;
      pairs = entries-up t.epoch (t.next_table ∷ t.next_rowset ∷ []) (t.next_table ∷ r ∷ []) t.pairs (omega arith, (hr, tt)) s.pairs;
      vectors = entries-up t.epoch (t.next_table ∷ t.next_rowset ∷ t.next_vector ∷ []) (t.next_table ∷ r ∷ v ∷ []) t.vectors (omega arith, (hr, (hv, tt))) s.vectors;
      whole = s.whole;
    })

-- and so does a manifest of another length that is within the limit
resized-sound : (m n : VersionManagerInner) (l : ℕ) → l ≤ longest_manifest → bad_inner m ≡ false → Hands n (with_epoch (state_of m) m.epoch l) → bad_inner n ≡ false
resized-sound m n l h b k =
    let s = sound-of m b in
    handed-sound n (with_epoch (state_of m) m.epoch l) k
    (record {
      manifest = h;
      names = s.names;
      ordered = record { tables = s.ordered.tables; pairs = s.ordered.pairs; vectors = s.ordered.vectors };
      below = s.below;
      pairs = s.pairs;
      vectors = s.vectors;
      whole = s.whole;
    })

start-sound : (n : VersionManagerInner) → Hands n start → bad_inner n ≡ false
start-sound n k =
    handed-sound n start k
    (record { manifest = omega arith; names = refl; ordered = record { tables = refl; pairs = refl; vectors = refl }; below = refl; pairs = refl; vectors = refl; whole = refl })

-- an accepted call that drops what was kept
handed-back : (d : Verdict) (m n : VersionManager) (s : State) → d ≡ Ok tt → HandsBack d m s n → (Hands n.inner s → bad_inner n.inner ≡ false) → bad_manager n ≡ false
handed-back (Ok _) m n s e h f = nothing-passes n (f h.hands) h.nothing
handed-back (Err k) m n s e h f = absurd (let z : ◌≡◌ {A = ℕ} 0 1 = cc in omega arith)

-- a commit by a manager that passes 29
pub commit-passes : (m n : VersionManager) (k : ℕ) (os : List Operation) (room : ℕ) (s : State) → bad_manager m ≡ false → commit_of (held_by m) k os room ≡ Ok s
    → Follows n s (held_by m) (length (append_of os)) → bad_manager n ≡ false
commit-passes m n k os room s b h f =
    let good = inner-passes m b in
    let now = commit-sound m.inner n.inner k os room s good h f.hands in
    let a = accepts (held_by m) k os room s h in
    let long : n.inner.manifest ≡ a.done.manifest + length (append_of os) = ap (λ (x : State). x.manifest) (f.hands.state ∙ sym a.state) in
    both-pass n now
    (resized-sound m.inner (lengthened n.append n.kept) (m.inner.manifest + n.append)
    (omega (arith, f.append, long, steps-manifest (m.inner.epoch + 1) os (held_by m) a.done a.steps, (sound-of n.inner now).manifest))
    good
    (record { fits = record { tables = f.former.fits.tables; rowsets = f.former.fits.rowsets; vectors = f.former.fits.vectors }; state = ap (λ (x : State). with_epoch x x.epoch (x.manifest + n.append)) f.former.state }))

pub draw-laws : DrawLaws
draw-laws =
    record {
      fresh = λ r h. nothing-passes r.manager (start-sound r.manager.inner h.manager.hands) h.manager.nothing;
      rowset = λ m r h a.
          handed-back (rowset_verdict m) m r.manager (rowset_drawn (held_by m)) a h.manager
          (raised-sound m.inner r.manager.inner ((held_by m).next_rowset + 1) (held_by m).next_vector (omega arith) (omega arith) (inner-passes m (none-judged (draw_rules m (held_by m).next_rowset largest32) a).0));
      vector = λ m r h a.
          handed-back (vector_verdict m) m r.manager (vector_drawn (held_by m)) a h.manager
          (raised-sound m.inner r.manager.inner (held_by m).next_rowset ((held_by m).next_vector + 1) (omega arith) (omega arith) (inner-passes m (none-judged (draw_rules m (held_by m).next_vector largest64) a).0));
      group = λ m h rs ls cs fs ms g rs' ls' cs' fs' ms' w a.
          handed-back (group_verdict m h rs ls cs fs ms) m g.manager (vectors_drawn (length (grouped_by h)) (held_by m)) a w.manager
          (raised-sound m.inner g.manager.inner (held_by m).next_rowset ((held_by m).next_vector + length (grouped_by h)) (omega arith) (omega arith)
          (inner-passes m (none-judged ((bad_manager m ⇒ BadManager) ∷ group_rules (handles_of h) h.count (held_by m).next_vector (length rs) (length ls) (length cs) (length fs) (length ms)) a).0));
    }

pub checkpoint-laws : CheckpointLaws
checkpoint-laws =
    record {
      sound = λ m out r out' w a.
          let good = (none-judged ((bad_manager m ⇒ BadManager) ∷ rewrite_rules (length out) (held_by m)) a).0 in
          handed-back (checkpoint_verdict m (length out)) m r.manager (with_rewritten (held_by m)) a w.manager
          (resized-sound m.inner r.manager.inner (length (rewritten_of (held_by m))) (omega (arith, w.room good)) (inner-passes m good));
      accepted = λ m out r out' w good h. rw (good, le-ltb (length out) (length (rewritten_of (held_by m))) (omega (arith, w.room good, h)));
    }

ended : (m : VersionManager) (n : ℕ) (os : List Operation) (out : List ℕ) (s : State) (r : Committed) (out' : List ℕ)
    → outcome_of m n os (length out) ≡ Ok s → CommitSays m n os out r out' → bad_manager r.manager ≡ false
ended m n os out s r out' h w =
    let p = onward-given (judged ((bad_manager m ⇒ BadManager) ∷ [])) (commit_of (held_by m) n os (length out)) s h in
    let e : CommitEnds (Ok s) m os out r out' = subst (λ (x : Result State Refusal). CommitEnds x m os out r out') h w in
    commit-passes m r.manager n os (length out) s (none-judged ((bad_manager m ⇒ BadManager) ∷ []) p.0).0 p.1 e.1

pub ended-laws : CommitLaws
ended-laws = record { sound = ended }

taken_back : (m : VersionManager) (b : PinBook) (landed : ℕ) (r : Reported) → ReportSays m b landed r → report_verdict m b landed ≡ Ok tt → bad_manager r.manager ≡ false
taken_back m b landed r w a =
    let p = none-judged ((bad_manager m ⇒ BadManager) ∷ (bad_book (held_by m).epoch b ⇒ BadPinBook) ∷ (not_reportable m b landed ⇒ NotReportable) ∷ []) a in
    let few : landed < m.append = leb-false m.append landed (neither (leb m.append landed) (pinned (held_by m).epoch (pins_of b)) p.1.1.0).0 in
    let good = kept-passes m landed few p.0 in
    handed-back (report_verdict m b landed) m r.manager (reported_state m landed) a w.manager
    (resized-sound (lengthened m.append m.kept) r.manager.inner (m.kept.manifest + landed) (omega (arith, few, (sound-of (lengthened m.append m.kept) good).manifest)) good)

pub report-laws : ReportLaws
report-laws =
    record {
      sound = taken_back;
      nothing = λ m s b landed w. rw (le-leb m.append landed (omega (arith, w.nothing)));
    }
