-- A call that counts as a commit keeps the invariant, and a commit is one. Assumes nothing.
use mathlib.Core.Path.{◌≡◌, refl, sym, ap, subst, ◌∙◌}
use mathlib.Core.Bool.{true, false}
use mathlib.Core.List.{List, [], ◌∷◌, ◌++◌, map}
use Prim.Native.Nat.{ℕ, ◌+◌, ◌-◌, ◌≤◌}
use native.Mathlib.Omega.{arith}
use lib.ListN.{length, take, length-append}
use lib.Seq.{take_all}
use Rattle.std.specs.Prelude.{Result, Ok, Err}
use Rattle.lists.specs.Keyed.{all_of}
use Rattle.lists.specs.Written.{over}
use Rattle.ids.specs.declared.refusal.Refusal.{Refusal}
use Rattle.ids.specs.Verdicts.{Verdict}
use Rattle.ids.specs.Answers.{Told, told, after}
use Rattle.manifest.specs.Operations.{Operation}
use Rattle.version_state.specs.State.{State, pairs_at, vectors_at}
use Rattle.version_state.specs.Sound.{bad_inner}
use Rattle.pins.specs.Guards.{guards_of, bound}
use Rattle.pins.proofs.Bound.{bound-le, bound-rises}
use Rattle.pins.proofs.Books.{book-later}
use Rattle.commit.specs.Commit.{commit_of, append_of}
use Rattle.commit.proofs.Older.{older-pairs, older-vectors}
use Rattle.version_manager.specs.declared.VersionManager.{VersionManager}
use Rattle.version_manager.specs.Answered.{Committed}
use Rattle.version_manager.specs.Managers.{held_by, bad_manager, Follows, HandsOn}
use Rattle.version_manager.proofs.Managers.{inner-passes}
use Rattle.version_manager.proofs.Laws.{commit-passes}
use Rattle.version_manager.specs.Commit.{outcome_of, commit_told, CommitEnds}
use Rattle.table.specs.Made.{committed, create_operations, drop_operations, compact_operations}
use Rattle.table.specs.Create.{created_by}
use Rattle.table.specs.Drop.{dropped_by}
use Rattle.table.specs.Compact.{compacted_by}
use Rattle.std.specs.Prelude.{Some, None}
use Rattle.compaction.specs.New.{NewRowset, new_of}
use Rattle.table.specs.Laws.{Accepts}
use Rattle.table.proofs.Laws.{made-laws}
use Rattle.version_manager.specs.Create.{create_verdict}
use Rattle.version_manager.specs.Drop.{drop_verdict}
use Rattle.version_manager.specs.Compact.{compact_verdict}
use Rattle.plain_record.specs.Sets.{Sets, apply_all}
use Rattle.plain_record.specs.Calls.{as_commit}
use Rattle.plain_record.specs.Plain.{by_epoch_and_pair, deletions, await, epoch_of, sets_at, counted, ids_of, Record, counts, turn}
use Rattle.plain_record.specs.Run.{port, append, World, world, is_accepted, value, after_commit, DidCommit, DidCreate, DidDrop, DidCompact}
use Rattle.plain_record.specs.Claim.{waiting_in, waiting_of, below_next}
use Rattle.plain_record.proofs.Invariant.{plain_sets, Recalls, Inv, passes}
use Rattle.plain_record.proofs.Refused.{refused-number}
use Rattle.plain_record.proofs.CommitSets.{plain_at}
use Rattle.plain_record.proofs.CommitShows.{later-pairs, later-vectors, shows-on, shows-now}
use Rattle.plain_record.proofs.CommitState.{commit-epoch, commit-sets, commit-waits, commit-next}
use Rattle.plain_record.proofs.Stands.{inv-stays}
use Rattle.plain_record.proofs.CommitFile.{append-taken, filed_after, filed-cut, torn-after}
use Rattle.compaction.proofs.Whole.{few-new}

-- what the manager shows from now on is the record's last sets
pub now-at : (w : World) (r : Record) → Inv w r → (d : ℕ) → w.manager.inner.epoch ≤ d → plain_at d (held_by w.manager) ≡ r.whole.now
now-at w r i d h =
    let k = bound-le (guards_of (held_by w.manager) w.book) in
    let q : sets_at d r.whole ≡ r.whole.now = shows-now r.whole.past r.whole.now d (omega (arith, i.epoch)) in
    let p : pairs_at d (held_by w.manager) ≡ r.whole.now.pairs = i.pairs d (omega arith) ∙ ap (λ (z : Sets). z.pairs) q in
    let v : vectors_at d (held_by w.manager) ≡ r.whole.now.vectors = i.vectors d (omega arith) ∙ ap (λ (z : Sets). z.vectors) q in
    rw (i.tables, p, v)

-- Accepted: m is the manager before, n the one after.
module _ (w : World) (r : Record) (i : Inv w r) (z : ℕ) (os : List Operation) (few : length os ≤ z) (room : ℕ) (n : VersionManager) (s : State) (h : commit_of (held_by w.manager) z os room ≡ Ok s) (k : Follows n s (held_by w.manager) (length (append_of os))) where
  good : bad_inner w.manager.inner ≡ false
  good = passes w r i

  epoch-after : n.inner.epoch ≡ w.manager.inner.epoch + 1
  epoch-after = ap (λ (t : State). t.epoch) k.hands.state ∙ commit-epoch w.manager.inner z os room s good h

  sound-after : bad_manager n ≡ false
  sound-after = commit-passes w.manager n z os room s i.sound h k

  sets-after : plain_at (w.manager.inner.epoch + 1) (held_by n) ≡ apply_all os r.whole.now
  sets-after =
      ap (plain_at (w.manager.inner.epoch + 1)) k.hands.state
      ∙ commit-sets w.manager.inner z os room s good h r.whole.now (now-at w r i (w.manager.inner.epoch + 1) (omega arith))

  pairs-old : (d : ℕ) → d ≤ w.manager.inner.epoch → pairs_at d (held_by n) ≡ pairs_at d (held_by w.manager)
  pairs-old d q = ap (pairs_at d) k.hands.state ∙ older-pairs w.manager.inner z os room s good h d q

  vectors-old : (d : ℕ) → d ≤ w.manager.inner.epoch → vectors_at d (held_by n) ≡ vectors_at d (held_by w.manager)
  vectors-old d q = ap (vectors_at d) k.hands.state ∙ older-vectors w.manager.inner z os room s good h d q

  pairs-late : (d : ℕ) → w.manager.inner.epoch + 1 ≤ d → pairs_at d (held_by n) ≡ pairs_at (w.manager.inner.epoch + 1) (held_by n)
  pairs-late d = subst (λ (e : ℕ). e ≤ d → pairs_at d (held_by n) ≡ pairs_at e (held_by n)) epoch-after (later-pairs n.inner d (inner-passes n sound-after))

  vectors-late : (d : ℕ) → w.manager.inner.epoch + 1 ≤ d → vectors_at d (held_by n) ≡ vectors_at (w.manager.inner.epoch + 1) (held_by n)
  vectors-late d = subst (λ (e : ℕ). e ≤ d → vectors_at d (held_by n) ≡ vectors_at e (held_by n)) epoch-after (later-vectors n.inner d (inner-passes n sound-after))

  abbrev low : ℕ
  low = bound (guards_of (held_by w.manager) w.book)

  abbrev high : ℕ
  high = bound (guards_of (held_by n) w.book)

  rises : low ≤ high
  rises = bound-rises (held_by w.manager) (held_by n) w.book (omega (arith, epoch-after))

  pairs-after : (d : ℕ) → high ≤ d → pairs_at d (held_by n) ≡ (sets_at d (counted r.place os r.whole)).pairs
  pairs-after d q =
      shows-on (λ d. pairs_at d (held_by w.manager)) (λ d. pairs_at d (held_by n)) (λ (z : Sets). z.pairs)
      r.whole.past r.whole.now (apply_all os r.whole.now) w.manager.inner.epoch low high
      rises i.epoch i.pairs pairs-old pairs-late (ap (λ (z : Sets). z.pairs) sets-after) d q

  vectors-after : (d : ℕ) → high ≤ d → vectors_at d (held_by n) ≡ (sets_at d (counted r.place os r.whole)).vectors
  vectors-after d q =
      shows-on (λ d. vectors_at d (held_by w.manager)) (λ d. vectors_at d (held_by n)) (λ (z : Sets). z.vectors)
      r.whole.past r.whole.now (apply_all os r.whole.now) w.manager.inner.epoch low high
      rises i.epoch i.vectors vectors-old vectors-late (ap (λ (z : Sets). z.vectors) sets-after) d q

  waiting-after : waiting_in (held_by n) ≡ waiting_of (counted r.place os r.whole)
  waiting-after =
      ap waiting_in k.hands.state
      ∙ commit-waits w.manager.inner z os room s good h r.place r.whole.waiting i.waiting
      ∙ ap (λ (e : ℕ). map by_epoch_and_pair (await (deletions r.place (e + 1) 0 os) r.whole.waiting)) i.epoch

  plain-after : plain_sets (held_by n) ≡ apply_all os r.whole.now
  plain-after = ap (λ (e : ℕ). plain_at e (held_by n)) epoch-after ∙ sets-after

  -- what was held before it is kept, wherever the append was cut off
  recalls : Recalls (held_by w.manager) (length (append_of os)) w.book (append w.file (append_of os)) r.whole (epoch_of (counted r.place os r.whole))
  recalls =
      record {
        current = omega (arith, i.epoch, length-append r.whole.past (r.whole.now ∷ []));
        long = refl;
        epoch = i.epoch;
        tables = i.tables;
        pairs = i.pairs;
        vectors = i.vectors;
        waiting = i.waiting;
        next = i.next;
        cut = filed-cut w.file r.whole w.manager.inner n.inner z os room s good few h k.hands r.place i.file;
      }

  commit-inv : (missing : ℕ) → Inv (world n w.book (w.file ++ append_of os) (w.file ++ take (length (append_of os) - missing) (append_of os)) (append w.file (append_of os))) (counts os missing r)
  commit-inv missing =
      let p = r.whole in
      let m = w.manager.inner in
      record {
        sound = sound-after;
        book = book-later m.epoch n.inner.epoch w.book (omega (arith, epoch-after)) i.book;
        epoch = omega (arith, epoch-after, i.epoch, length-append p.past (p.now ∷ []));
        tables = ap (λ (z : Sets). z.tables) sets-after;
        pairs = pairs-after;
        vectors = vectors-after;
        pins = i.pins;
        waiting = waiting-after;
        next = subst (λ (u : State). all_of (below_next u) (p.added ++ ids_of os) ≡ true) (sym k.hands.state) (commit-next m z os room s good h p.added i.next);
        file = filed_after w.file p m n.inner z os room s good few h k.hands r.place i.file;
        torn = torn-after w.file p m n.inner z os room s good few h k.hands r.place i.file missing (now-at w r i m.epoch (omega arith)) plain-after;
        recalled = rw (k.former.state, k.append) recalls;
      }

-- A call that counts as a commit: it hands on the manager n and leaves its buffer as lent. It answers the id, at which the operations
-- may look, and the length b of the append.
module _ (w : World) (r : Record) (i : Inv w r) (made : ℕ → Sets → List Operation) (missing : ℕ) (t : Told) (b : ℕ) (n : VersionManager) (lent : List ℕ) where
  pub accepted-kept : (z : ℕ) (os : List Operation) (out : List ℕ) (s : State) → is_accepted t ≡ true → b ≡ length (append_of os) → made (value 0 t) r.whole.now ≡ os
      → length os ≤ z → commit_of (held_by w.manager) z os (length out) ≡ Ok s → Follows n s (held_by w.manager) (length (append_of os)) → lent ≡ over (append_of os) out
      → Inv (after_commit n t b lent missing w) (turn (as_commit made missing) (is_accepted t) (value 0 t) r)
  accepted-kept z os out s a e c few h k q =
      let f = append_of os in
      let x : take (length f) lent ≡ f = ap (take (length f)) q ∙ append-taken f out (length f) (omega arith) ∙ take_all (length f) f (omega arith) in
      let y : take (length f - missing) lent ≡ take (length f - missing) f = ap (take (length f - missing)) q ∙ append-taken f out (length f - missing) (omega arith) in
      rw (a, e, c, x, y) (commit-inv w r i z os few (length out) n s h k missing)

  pub refused-kept : is_accepted t ≡ false → n ≡ w.manager → Inv (after_commit n t b lent missing w) (turn (as_commit made missing) (is_accepted t) (value 0 t) r)
  refused-kept a q = rw a (inv-stays w (world n w.book w.file w.torn w.last) r (r.place + 1) q refl refl refl refl i)

  -- one that is judged by rules of its own, and that the commit accepts where these pass
  pub made_kept : (x : Verdict) (os : List Operation) (vs out : List ℕ) → t ≡ told x vs → HandsOn x w.manager (committed os (held_by w.manager)) (length (append_of os)) n → lent ≡ after x (over (append_of os) out) out
      → (x ≡ Ok tt → (b ≡ length (append_of os)) × (made (value 0 t) r.whole.now ≡ os) × Accepts (held_by w.manager) os (length out))
      → Inv (after_commit n t b lent missing w) (turn (as_commit made missing) (is_accepted t) (value 0 t) r)
  made_kept (Ok _) os vs out e k q h =
      let y = h refl in
      accepted-kept (length os) os out (committed os (held_by w.manager)) (ap is_accepted e) y.0 y.1 (omega arith) y.2 k q
  made_kept (Err j) os vs out e k q h = refused-kept (ap is_accepted e ∙ refused-number j) k

-- A commit.
module _ (w : World) (t : Told) (l : List (List ℕ)) (v : World) (os : List Operation) (out : List ℕ) (missing : ℕ) (r : Record) (i : Inv w r) where
  abbrev made : ℕ → Sets → List Operation
  made id s = os

  -- by 29 it is the state's
  outcome-is : (z : ℕ) → outcome_of w.manager z os (length out) ≡ commit_of (held_by w.manager) z os (length out)
  outcome-is z = rw i.sound

  outcome-inv : (z : ℕ) (c : Committed) (lent : List ℕ) (x : Result State Refusal) → length os ≤ z → commit_of (held_by w.manager) z os (length out) ≡ x → CommitEnds x w.manager os out c lent
      → t ≡ commit_told c.answer → Inv (after_commit c.manager t (value 1 t) lent missing w) (turn (as_commit made missing) (is_accepted t) (value 0 t) r)
  outcome-inv z c lent (Ok s) few h k e =
      let q = e ∙ k.0 in
      accepted-kept w r i made missing t (value 1 t) c.manager lent z os out s (ap is_accepted q) (ap (value 1) q) refl few h k.1 k.2
  outcome-inv z c lent (Err j) few h k e =
      refused-kept w r i made missing t (value 1 t) c.manager lent (ap is_accepted (e ∙ k.0) ∙ refused-number j) k.1

  pub commit-keeps : DidCommit port w t l v os out missing → Inv v (turn (as_commit made missing) (is_accepted t) (value 0 t) r)
  commit-keeps d =
      let says = subst (λ (x : Result State Refusal). CommitEnds x w.manager os out d.result d.left) (outcome-is d.count) d.says in
      rw d.after (outcome-inv d.count d.result d.left (commit_of (held_by w.manager) d.count os (length out)) d.counted refl says d.told)

-- A create.
module _ (w : World) (t : Told) (l : List (List ℕ)) (v : World) (shape : ℕ) (name out : List ℕ) (missing : ℕ) (r : Record) (i : Inv w r) where
  pub create-keeps : DidCreate port w t l v shape name out missing → Inv v (turn (as_commit (λ id s. create_operations id shape name) missing) (is_accepted t) (value 0 t) r)
  create-keeps d =
      let s = held_by w.manager in
      let os = created_by s shape name in
      let vs = s.next_table ∷ (s.epoch + 1) ∷ length (append_of os) ∷ [] in
      let x = create_verdict w.manager shape name (length out) in
      let e : t ≡ told x vs = d.told ∙ d.says.answer in
      rw d.after
      (made_kept w r i (λ id z. create_operations id shape name) missing t (value 2 t) d.result.manager d.left x os vs out e d.says.manager d.says.bytes
      (λ a. let q : t ≡ told (Ok tt) vs = e ∙ ap (λ (y : Verdict). told y vs) a in
      (ap (value 2) q, ap (λ (y : Told). create_operations (value 0 y) shape name) q, made-laws.create w.manager.inner shape name (length out) (passes w r i) d.narrow (rw i.sound at a))))

-- A drop.
module _ (w : World) (t : Told) (l : List (List ℕ)) (v : World) (n : ℕ) (out : List ℕ) (missing : ℕ) (r : Record) (i : Inv w r) where
  pub drop_keeps : DidDrop port w t l v n out missing → Inv v (turn (as_commit (λ id s. drop_operations n s.pairs s.vectors) missing) (is_accepted t) (value 0 t) r)
  drop_keeps d =
      let s = held_by w.manager in
      let os = dropped_by s n in
      let vs = (s.epoch + 1) ∷ length (append_of os) ∷ [] in
      let x = drop_verdict w.manager n (length out) in
      let e : t ≡ told x vs = d.told ∙ d.says.answer in
      rw d.after
      (made_kept w r i (λ id z. drop_operations n z.pairs z.vectors) missing t (value 1 t) d.result.manager d.left x os vs out e d.says.manager d.says.bytes
      (λ a. let q : t ≡ told (Ok tt) vs = e ∙ ap (λ (y : Verdict). told y vs) a in
      (ap (value 1) q, ap (λ (z : Sets). drop_operations n z.pairs z.vectors) (sym (now-at w r i w.manager.inner.epoch (omega arith))), made-laws.drop w.manager.inner n (length out) (passes w r i) d.narrow (rw i.sound at a))))

-- A compaction.
module _ (w : World) (t : Told) (l : List (List ℕ)) (v : World) (n : ℕ) (o : NewRowset) (taken out : List ℕ) (missing : ℕ) (r : Record) (i : Inv w r) where
  pub compact-keeps : DidCompact port w t l v n o taken out missing → Inv v (turn (as_commit (λ id s. compact_operations n (new_of o) taken s.vectors) missing) (is_accepted t) (value 0 t) r)
  compact-keeps d =
      let s = held_by w.manager in
      let os = compacted_by s n (new_of o) taken in
      let vs = (s.epoch + 1) ∷ length (append_of os) ∷ [] in
      let x = compact_verdict w.manager n (new_of o) taken (length out) in
      let e : t ≡ told x vs = d.told ∙ d.says.answer in
      rw d.after
      (made_kept w r i (λ id z. compact_operations n (new_of o) taken z.vectors) missing t (value 1 t) d.result.manager d.left x os vs out e d.says.manager d.says.bytes
      (λ a. let q : t ≡ told (Ok tt) vs = e ∙ ap (λ (y : Verdict). told y vs) a in
      (ap (value 1) q, ap (λ (z : Sets). compact_operations n (new_of o) taken z.vectors) (sym (now-at w r i w.manager.inner.epoch (omega arith))), (made-laws.compact w.manager.inner n (new_of o) taken (length out) (passes w r i) d.narrow (few-new o) (rw i.sound at a)).accepts)))
