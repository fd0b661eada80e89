-- A reopen keeps what holds between calls, and is never refused where enough is lent. Assumes nothing.
use mathlib.Core.Path.{◌≡◌, refl, sym, ap, subst, ◌∙◌}
use mathlib.Core.Bool.{Bool, true, false, cond}
use mathlib.Core.List.{List, [], ◌∷◌, map}
use Prim.Native.Nat.{ℕ, zero, suc, ◌+◌, ◌≤◌}
use native.Mathlib.Omega.{arith}
use borrow.Author.Tests.{le-ltb}
use lib.Dec.{ltb}
use lib.ListN.{length, take}
use lib.Seq.{take_all}
use Rattle.std.specs.Prelude.{Ok}
use Rattle.lists.specs.Keyed.{arranged}
use Rattle.lists.specs.Written.{over}
use Rattle.lists.proofs.Tests.{by_cases}
use Rattle.lists.proofs.Keyed.{All, all_both}
use Rattle.ids.specs.Answers.{Told, told}
use Rattle.snapshot.specs.Entries.{Entry, by_deletion}
use Rattle.version_state.specs.State.{State, state_of, with_epoch, pairs_at, vectors_at}
use Rattle.version_state.specs.Sets.{sets_of}
use Rattle.pins.specs.declared.PinBook.{PinBook}
use Rattle.pins.specs.Book.{bad_book, Keeps}
use Rattle.pins.specs.Guards.{guards_of, bound}
use Rattle.version_manager.specs.declared.VersionManager.{VersionManager}
use Rattle.version_manager.specs.Managers.{Manages}
use Rattle.version_manager.proofs.Managers.{nothing-passes}
use Rattle.rewrite.specs.Rewritten.{rewritten_of, longest_rewritten}
use Rattle.replay.specs.Replay.{replay_of}
use Rattle.recovery.proofs.SoundReading.{Whole, whole-replayed}
use Rattle.recovery.proofs.Sound.{replay-sound}
use Rattle.recovery.proofs.Again.{replay-room, replay-again}
use Rattle.recovery.proofs.Appending.{holds-replayed}
use Rattle.plain_record.specs.Sets.{Sets}
use Rattle.plain_record.specs.Calls.{as_reopen}
use Rattle.plain_record.specs.Plain.{Plain, sets_at, kept, gone, Record, recorded, turn}
use Rattle.plain_record.specs.Run.{port, World, is_accepted, replaced, DidReopen}
use Rattle.plain_record.specs.Claim.{waiting_in}
use Rattle.plain_record.proofs.Invariant.{plain_table, Torn, Inv}
use Rattle.plain_record.proofs.CommitIds.{Rise, next-rise}
use Rattle.plain_record.proofs.CommitFile.{append-taken}
use Rattle.plain_record.proofs.Stands.{inv-stays}
use Rattle.plain_record.proofs.Standing.{Standing, all_shown, none-waits}

-- an empty book passes 28
pub empty-book : (e : ℕ) (b : PinBook) → Keeps b [] → bad_book e b ≡ false
empty-book e b k = rw (le-ltb 64 b.count k.fits, k.pins)

-- what a replay gives
module _ (src : List ℕ) (s : State) (h : replay_of src ≡ Ok s) where
  whole : Whole s
  whole = whole-replayed src s h

  pub pairs-stand : All Standing s.pairs
  pairs-stand = all_both s.pairs (λ x a b. record { added = a.added; stands = b }) whole.rests.kept.pairs whole.rests.pairs

  pub vectors-stand : All Standing s.vectors
  vectors-stand = all_both s.vectors (λ x a b. record { added = a.added; stands = b }) whole.rests.kept.vectors whole.rests.vectors

  pub at_one : s.epoch ≡ 1
  at_one = whole.rests.kept.epoch

  pairs-at : (d : ℕ) → 1 ≤ d → pairs_at d s ≡ pairs_at s.epoch s
  pairs-at d k = all_shown d s.pairs k pairs-stand ∙ sym (all_shown s.epoch s.pairs (omega (arith, at_one)) pairs-stand)

  vectors-at : (d : ℕ) → 1 ≤ d → vectors_at d s ≡ vectors_at s.epoch s
  vectors-at d k = all_shown d s.vectors k vectors-stand ∙ sym (all_shown s.epoch s.vectors (omega (arith, at_one)) vectors-stand)

  nothing-waits : waiting_in s ≡ []
  nothing-waits = ap (λ (l : List Entry). map by_deletion (arranged by_deletion l)) (none-waits s.pairs pairs-stand)

later-sets : (d : ℕ) (p : Plain) → 1 ≤ d → sets_at d (kept p) ≡ p.now
later-sets zero p h = absurd (omega arith)
later-sets (suc zero) p h = refl
later-sets (suc (suc d)) p h = refl

-- the manifest that a reopen finds after one was replaced, where the old one and the new one are replayed to the same sets
pub replaced-torn : (old new : List ℕ) (p : Plain) (stale : Bool) → Torn old p → Torn new p → Torn (cond stale old new) p
replaced-torn old new p true o n = o
replaced-torn old new p false o n = n

-- The manager, the book and the file that an accepted reopen hands out.
module _ (w : World) (r : Record) (i : Inv w r) (m : VersionManager) (b : PinBook) where
  abbrev t : Torn w.torn r.torn
  t = i.torn

  abbrev s : State
  s = t.state

  abbrev n : ℕ
  n = length (rewritten_of s)

  room : n ≤ longest_rewritten
  room = replay-room w.torn s t.replayed

  file-torn : Torn (rewritten_of s) (kept r.torn)
  file-torn =
      record {
        state = s;
        replayed = holds-replayed (rewritten_of s) s (replay-again w.torn s t.replayed) (omega (arith, room));
        sets = t.sets;
        next = t.next;
      }

  old-torn : Torn w.torn (kept r.torn)
  old-torn = record { state = s; replayed = t.replayed; sets = t.sets; next = t.next }

  pub handed-on : (stale : Bool) (place : ℕ) → Manages m (with_epoch s s.epoch n) → Keeps b []
      → Inv (replaced m b w.torn (rewritten_of s) stale) (recorded (kept r.torn) (kept r.torn) gone place)
  handed-on stale place k e =
      let z = k.hands.state in
      let one : m.inner.epoch ≡ 1 = ap (λ (u : State). u.epoch) z ∙ at_one w.torn s t.replayed in
      let low : bound (guards_of (state_of m.inner) b) ≡ 1 = rw e.pins one in
      record {
        sound = nothing-passes m (replay-sound w.torn s m.inner n t.replayed (omega (arith, room)) k.hands) k.nothing;
        book = empty-book m.inner.epoch b e;
        epoch = one;
        tables = ap (λ (u : State). map plain_table u.tables) z ∙ ap (λ (u : Sets). u.tables) t.sets;
        pairs = λ d h.
            let g : 1 ≤ d = omega (arith, low, h) in
            ap (pairs_at d) z ∙ pairs-at w.torn s t.replayed d g ∙ ap (λ (u : Sets). u.pairs) t.sets ∙ sym (ap (λ (u : Sets). u.pairs) (later-sets d r.torn g));
        vectors = λ d h.
            let g : 1 ≤ d = omega (arith, low, h) in
            ap (vectors_at d) z ∙ vectors-at w.torn s t.replayed d g ∙ ap (λ (u : Sets). u.vectors) t.sets ∙ sym (ap (λ (u : Sets). u.vectors) (later-sets d r.torn g));
        pins = e.pins;
        waiting = ap waiting_in z ∙ nothing-waits w.torn s t.replayed;
        next = next-rise s (state_of m.inner) r.torn.added (subst (Rise s) (sym z) (record { table = omega arith; rowset = omega arith; vector = omega arith })) t.next;
        file =
            record {
              state = s;
              holds = replay-again w.torn s t.replayed;
              same = ap sets_of z;
              long = sym (ap (λ (u : State). u.manifest) z);
              next = t.next;
            };
        torn = replaced-torn w.torn (rewritten_of s) (kept r.torn) stale old-torn file-torn;
        recalled = k.nothing;
      }

-- the bytes of a run that was written over the start of a buffer
pub written-first : (f out : List ℕ) → take (length f) (over f out) ≡ f
written-first f out = append-taken f out (length f) (omega arith) ∙ take_all (length f) f (omega arith)

module _ (w : World) (t : Told) (l : List (List ℕ)) (v : World) (out : List ℕ) (stale : Bool) (r : Record) (i : Inv w r) (d : DidReopen port w t l v out stale) where
  abbrev found : State
  found = i.torn.state

  -- 9
  too-short : ltb (length out) (length (rewritten_of found)) ≡ true → is_accepted t ≡ false
  too-short e =
      let x = rw (i.torn.replayed, e) at d.says in
      ap is_accepted (d.told ∙ x.0)

  short-stays : (id : ℕ) → is_accepted t ≡ false → Inv v (turn (as_reopen (length out)) (is_accepted t) id r)
  short-stays id e =
      let z : v ≡ w = d.after ∙ rw e in
      rw (z, e) (inv-stays w w r (r.place + 1) refl refl refl refl refl i)

  pub reopen-keeps : (id : ℕ) → Inv v (turn (as_reopen (length out)) (is_accepted t) id r)
  reopen-keeps id =
      by_cases (ltb (length out) (length (rewritten_of found)))
      (λ e. short-stays id (too-short e))
      (λ e.
      let x = rw (i.torn.replayed, e) at d.says in
      let q : t ≡ told (Ok tt) (length (rewritten_of found) ∷ []) = d.told ∙ x.0 in
      let k : take (length (rewritten_of found)) d.left ≡ rewritten_of found = ap (take (length (rewritten_of found))) x.3 ∙ written-first (rewritten_of found) out in
      rw (d.after, q, k) (handed-on w r i d.result.manager d.result.book stale (r.place + 1) x.1 x.2))

  -- Over what a reopen did, as that of a checkpoint is over what it did: one lemma would take the hypotheses of both, and be no plainer.
  pub reopen-accepted : longest_rewritten ≤ length out → is_accepted t ≡ true
  reopen-accepted h =
      let e : ltb (length out) (length (rewritten_of found)) ≡ false = le-ltb (length out) (length (rewritten_of found)) (omega (arith, replay-room w.torn found i.torn.replayed, h)) in
      let x = rw (i.torn.replayed, e) at d.says in
      ap is_accepted (d.told ∙ x.0)
