-- What holds between two calls of the pools and the next ids, and what each call does to it. Assumes nothing.
use mathlib.Core.Path.{◌≡◌, refl, sym, ap, subst, ◌∙◌}
use mathlib.Core.Bool.{Bool, true, false, cond, not, ◌&&◌, ◌||◌}
use mathlib.Core.List.{List, [], ◌∷◌, ◌++◌, map}
use Prim.Native.Nat.{ℕ, zero, suc, ◌+◌, ◌-◌, ◌≤◌, min}
use native.Mathlib.Omega.{arith}
use lib.Dec.{eqb}
use lib.ListN.{length, take}
use lib.Seq.{take_all}
use borrow.Author.Tests.{ne_eqb}
use Rattle.std.specs.Prelude.{Ok}
use Rattle.lists.specs.Keyed.{keep, all_of, is_at, has, arranged}
use Rattle.lists.proofs.Tests.{by_cases, clash, both, join}
use Rattle.lists.proofs.Keyed.{any_of-map, Ascending}
use Rattle.manifest.specs.Operations.{Operation}
use Rattle.snapshot.specs.Entries.{by_ids, gone_by, by_deletion}
use Rattle.version_state.specs.State.{State}
use Rattle.operations.specs.Steps.{steps_of}
use Rattle.vacuum.specs.LetGo.{vacuum_list, vacuumed}
use Rattle.plain_record.specs.Sets.{itself}
use Rattle.plain_record.specs.Plain.{Id, ids_of, Plain, Former, gone, Record, recorded, counts, counted}
use Rattle.plain_record.specs.Plain as plain
use Rattle.plain_record.specs.Claim.{below_next}
use Rattle.risinglight.specs.Manifest.{Value, frame, replay}
use Rattle.risinglight.specs.VersionManager.{Inner, find_vacuum}
use Rattle.risinglight.specs.Storage.{NextId, next_id, storage}
use Rattle.risinglight.specs.Run.{Engine, engine, landing, landed}
use Rattle.risinglight.proofs.Changes.{adds_any, of_pairs, of_vectors}
use Rattle.risinglight.proofs.Files.{any-arranged, replay-more, replay-part}
use Rattle.risinglight.proofs.Starts.{Started}
use Rattle.risinglight.proofs.Pools.{of_triples, pairs-after, vectors-after, any-ends, drawn-after, kept-apart, has_kept, has-released, has-arranged, ids-append, raised_below, written-ids}
use Rattle.risinglight.proofs.Relation.{Rel, Committing}

-- a next id of the Rust's, and the port's
abbrev pub NotAbove : ℕ → ℕ → ℕ → Type 0
NotAbove starts x y = (x ≤ y) × (starts ≡ 0 → x ≡ y)

-- what a file adds was added by counted commits
abbrev pub Known : List Value → List Id → Type 0
Known f ids = (P : Id → Bool) → all_of P ids ≡ true → all_of P (ids_of (replay f)) ≡ true

pub record Pool (g : Engine) (m : State) (r : Record) : Type 0 where
  pub rowsets : (k : List ℕ) → has by_ids k m.pairs ≡ has itself k g.running.version.rowsets
  pub dvs : (t q v : ℕ) → has by_ids (t ∷ q ∷ v ∷ []) m.vectors ≡ true → has itself (t ∷ v ∷ []) g.running.version.dvs ≡ true
  pub next_rowset : NotAbove g.starts g.running.next.rowset m.next_rowset
  pub next_dv : NotAbove g.starts g.running.next.dv m.next_vector
  pub file : Known g.running.manifest r.whole.added
  pub torn : Known g.torn r.torn.added

module _ (g : Engine) (m : State) (r : Record) (k : Pool g m r) where
  -- a call that leaves the pools, and what is held
  pub pool-landed : (v : Inner) (n : NextId) (s : State) (p : Plain) (f : Former) (place : ℕ) → v.rowsets ≡ g.running.version.rowsets → v.dvs ≡ g.running.version.dvs
      → s.pairs ≡ m.pairs → s.vectors ≡ m.vectors → p.added ≡ r.whole.added
      → NotAbove g.starts n.rowset s.next_rowset → NotAbove g.starts n.dv s.next_vector
      → Pool (landed v n g) s (recorded p p f place)
  pool-landed v n s p f place a b c d e x y =
      record {
        rowsets = λ j. ap (has by_ids j) c ∙ k.rowsets j ∙ sym (ap (has itself j) a);
        dvs = λ t q z h. ap (has itself (t ∷ z ∷ [])) b ∙ k.dvs t q z (sym (ap (has by_ids (t ∷ q ∷ z ∷ [])) d) ∙ h);
        next_rowset = x;
        next_dv = y;
        file = subst (Known g.running.manifest) (sym e) k.file;
        torn = subst (Known g.running.manifest) (sym e) k.file;
      }

  -- a commit
  module _ (cut : ℕ) (os : List Operation) (missing : ℕ) (rel : Rel g r) (c : Committing cut g r os missing) (done s : State)
      (steps : steps_of 0 (m.epoch + 1) os m ≡ Ok done) (pairs : s.pairs ≡ done.pairs) (vectors : s.vectors ≡ done.vectors)
      (rowset : s.next_rowset ≡ done.next_rowset) (vector : s.next_vector ≡ done.next_vector) where
    abbrev file : List Value
    file = g.running.manifest

    known_more : Known (file ++ frame os) (r.whole.added ++ ids_of os)
    known_more P h =
        let x = split P r.whole.added (ids_of os) h in
        ap (λ l. all_of P (ids_of l)) (replay-more file os r.whole.now rel.whole.file)
        ∙ ids-append P (replay file) os
        ∙ join (k.file P x.0) x.1
      where
        split : (P : Id → Bool) (l n : List Id) → all_of P (l ++ n) ≡ true → (all_of P l ≡ true) × (all_of P n ≡ true)
        split P [] n h = (refl, h)
        split P (x ∷ l) n h =
            let a = both (P x) (all_of P (l ++ n)) h in
            let b = split P l n a.1 in
            (join a.0 b.0, b.1)

    known-torn : (missing : ℕ) → Known (file ++ take (landing missing cut (length (frame os))) (frame os)) (cond (eqb missing 0) (counted r.place os r.whole) r.whole).added
    known-torn zero = subst (λ (l : List Value). Known (file ++ l) (r.whole.added ++ ids_of os)) (sym (take_all (length (frame os)) (frame os) (omega arith))) known_more
    known-torn (suc n) =
        let j = min cut (length (frame os) - 1) in
        rw (ne_eqb (suc n) 0 (omega arith))
        (λ P h. ap (λ l. all_of P (ids_of l)) (replay-part file os r.whole.now j (omega arith) rel.whole.file) ∙ k.file P h)

    vectors-in : (t q v : ℕ) → has by_ids (t ∷ q ∷ v ∷ []) s.vectors ≡ true → has itself (t ∷ v ∷ []) c.version.dvs ≡ true
    vectors-in t q v h =
        c.dvs (t ∷ v ∷ [])
        ∙ by_cases (adds_any of_vectors os (t ∷ v ∷ []))
        (λ e. rw e)
        (λ e. rw e (k.dvs t q v (old e (sym (vectors-after (m.epoch + 1) (t ∷ q ∷ v ∷ []) os m done steps) ∙ sym (ap (has by_ids (t ∷ q ∷ v ∷ [])) vectors) ∙ h))))
      where
        fresh-or : (a b : Bool) → (a ≡ true → ⊥) → a || b ≡ true → b ≡ true
        fresh-or true b n e = absurd (n refl)
        fresh-or false b n e = e

        old : adds_any of_vectors os (t ∷ v ∷ []) ≡ false → adds_any of_triples os (t ∷ q ∷ v ∷ []) || has by_ids (t ∷ q ∷ v ∷ []) m.vectors ≡ true → has by_ids (t ∷ q ∷ v ∷ []) m.vectors ≡ true
        old e x = fresh-or (adds_any of_triples os (t ∷ q ∷ v ∷ [])) (has by_ids (t ∷ q ∷ v ∷ []) m.vectors) (λ y. clash (any-ends os t q v y) e) x

    pub pool-commit : Pool (engine (storage c.catalog c.version g.running.next (file ++ frame os)) (file ++ take (landing missing cut (length (frame os))) (frame os)) g.starts) s (counts os missing r)
    pool-commit =
        let ids = drawn-after (m.epoch + 1) os m done steps in
        let a : s.next_rowset ≡ m.next_rowset = rowset ∙ ids.0 in
        let b : s.next_vector ≡ m.next_vector = vector ∙ ids.1 in
        record {
          rowsets = λ j. ap (has by_ids j) pairs ∙ pairs-after (m.epoch + 1) j os m done steps ∙ ap (λ y. adds_any of_pairs os j || y) (k.rowsets j) ∙ sym (c.rowsets j);
          dvs = vectors-in;
          next_rowset = subst (NotAbove g.starts g.running.next.rowset) (sym a) k.next_rowset;
          next_dv = subst (NotAbove g.starts g.running.next.dv) (sym b) k.next_dv;
          file = known_more;
          torn = known-torn missing;
        }

  -- a vacuum, which lists what is gone by the epoch b
  module _ (b : ℕ) (s : State) (p : Plain) (place : ℕ) (ordered : Ascending by_ids m.pairs) (left : s ≡ vacuumed b m)
      (answer : arranged itself (find_vacuum g.running.version).deletions ≡ arranged itself (map by_ids (vacuum_list b m))) (added : p.added ≡ r.whole.added) where
    listed-alike : (j : List ℕ) → has itself j (find_vacuum g.running.version).deletions ≡ has by_ids j (keep (gone_by b) m.pairs)
    listed-alike j =
        sym (has-arranged j (find_vacuum g.running.version).deletions)
        ∙ ap (has itself j) answer
        ∙ has-arranged j (map by_ids (vacuum_list b m))
        ∙ any_of-map by_ids (is_at itself j) (vacuum_list b m)
        ∙ any-arranged by_deletion (is_at by_ids j) (keep (gone_by b) m.pairs)

    pub pool-vacuum : Pool (landed (find_vacuum g.running.version).left g.running.next g) s (recorded p p gone place)
    pool-vacuum =
        record {
          rowsets = λ j.
              ap (λ (u : State). has by_ids j u.pairs) left
              ∙ kept-apart (gone_by b) j m.pairs ordered
              ∙ ap (λ y. not (has by_ids j (keep (gone_by b) m.pairs)) && y) (k.rowsets j)
              ∙ ap (λ y. not y && has itself j g.running.version.rowsets) (sym (listed-alike j))
              ∙ sym (has-released j (find_vacuum g.running.version).deletions g.running.version.rowsets);
          dvs = λ t q v h. k.dvs t q v (has_kept (λ x. not (gone_by b x)) (t ∷ q ∷ v ∷ []) m.vectors (sym (ap (λ (u : State). has by_ids (t ∷ q ∷ v ∷ []) u.vectors) left) ∙ h));
          next_rowset = subst (NotAbove g.starts g.running.next.rowset) (sym (ap (λ (u : State). u.next_rowset) left)) k.next_rowset;
          next_dv = subst (NotAbove g.starts g.running.next.dv) (sym (ap (λ (u : State). u.next_vector) left)) k.next_dv;
          file = subst (Known g.running.manifest) (sym added) k.file;
          torn = subst (Known g.running.manifest) (sym added) k.file;
        }

  -- a start, after which the port holds what it shows
  pub pool-start : (a : Started g.torn r.torn.now) (stale : Bool) (s : State)
      → ((j : List ℕ) → has by_ids j s.pairs ≡ has itself j r.torn.now.pairs) → ((j : List ℕ) → has by_ids j s.vectors ≡ has itself j r.torn.now.vectors)
      → all_of (below_next s) r.torn.added ≡ true
      → Pool (engine a.result (cond stale g.torn a.result.manifest) (g.starts + 1)) s (plain.landed (plain.kept r.torn) r)
  pool-start a stale s pairs vectors next =
      let ids = raised_below s (replay g.torn) (next_id 0 0) (k.torn (below_next s) next) (omega arith) (omega arith) in
      let later : (x y : ℕ) → x ≤ y → NotAbove (g.starts + 1) x y = λ x y h. (h, λ e. absurd (omega arith)) in
      let new : Known a.result.manifest r.torn.added = λ P h. ap (λ l. all_of P (ids_of l)) a.written ∙ written-ids P (replay g.torn) (k.torn P h) in
      record {
        rowsets = λ j. pairs j ∙ a.rowsets j ∙ sym (ap (λ (v : Inner). has itself j v.rowsets) a.version);
        dvs = λ t q v h. ap (λ (y : Inner). has itself (t ∷ v ∷ []) y.dvs) a.version ∙ a.dvs t q v (sym (vectors (t ∷ q ∷ v ∷ [])) ∙ h);
        next_rowset = later a.result.next.rowset s.next_rowset (subst (λ (n : NextId). n.rowset ≤ s.next_rowset) (sym a.next) ids.0);
        next_dv = later a.result.next.dv s.next_vector (subst (λ (n : NextId). n.dv ≤ s.next_vector) (sym a.next) ids.1);
        file = new;
        torn = either stale g.torn a.result.manifest k.torn new;
      }
    where
      either : (stale : Bool) (x y : List Value) → Known x r.torn.added → Known y r.torn.added → Known (cond stale x y) r.torn.added
      either true x y a b = a
      either false x y a b = b
