-- What holds between two calls of the Rust's state beside the plain record, and what each of its calls does to it. Assumes nothing.
use mathlib.Core.Path.{◌≡◌, refl, sym, ap, subst, ◌∙◌}
use mathlib.Core.Bool.{Bool, true, false, cond, not, ◌&&◌, ◌||◌, not-not}
use mathlib.Core.List.{List, [], ◌∷◌, ◌++◌, map}
use mathlib.Core.Option.{Option, none, some}
use Prim.Native.Nat.{ℕ, zero, suc, ◌+◌, ◌-◌, ◌≤◌, min}
use native.Mathlib.Omega.{arith}
use lib.Dec.{eqb, leb}
use lib.ListN.{length, take, get_or, length-append}
use lib.Seq.{take_all}
use borrow.Author.Tests.{eq-eqb, ne_eqb, eqb-true, eqb-false, leb-true, leb-false}
use Rattle.lists.specs.Keyed.{keep, has, arranged}
use Rattle.lists.proofs.Tests.{by_cases, positive}
use Rattle.lists.proofs.Keyed.{all_keep, all_map, keep_same, keep-map}
use Rattle.manifest.specs.Operations.{Operation}
use Rattle.manifest.specs.Edits.{Table}
use Rattle.pins.specs.Book.{PinEntry, place_on}
use Rattle.pins.specs.Guards.{guards_by, blocked}
use Rattle.pins.specs.Counts.{pins_at, recounted}
use Rattle.pins.proofs.Counting.{pins-recounted}
use Rattle.plain_record.specs.Sets.{Sets, by_id, itself, apply_all}
use Rattle.plain_record.specs.Plain.{by_epoch_and_pair, Plain, epoch_of, sets_at, guards_in, deletions, counted, with_pins, listed, swept, kept, Former, gone, Record, recorded, counts}
use Rattle.plain_record.specs.Plain as plain
use Rattle.plain_record.specs.Claim.{waiting_of, pairs_of}
use Rattle.plain_record.proofs.CommitShows.{get_d-more, shows-now}
use Rattle.plain_record.proofs.CommitWaits.{placed_all, await-keys}
use Rattle.plain_record.proofs.Vacuum.{keep-arranged, map-map}
use Rattle.risinglight.specs.Maps.{ok, unwrap_or, Binding, get, insert, remove}
use Rattle.risinglight.specs.Snapshot.{Snapshot}
use Rattle.risinglight.specs.Manifest.{Value, frame, replay}
use Rattle.risinglight.specs.VersionManager.{Inner, Changing, changing, latest, committed, commit_changes, with_counts, Pinned, Dropped, dropped, vacuum_epoch, can_apply, find_vacuum}
use Rattle.risinglight.specs.VersionManager as version
use Rattle.risinglight.specs.Storage.{Storage, storage, apply_tables}
use Rattle.risinglight.specs.Run.{Engine, engine, landing, landed}
use Rattle.risinglight.specs.Agreement.{deletions_in}
use Rattle.risinglight.proofs.Maps.{get-insert, get-remove}
use Rattle.risinglight.proofs.Fitting.{Found}
use Rattle.risinglight.proofs.Changes.{Shows, adds_any, of_pairs, of_vectors, Changed, changed}
use Rattle.risinglight.proofs.Deletions.{UpTo, up-later, arranged-append, arranged-map, deleted-keys, inserted, deletions-kept, pair_in, extended-pairs, epochs-up}
use Rattle.risinglight.proofs.Counts.{counted_back, counted-some, Pinning, applies}
use Rattle.risinglight.proofs.Counts as counts
use Rattle.risinglight.proofs.Files.{Follows, follows, Boots, Filed, filed-more, found-whole, found_part}
use Rattle.risinglight.proofs.Starts.{Whole, Started, starts}

abbrev pub Showing : Option Snapshot → Sets → Type 0
Showing none x = ⊥
Showing (some s) x = Shows s x

-- the running storage beside the record
pub record Beside (s : Storage) (p : Plain) : Type 0 where
  pub epoch : s.version.epoch ≡ epoch_of p
  pub now : Shows (latest s.version) p.now
  pub status : (d : ℕ) → 1 ≤ d → d ≤ epoch_of p → Showing (get d s.version.status) (sets_at d p)
  pub counts : (d : ℕ) → get d s.version.ref_cnt ≡ counts.counted (pins_at (place_on d) p.pinned)
  pub waiting : arranged itself (deletions_in s.version.rowset_deletion_to_apply) ≡ waiting_of p
  pub up_to : UpTo s.version.epoch s.version.rowset_deletion_to_apply
  pub catalog : arranged by_id s.catalog ≡ p.now.tables
  pub file : Filed s.manifest p.now

pub record Rel (g : Engine) (r : Record) : Type 0 where
  pub whole : Beside g.running r.whole
  pub torn : Boots (replay g.torn) r.torn.now

-- a call that finds everything landed
pub rel-landed : (s : Storage) (p : Plain) (starts : ℕ) (f : Former) (n : ℕ) → Beside s p → Rel (engine s s.manifest starts) (recorded p p f n)
rel-landed s p starts f n b = record { whole = b; torn = found-whole s.manifest p.now b.file }

-- A commit.
module _ (s : Storage) (p : Plain) (b : Beside s p) (os : List Operation) (f : Found os p.now) (c : ℕ) where
  abbrev m : Inner
  m = s.version

  change : Changed os (changing (latest m) m.rowsets m.dvs []) p.now
  change = changed os (changing (latest m) m.rowsets m.dvs []) p.now b.now f.ids

  follow : Follows os s.catalog p.now
  follow = follows os s.catalog p.now b.catalog f.tables

  abbrev after : Inner
  after = committed m change.left

  commit-runs : commit_changes os m ≡ ok after
  commit-runs = rw change.runs

  get-new : get (m.epoch + 1) after.status ≡ some change.left.snapshot
  get-new = get-insert (m.epoch + 1) (m.epoch + 1) change.left.snapshot m.status ∙ rw (eq-eqb (m.epoch + 1) (m.epoch + 1) refl)

  get-old : (d : ℕ) → d ≤ m.epoch → get d after.status ≡ get d m.status
  get-old d h = get-insert d (m.epoch + 1) change.left.snapshot m.status ∙ rw (ne_eqb (m.epoch + 1) d (omega arith))

  sets-old : (d : ℕ) → d ≤ m.epoch → sets_at d (counted c os p) ≡ sets_at d p
  sets-old d h = get_d-more p.past p.now (apply_all os p.now) d (omega (arith, b.epoch))

  sets-new : sets_at (m.epoch + 1) (counted c os p) ≡ apply_all os p.now
  sets-new = shows-now (p.past ++ (p.now ∷ [])) (apply_all os p.now) (m.epoch + 1) (omega (arith, b.epoch, length-append p.past (p.now ∷ [])))

  long : epoch_of (counted c os p) ≡ m.epoch + 1
  long = omega (arith, b.epoch, length-append p.past (p.now ∷ []))

  status-after : (d : ℕ) → 1 ≤ d → d ≤ epoch_of (counted c os p) → Showing (get d after.status) (sets_at d (counted c os p))
  status-after d h k =
      by_cases (leb d m.epoch)
      (λ t.
      let q = leb-true d m.epoch t in
      rw (get-old d q, sets-old d q) (b.status d h (omega (arith, b.epoch))))
      (λ t.
      let q : d ≡ m.epoch + 1 = omega (arith, leb-false d m.epoch t, long) in
      subst (λ (e : ℕ). Showing (get e after.status) (sets_at e (counted c os p))) (sym q)
      (subst (λ (o : Option Snapshot). Showing o (sets_at (m.epoch + 1) (counted c os p))) (sym get-new)
      (subst (λ (x : Sets). Showing (some change.left.snapshot) x) (sym sets-new) change.shows)))

  waiting-after : arranged itself (deletions_in after.rowset_deletion_to_apply) ≡ waiting_of (counted c os p)
  waiting-after =
      let e = m.epoch + 1 in
      ap (arranged itself) (inserted m.epoch e change.left.deletions m.rowset_deletion_to_apply (omega arith) b.up_to)
      ∙ arranged-append (map (λ k. e ∷ k) change.left.deletions) (deletions_in m.rowset_deletion_to_apply)
      ∙ ap (placed_all (map (λ k. e ∷ k) change.left.deletions)) b.waiting
      ∙ ap (λ l. placed_all (map (λ k. e ∷ k) l) (waiting_of p)) change.deletions
      ∙ ap (λ l. placed_all l (waiting_of p)) (sym (deleted-keys c e 0 os))
      ∙ ap (λ (d : ℕ). placed_all (map by_epoch_and_pair (deletions c (d + 1) 0 os)) (waiting_of p)) b.epoch
      ∙ sym (await-keys (deletions c (epoch_of p + 1) 0 os) p.waiting)

  abbrev stored : Storage
  stored = storage follow.left after s.next (s.manifest ++ frame os)

  commit-beside : Beside stored (counted c os p)
  commit-beside =
      record {
        epoch = sym long;
        now = rw get-new change.shows;
        status = status-after;
        counts = b.counts;
        waiting = waiting-after;
        up_to = (omega arith, all_keep (λ (x : Binding (List (List ℕ))). x.key ≤ m.epoch + 1) (λ x. not (eqb x.key (m.epoch + 1))) m.rowset_deletion_to_apply (up-later m.epoch (m.epoch + 1) m.rowset_deletion_to_apply (omega arith) b.up_to));
        catalog = follow.same;
        file = filed-more s.manifest os p.now f.tables b.file;
      }

  torn-after : (missing cut : ℕ)
      → Boots (replay (s.manifest ++ take (landing missing cut (length (frame os))) (frame os))) (cond (eqb missing 0) (counted c os p) p).now
  torn-after zero cut =
      rw (take_all (length (frame os)) (frame os) (omega arith))
      (found-whole (s.manifest ++ frame os) (apply_all os p.now) commit-beside.file)
  torn-after (suc k) cut =
      rw (ne_eqb (suc k) 0 (omega arith))
      (found_part s.manifest os p.now (min cut (length (frame os) - 1)) (omega arith) b.file)

pub record Committing (cut : ℕ) (g : Engine) (r : Record) (os : List Operation) (missing : ℕ) : Type 0 where
  pub version : Inner
  -- the pools
  pub rowsets : (k : List ℕ) → has itself k (version).rowsets ≡ adds_any of_pairs os k || has itself k g.running.version.rowsets
  pub dvs : (k : List ℕ) → has itself k (version).dvs ≡ adds_any of_vectors os k || has itself k g.running.version.dvs
  pub catalog : List Table
  pub runs : commit_changes os g.running.version ≡ ok version
  pub follows : apply_tables os g.running.catalog ≡ ok catalog
  pub rel :
      let file = g.running.manifest in
      Rel (engine (storage catalog version g.running.next (file ++ frame os)) (file ++ take (landing missing cut (length (frame os))) (frame os)) g.starts) (counts os missing r)

pub commits : (cut : ℕ) (g : Engine) (r : Record) (os : List Operation) (missing : ℕ) → Rel g r → Found os r.whole.now → Committing cut g r os missing
commits cut g r os missing k f =
    let s = g.running in
    let p = r.whole in
    let b = k.whole in
    record {
      version = after s p b os f r.place;
      rowsets = (change s p b os f r.place).rowsets;
      dvs = (change s p b os f r.place).dvs;
      catalog = (follow s p b os f r.place).left;
      runs = commit-runs s p b os f r.place;
      follows = (follow s p b os f r.place).runs;
      rel = record { whole = commit-beside s p b os f r.place; torn = torn-after s p b os f r.place missing cut };
    }

-- Pins: other counts beside other pins.
beside-counts : (s : Storage) (p : Plain) (m : List (Binding ℕ)) (l : List PinEntry) → Beside s p → ((d : ℕ) → get d m ≡ counts.counted (pins_at (place_on d) l))
    → Beside (storage s.catalog (with_counts m s.version) s.next s.manifest) (with_pins l p)
beside-counts s p m l b h =
    record { epoch = b.epoch; now = b.now; status = b.status; counts = h; waiting = b.waiting; up_to = b.up_to; catalog = b.catalog; file = b.file }

-- the count of one epoch is n
recounts : (e n d : ℕ) (l : List PinEntry) (o : Option ℕ) (m : List (Binding ℕ)) → ((j : ℕ) → get j m ≡ counts.counted (pins_at (place_on j) l)) → o ≡ counts.counted n
    → cond (eqb e d) o (get d m) ≡ counts.counted (pins_at (place_on d) (recounted (place_on e) n l))
recounts e n d l o m h q =
    by_cases (eqb e d)
    (λ t. rw (pins-recounted (place_on e) (place_on d) n l, t) q)
    (λ t. rw (pins-recounted (place_on e) (place_on d) n l, t) (h d))

some-shown : (o : Option Snapshot) (x : Sets) → Showing o x → (s : Snapshot) × (o ≡ some s)
some-shown none x h = absurd h
some-shown (some s) x h = (s, refl)

pin-runs : (m : Inner) (s : Snapshot) → get m.epoch m.status ≡ some s
    → version.pin m ≡ ok (record { epoch = m.epoch; snapshot = s; left = with_counts (insert m.epoch (unwrap_or 0 (get m.epoch m.ref_cnt) + 1) m.ref_cnt) m })
pin-runs m s h = rw h

module _ (g : Engine) (r : Record) (k : Rel g r) where
  abbrev running : Inner
  running = g.running.version

  pub record PinsOn : Type 0 where
    pub result : Pinned
    pub runs : version.pin running ≡ ok result
    pub answer : result.epoch ≡ epoch_of r.whole
    pub rowsets : result.left.rowsets ≡ running.rowsets
    pub dvs : result.left.dvs ≡ running.dvs
    pub rel : Rel (landed result.left g.running.next g) (plain.repinned (recounted (place_on (epoch_of r.whole)) (pins_at (place_on (epoch_of r.whole)) r.whole.pinned + 1) r.whole.pinned) r)

  pub pins-on : 1 ≤ epoch_of r.whole → PinsOn
  pins-on h =
      let p = r.whole in
      let e = running.epoch in
      let q = k.whole.epoch in
      let o = some-shown (get e running.status) (sets_at e p) (k.whole.status e (omega (arith, q)) (omega (arith, q))) in
      let n = pins_at (place_on e) p.pinned in
      let back : unwrap_or 0 (get e running.ref_cnt) ≡ n = ap (unwrap_or 0) (k.whole.counts e) ∙ counted_back n in
      let c = insert e (unwrap_or 0 (get e running.ref_cnt) + 1) running.ref_cnt in
      record {
        result = record { epoch = e; snapshot = o.0; left = with_counts c running };
        runs = pin-runs running o.0 o.1;
        answer = q;
        rowsets = refl;
        dvs = refl;
        rel =
            subst (λ (d : ℕ). Rel (landed (with_counts c running) g.running.next g) (plain.repinned (recounted (place_on d) (pins_at (place_on d) p.pinned + 1) p.pinned) r)) q
            (rel-landed (storage g.running.catalog (with_counts c running) g.running.next g.running.manifest) (with_pins (recounted (place_on e) (n + 1) p.pinned) p) g.starts r.former (r.place + 1)
            (beside-counts g.running p c (recounted (place_on e) (n + 1) p.pinned) k.whole
            (λ d. get-insert d e (unwrap_or 0 (get e running.ref_cnt) + 1) running.ref_cnt
            ∙ recounts e (n + 1) d p.pinned (some (unwrap_or 0 (get e running.ref_cnt) + 1)) running.ref_cnt k.whole.counts (ap (λ (x : ℕ). some (x + 1)) back ∙ sym (counted-some (n + 1) (omega arith))))));
      }

  pub record DropsOne (e : ℕ) : Type 0 where
    pub result : Dropped
    pub runs : version.drop e running ≡ ok result
    pub answer : result.notice ≡ eqb (pins_at (place_on e) r.whole.pinned - 1) 0 && not (eqb e (epoch_of r.whole))
    pub rowsets : result.left.rowsets ≡ running.rowsets
    pub dvs : result.left.dvs ≡ running.dvs
    pub rel : Rel (landed result.left g.running.next g) (plain.repinned (recounted (place_on e) (pins_at (place_on e) r.whole.pinned - 1) r.whole.pinned) r)

  pub drops-one : (e : ℕ) → 1 ≤ pins_at (place_on e) r.whole.pinned → DropsOne e
  drops-one e h =
      let p = r.whole in
      let n = pins_at (place_on e) p.pinned in
      let o : get e running.ref_cnt ≡ some n = k.whole.counts e ∙ counted-some n h in
      by_cases (eqb (n - 1) 0)
      (λ t.
      let c = remove e running.ref_cnt in
      record {
        result = dropped (not (eqb e running.epoch)) (with_counts c running);
        runs = rw (o, t);
        answer = rw (t, k.whole.epoch);
        rowsets = refl;
        dvs = refl;
        rel =
            rel-landed (storage g.running.catalog (with_counts c running) g.running.next g.running.manifest) (with_pins (recounted (place_on e) (n - 1) p.pinned) p) g.starts r.former (r.place + 1)
            (beside-counts g.running p c (recounted (place_on e) (n - 1) p.pinned) k.whole
            (λ d. get-remove d e running.ref_cnt ∙ recounts e (n - 1) d p.pinned none running.ref_cnt k.whole.counts (ap counts.counted (sym (eqb-true (n - 1) 0 t)))));
      })
      (λ t.
      let c = insert e (n - 1) running.ref_cnt in
      record {
        result = dropped false (with_counts c running);
        runs = rw (o, t);
        answer = rw t;
        rowsets = refl;
        dvs = refl;
        rel =
            rel-landed (storage g.running.catalog (with_counts c running) g.running.next g.running.manifest) (with_pins (recounted (place_on e) (n - 1) p.pinned) p) g.starts r.former (r.place + 1)
            (beside-counts g.running p c (recounted (place_on e) (n - 1) p.pinned) k.whole
            (λ d. get-insert d e (n - 1) running.ref_cnt ∙ recounts e (n - 1) d p.pinned (some (n - 1)) running.ref_cnt k.whole.counts (sym (counted-some (n - 1) (positive (n - 1) (eqb-false (n - 1) 0 t))))));
      })

  -- A vacuum.
  module _ (pinning : Pinning r.whole.pinned) where
    abbrev dels : List (Binding (List (List ℕ)))
    dels = running.rowset_deletion_to_apply

    abbrev free : List ℕ → Bool
    free x = not (blocked (guards_in r.whole) (get_or x 0 0))

    abbrev held : List ℕ → Bool
    held x = blocked (guards_in r.whole) (get_or x 0 0)

    applied : (x : List ℕ) → get_or x 0 0 ≤ running.epoch → leb (get_or x 0 0) (vacuum_epoch running) ≡ free x
    applied x h =
        applies running r.whole.pinned (get_or x 0 0) pinning k.whole.counts h
        ∙ ap (λ (e : ℕ). not (blocked (guards_by e r.whole.pinned) (get_or x 0 0))) k.whole.epoch

    now-free : deletions_in (keep (can_apply running) dels) ≡ keep free (deletions_in dels)
    now-free =
        deletions-kept (λ e. leb e (vacuum_epoch running)) dels
        ∙ keep_same (λ x. leb (get_or x 0 0) (vacuum_epoch running)) free (deletions_in dels) (all_map (deletions_in dels) applied (epochs-up running.epoch dels k.whole.up_to))

    still-held : deletions_in (keep (λ b. not (can_apply running b)) dels) ≡ keep held (deletions_in dels)
    still-held =
        deletions-kept (λ e. not (leb e (vacuum_epoch running))) dels
        ∙ keep_same (λ x. not (leb (get_or x 0 0) (vacuum_epoch running))) held (deletions_in dels)
        (all_map (deletions_in dels) (λ x h. ap not (applied x h) ∙ not-not (held x)) (epochs-up running.epoch dels k.whole.up_to))

    listed-keys : map pair_in (keep free (waiting_of r.whole)) ≡ pairs_of (listed r.whole)
    listed-keys =
        ap (map pair_in) (keep-map by_epoch_and_pair free r.whole.waiting)
        ∙ map-map by_epoch_and_pair pair_in (listed r.whole)

    pub vacuum-answer : arranged itself (find_vacuum running).deletions ≡ arranged itself (pairs_of (listed r.whole))
    vacuum-answer =
        ap (arranged itself) (extended-pairs (keep (can_apply running) dels) ∙ ap (map pair_in) now-free)
        ∙ sym (arranged-map pair_in (keep free (deletions_in dels)))
        ∙ ap (λ l. arranged itself (map pair_in l)) (sym (keep-arranged itself free (deletions_in dels)) ∙ ap (keep free) k.whole.waiting)
        ∙ ap (arranged itself) listed-keys

    waiting-left : arranged itself (deletions_in (find_vacuum running).left.rowset_deletion_to_apply) ≡ waiting_of (swept r.whole)
    waiting-left =
        ap (arranged itself) still-held
        ∙ sym (keep-arranged itself held (deletions_in dels))
        ∙ ap (keep held) k.whole.waiting
        ∙ keep-map by_epoch_and_pair held r.whole.waiting

    pub vacuum-rel : Rel (landed (find_vacuum running).left g.running.next g) (plain.landed (swept r.whole) r)
    vacuum-rel =
        rel-landed (storage g.running.catalog (find_vacuum running).left g.running.next g.running.manifest) (swept r.whole) g.starts gone (r.place + 1)
        (record {
          epoch = k.whole.epoch;
          now = k.whole.now;
          status = k.whole.status;
          counts = k.whole.counts;
          waiting = waiting-left;
          up_to = all_keep (λ (x : Binding (List (List ℕ))). x.key ≤ running.epoch) (λ b. not (can_apply running b)) dels k.whole.up_to;
          catalog = k.whole.catalog;
          file = k.whole.file;
        })

  -- A start.
  pub record StartsOn (stale : Bool) : Type 0 where
    pub started : Started g.torn r.torn.now
    pub rel : Rel (engine started.result (cond stale g.torn started.result.manifest) (g.starts + 1)) (plain.landed (kept r.torn) r)

  pub starts-on : (stale : Bool) → Whole r.torn.now → StartsOn stale
  starts-on stale w =
      let x = r.torn.now in
      let a = starts g.torn x k.torn w in
      let s = a.result in
      let v = committed version.fresh a.changing in
      let b : Beside (storage s.catalog v s.next s.manifest) (kept r.torn) =
      record {
        epoch = refl;
        now = a.shows;
        status = one a.changing a.shows;
        counts = λ d. refl;
        waiting = ap (λ l. arranged itself (map (λ y. 1 ∷ y) l ++ [])) a.deletions;
        up_to = (omega arith, tt);
        catalog = a.catalog;
        file = a.filed;
      } in
      let c : Beside s (kept r.torn) = subst (λ (y : Inner). Beside (storage s.catalog y s.next s.manifest) (kept r.torn)) (sym a.version) b in
      record {
        started = a;
        rel = record { whole = c; torn = torn stale g.torn s.manifest k.torn (found-whole s.manifest x a.filed) };
      }
    where
      torn : (stale : Bool) (t m : List Value) → Boots (replay t) r.torn.now → Boots (replay m) r.torn.now → Boots (replay (cond stale t m)) r.torn.now
      torn true t m a b = a
      torn false t m a b = b

      one : (c : Changing) → Shows c.snapshot r.torn.now → (d : ℕ) → 1 ≤ d → d ≤ 1 → Showing (get d (committed version.fresh c).status) (sets_at d (kept r.torn))
      one c h zero a b = absurd (omega arith)
      one c h (suc zero) a b = h
      one c h (suc (suc d)) a b = absurd (omega arith)
