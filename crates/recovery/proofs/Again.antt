-- A rewritten manifest holds the next ids and sets that it was written from. Assumes nothing.
use mathlib.Core.Path.{◌≡◌, refl, sym, ap, ap₂, subst, ◌∙◌}
use mathlib.Core.Bool.{Bool, true, false, not}
use mathlib.Core.List.{List, [], ◌∷◌, ◌++◌, map, map-map, map-id}
use Prim.Native.Nat.{ℕ, ◌+◌, ◌≤◌}
use native.Mathlib.Omega.{arith}
use lib.Dec.{leb}
use lib.ListN.{length, take, length-append, length-map}
use borrow.Author.Tests.{le-ltb}
use Rattle.std.specs.Prelude.{Ok}
use Rattle.lists.specs.Keyed.{keep, all_of, is_at, has}
use Rattle.lists.proofs.Keyed.{All, all_map, all_any, all-mapped, all_of-all, any_of-map, keep_all, all_both}
use Rattle.columns.specs.Rows.{plain}
use Rattle.manifest.specs.Operations.{Operation, Line, well_formed}
use Rattle.manifest.specs.Split.{lines}
use Rattle.ids.specs.Limits.{most_operations, most_tables, most_held}
use Rattle.frames.specs.Frames.{frame_of}
use Rattle.snapshot.specs.Entries.{Entry, added_at, by_ids, gone_at, shown_at, shown_by, shown}
use Rattle.snapshot.specs.Tables.{TableEntry, by_table}
use Rattle.version_state.specs.declared.VersionManagerInner.{VersionManagerInner}
use Rattle.version_state.specs.State.{State, start, with_tables, with_pairs, with_vectors, with_epoch, state_of}
use Rattle.ids.specs.Ids.{largest32, Next}
use Rattle.version_state.specs.Sets.{Sets, sets, unlocked, sets_of, next_of}
use Rattle.version_state.specs.Widths.{Narrow, Widths}
use Rattle.version_state.specs.Sound.{has_table, has_rowset, bad_inner}
use Rattle.rewrite.specs.Rewritten.{create_of, add_of, add_vector_of, rewrite_of, written_of, rewritten_of, longest_rewritten}
use Rattle.rewrite.proofs.Room.{rewritten-fits}
use Rattle.replay.specs.Replay.{none, carried, reopened, at_start, stands, settled, over_limit, lines_read, tableless, without_orphans, replay_of}
use Rattle.replay.proofs.Turns.{said_read, said-read}
use Rattle.recovery.specs.Rewritable.{Rewritable, made_of, names_differ}
use Rattle.recovery.specs.Holds.{Holds}
use Rattle.recovery.proofs.Framed.{frame-lines}
use Rattle.recovery.proofs.Reading.{whole_append}
use Rattle.recovery.proofs.Owned.{all_of-map}
use Rattle.recovery.proofs.SoundReading.{Whole, whole-held, whole-replayed}
use Rattle.recovery.proofs.SoundSets.{Passes, passes-rewritable, differ-unlocked, manager-passes}
use Rattle.recovery.proofs.Sound.{standing, pairs-shown, vectors-shown, whole-passes}
use Rattle.recovery.proofs.AgainBuilt.{Leads, rewrite-leads}
use Rattle.operations.specs.Effect.{applied_all}

-- a frame that leads to a state which rests
frame-read : (os : List Operation) (s : State) → all_of well_formed os ≡ true → length os ≤ most_operations → Leads os (with_epoch start reopened 0) s → settled s ≡ s → over_limit s ≡ false
    → lines_read (lines (frame_of os)) at_start ≡ Ok (carried s none (1 + 1 + length os + 1))
frame-read os s w few h q o =
    let fresh = with_epoch start reopened 0 in
    let e : settled (applied_all reopened os fresh) ≡ s = ap settled h.1 ∙ q in
    said-read (lines (frame_of os)) at_start
    ∙ ap (λ (ls : List Line). said_read ls at_start) (frame-lines os w)
    ∙ whole_append os fresh none 1 few h.0 (ap over_limit e ∙ o)
    ∙ ap (λ (u : State). Ok (carried u none (1 + 1 + length os + 1))) e

-- what is made stands, and is shown
all-stands : (l : List (List ℕ)) → keep stands (map (added_at reopened) l) ≡ map (added_at reopened) l
all-stands l = keep_all stands (map (added_at reopened) l) (all-mapped (λ x. stands x ≡ true) (added_at reopened) l (all_any l (λ k. refl)))

all_shown : (l : List (List ℕ)) → shown reopened (map (added_at reopened) l) ≡ l
unfolding shown_at gone_at
all_shown l =
    ap (map by_ids) (keep_all (shown_by reopened) (map (added_at reopened) l) (all-mapped (λ x. shown_by reopened x ≡ true) (added_at reopened) l (all_any l (λ k. refl))))
    ∙ map-map by_ids (added_at reopened) l
    ∙ map-id l

pub made-same : (s : State) → sets_of (made_of (next_of s) (sets_of s)) ≡ sets_of s
made-same s =
    let z = sets_of s in
    ap (λ (ts : List TableEntry). sets ts (shown reopened (map (added_at reopened) z.pairs)) (shown reopened (map (added_at reopened) z.vectors))) (map-map unlocked unlocked z.tables ∙ map-map unlocked unlocked s.tables)
    ∙ ap₂ (λ (ps vs : List (List ℕ)). sets z.tables ps vs) (all_shown z.pairs) (all_shown z.vectors)

module _ (n : Next) (z : Sets) (r : Rewritable n z) where
  -- at most 529 operations
  made-few : length (rewrite_of n z) ≤ most_operations
  made-few =
      let ts = map create_of z.tables in
      let ps = map add_of z.pairs in
      let vs = map add_vector_of z.vectors in
      let a = length-append (ts ++ ps) vs in
      let b = length-append ts ps in
      let lt = length-map z.tables create_of in
      let lp = length-map z.pairs add_of in
      let lv = length-map z.vectors add_vector_of in
      let ct = r.table_count in
      let cp = r.pair_count in
      let cv = r.vector_count in
      omega arith

  made-settled : settled (made_of n z) ≡ made_of n z
  made-settled = ap₂ (λ (p v : List Entry). with_vectors (with_pairs (made_of n z) p) v) (all-stands z.pairs) (all-stands z.vectors)

  made-within : over_limit (made_of n z) ≡ false
  made-within =
      rw (
        length-map z.tables unlocked,
        length-map z.pairs (added_at reopened),
        length-map z.vectors (added_at reopened),
        le-ltb most_tables (length z.tables) r.table_count,
        le-ltb most_held (length z.pairs) r.pair_count,
        le-ltb most_held (length z.vectors) r.vector_count,
      )

  made-tables : tableless (made_of n z) ≡ false
  made-tables =
      ap not
      (all_of-map (added_at reopened) (has_table (map unlocked z.tables)) (λ k. has by_table (take 1 k) z.tables) (λ k. any_of-map unlocked (is_at by_table (take 1 k)) z.tables) z.pairs ∙ r.tables_of_pairs)

  made-rowsets : without_orphans (made_of n z) ≡ made_of n z
  made-rowsets =
      let ps = map (added_at reopened) z.pairs in
      let vs = map (added_at reopened) z.vectors in
      let e = all_of-map (added_at reopened) (has_rowset ps) (λ k. has plain (take 2 k) z.pairs) (λ k. any_of-map (added_at reopened) (is_at by_ids (take 2 k)) z.pairs) z.vectors in
      ap (with_vectors (made_of n z)) (keep_all (has_rowset ps) vs (all_of-all (has_rowset ps) vs (e ∙ r.vector_pairs)))

  pub rewritten-holds : Holds (written_of n z) (made_of n z)
  rewritten-holds =
      record {
        frame = none;
        line = 1 + 1 + length (rewrite_of n z) + 1;
        read = frame-read (rewrite_of n z) (made_of n z) r.lines made-few (rewrite-leads n z r) made-settled made-within;
        tables = made-tables;
        rowsets = made-rowsets;
      }

  pub rewritten-room : length (written_of n z) ≤ longest_rewritten
  rewritten-room = rewritten-fits n z r.table_count r.pair_count r.vector_count r.lines

-- Of an open manager.
pub manager-rewritable : (m : VersionManagerInner) → bad_inner m ≡ false → Widths (state_of m) → names_differ (state_of m).tables ≡ true → Rewritable (next_of (state_of m)) (sets_of (state_of m))
manager-rewritable m g w d = passes-rewritable (state_of m) (manager-passes m g w d)

-- The same where its manifest holds s: names and shapes are then those of s.
module _ (src : List ℕ) (s : State) (m : VersionManagerInner) (h : Holds src s) (k : sets_of (state_of m) ≡ sets_of s) (g : bad_inner m ≡ false) (n : Narrow (state_of m)) where
  passes : Passes s
  passes = whole-passes s (whole-held src s h)

  same_tables : {A : Type 0} (f : List TableEntry → A) → ((l : List TableEntry) → f (map unlocked l) ≡ f l) → f (state_of m).tables ≡ f s.tables
  same_tables f q = sym (q (state_of m).tables) ∙ ap (λ (z : Sets). f z.tables) k ∙ q s.tables

  abbrev narrow-shape : TableEntry → Bool
  narrow-shape t = leb t.shape largest32

  pub held-rewritable : Rewritable (next_of (state_of m)) (sets_of (state_of m))
  held-rewritable =
      manager-rewritable m g
      (record { next = n; shapes = same_tables (all_of narrow-shape) (all_of-map unlocked narrow-shape narrow-shape (λ t. refl)) ∙ passes.widths.shapes })
      (same_tables names_differ differ-unlocked ∙ passes.differ)

-- Of what a replay gives: it is what is made of its next ids and sets.
map_same : {A : Type 0} (f : A → A) (l : List A) → All (λ x. f x ≡ x) l → map f l ≡ l
map_same f [] a = refl
map_same f (x ∷ l) a = ap₂ ◌∷◌ a.0 (map_same f l a.1)

table_same : (x : TableEntry) → x.locked ≡ false → unlocked x ≡ x
table_same x f = ap (λ (b : Bool). record { table = x.table; shape = x.shape; name = x.name; locked = b }) (sym f)

entry-same : (x : Entry) → x.added ≡ reopened → x.deleted ≡ 0 → added_at reopened (by_ids x) ≡ x
entry-same x a d = ap₂ (λ (b c : ℕ). record { ids = x.ids; added = b; deleted = c }) (sym a) (sym d)

module _ (s : State) (w : Whole s) where
  tables-again : map unlocked (map unlocked s.tables) ≡ s.tables
  tables-again = map-map unlocked unlocked s.tables ∙ map_same unlocked s.tables (all_map s.tables (λ x m. table_same x m.free) w.rests.kept.tables)

  pairs-again : map (added_at reopened) (shown s.epoch s.pairs) ≡ s.pairs
  pairs-again =
      ap (λ (l : List Entry). map (added_at reopened) (map by_ids l)) (pairs-shown s w)
      ∙ map-map (added_at reopened) by_ids s.pairs
      ∙ map_same _ s.pairs (all_both s.pairs (λ x a h. entry-same x a.added (standing x h)) w.rests.kept.pairs w.rests.pairs)

  vectors-again : map (added_at reopened) (shown s.epoch s.vectors) ≡ s.vectors
  vectors-again =
      ap (λ (l : List Entry). map (added_at reopened) (map by_ids l)) (vectors-shown s w)
      ∙ map-map (added_at reopened) by_ids s.vectors
      ∙ map_same _ s.vectors (all_both s.vectors (λ x a h. entry-same x a.added (standing x h)) w.rests.kept.vectors w.rests.vectors)

  made_again : made_of (next_of s) (sets_of s) ≡ s
  made_again =
      ap (λ (ts : List TableEntry). with_tables (made_of (next_of s) (sets_of s)) ts) tables-again
      ∙ ap₂ (λ (ps vs : List Entry). with_vectors (with_pairs (with_epoch s reopened 0) ps) vs) pairs-again vectors-again
      ∙ ap₂ (λ (e n : ℕ). with_epoch s e n) (sym w.rests.kept.epoch) (sym w.rests.kept.manifest)

pub replay-rewritable : (src : List ℕ) (s : State) → replay_of src ≡ Ok s → Rewritable (next_of s) (sets_of s)
replay-rewritable src s h = passes-rewritable s (whole-passes s (whole-replayed src s h))

pub replay-room : (src : List ℕ) (s : State) → replay_of src ≡ Ok s → length (rewritten_of s) ≤ longest_rewritten
replay-room src s h = rewritten-room (next_of s) (sets_of s) (replay-rewritable src s h)

pub replay-again : (src : List ℕ) (s : State) → replay_of src ≡ Ok s → Holds (rewritten_of s) s
replay-again src s h = subst (Holds (rewritten_of s)) (made_again s (whole-replayed src s h)) (rewritten-holds (next_of s) (sets_of s) (replay-rewritable src s h))
