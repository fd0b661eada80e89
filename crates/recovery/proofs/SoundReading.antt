-- What a replay keeps of its state, line by line, and what it gives at the end. Assumes nothing.
use mathlib.Core.Path.{◌≡◌, refl, ap, subst}
use mathlib.Core.Bool.{Bool, true, false, cond, ◌||◌}
use mathlib.Core.List.{List, [], ◌∷◌, ◌++◌}
use Prim.Native.Nat.{ℕ, ◌+◌, ◌≤◌}
use native.Mathlib.Omega.{arith}
use lib.Dec.{leb, ltb}
use lib.ListN.{length, take}
use borrow.Author.Tests.{ltb-false}
use Rattle.std.specs.Prelude.{Result, Ok, Err}
use Rattle.lists.specs.Keyed.{keep, has}
use Rattle.lists.proofs.Tests.{neither}
use Rattle.lists.proofs.Keyed.{All, all_append, all_keep, kept-all, keep_all, length-keep, ascend-to, ascend-from, ascending-keep}
use Rattle.ids.specs.declared.refusal.Refusal.{Refusal}
use Rattle.ids.specs.declared.refusal.Refusal.TheVariants.{ManifestTooLong, TableConflict, OverLimit, RowsetWithoutTable, TooManyOperations}
use Rattle.manifest.specs.Operations.{Operation, Line, begin, end, torn, operation, bad, well_formed}
use Rattle.manifest.specs.Lines.{line_of}
use Rattle.manifest.specs.Split.{lines}
use Rattle.manifest.proofs.Lines.{text-parse}
use Rattle.ids.specs.Limits.{most_operations, most_tables, most_held, longest_manifest}
use Rattle.ids.specs.Results.{and_then}
use Rattle.ids.proofs.Results.{not-given, same-given}
use Rattle.snapshot.specs.Entries.{Entry, by_ids}
use Rattle.version_state.specs.State.{State, start, with_pairs, with_vectors, with_epoch}
use Rattle.operations.specs.Effect.{applied}
use Rattle.replay.specs.Replay.{Frame, none, opened, Carried, carried, reopened, at_start, conflicts, framed, stands, settled, over_limit, limited, ended, noted, line_read, lines_read, tableless, without_orphans, finished, lines_replayed, replay_of}
use Rattle.recovery.specs.Holds.{Holds}
use Rattle.recovery.proofs.SoundState.{Added, two, three, Kept, kept-applied}

-- what an `E` leaves: nothing is marked, and the lists are within the limits
pub record Rests (s : State) : Type 0 where
  pub kept : Kept s
  pub pairs : All (λ x. stands x ≡ true) s.pairs
  pub vectors : All (λ x. stands x ≡ true) s.vectors
  pub table_count : length s.tables ≤ most_tables
  pub pair_count : length s.pairs ≤ most_held
  pub vector_count : length s.vectors ≤ most_held

-- with fewer pairs, and with fewer vectors
kept-pairs : (q : Entry → Bool) (s : State) → Kept s → Kept (with_pairs s (keep q s.pairs))
kept-pairs q s k =
    record {
      epoch = k.epoch;
      manifest = k.manifest;
      next_table = k.next_table;
      next_rowset = k.next_rowset;
      next_vector = k.next_vector;
      ordered = record { tables = k.ordered.tables; pairs = ascend-from by_ids (keep q s.pairs) (ascending-keep by_ids q s.pairs (ascend-to by_ids s.pairs k.ordered.pairs)); vectors = k.ordered.vectors };
      tables = k.tables;
      names = k.names;
      pairs = all_keep (Added two 1 s.next_rowset) q s.pairs k.pairs;
      vectors = k.vectors;
    }

kept-vectors : (q : Entry → Bool) (s : State) → Kept s → Kept (with_vectors s (keep q s.vectors))
kept-vectors q s k =
    record {
      epoch = k.epoch;
      manifest = k.manifest;
      next_table = k.next_table;
      next_rowset = k.next_rowset;
      next_vector = k.next_vector;
      ordered = record { tables = k.ordered.tables; pairs = k.ordered.pairs; vectors = ascend-from by_ids (keep q s.vectors) (ascending-keep by_ids q s.vectors (ascend-to by_ids s.vectors k.ordered.vectors)) };
      tables = k.tables;
      names = k.names;
      pairs = k.pairs;
      vectors = all_keep (Added three 2 s.next_vector) q s.vectors k.vectors;
    }

-- Results taken apart.
then-given : {A B : Type 0} (x : Result A Refusal) (f : A → Result B Refusal) (b : B) → and_then x f ≡ Ok b → (a : A) × (x ≡ Ok a) × (f a ≡ Ok b)
then-given (Err k) f b h = absurd (not-given h)
then-given (Ok a) f b h = (a, refl, h)

-- a test that refuses
cond-given : {A : Type 0} (t : Bool) (k : Refusal) (x : Result A Refusal) (a : A) → cond t (Err k) x ≡ Ok a → (t ≡ false) × (x ≡ Ok a)
cond-given true k x a h = absurd (not-given h)
cond-given false k x a h = (refl, h)

kept-framed : (n : ℕ) (os : List Operation) (s u : State) → Kept s → All (λ o. well_formed o ≡ true) os → framed n os s ≡ Ok u → Kept u
kept-framed n [] s u k w h = subst Kept (same-given h) k
kept-framed n (o ∷ os) s u k w h =
    let c = cond-given (conflicts o s) (TableConflict n) (framed (n + 1) os (applied reopened o s)) u h in
    kept-framed (n + 1) os (applied reopened o s) u (kept-applied o s k w.0 c.0) w.1 c.1

rests-settled : (u : State) → Kept u → over_limit (settled u) ≡ false → Rests (settled u)
rests-settled u k o =
    let a = neither (ltb most_tables (length u.tables)) (ltb most_held (length (keep stands u.pairs)) || ltb most_held (length (keep stands u.vectors))) o in
    let b = neither (ltb most_held (length (keep stands u.pairs))) (ltb most_held (length (keep stands u.vectors))) a.1 in
    record {
      kept = kept-vectors stands (with_pairs u (keep stands u.pairs)) (kept-pairs stands u k);
      pairs = kept-all stands u.pairs;
      vectors = kept-all stands u.vectors;
      table_count = ltb-false most_tables (length u.tables) a.0;
      pair_count = ltb-false most_held (length (keep stands u.pairs)) b.0;
      vector_count = ltb-false most_held (length (keep stands u.vectors)) b.1;
    }

-- the operations of an open frame were read
abbrev Read : Frame → Type 0
Read none = Unit {0}
Read (opened n os) = All (λ o. well_formed o ≡ true) os

rests-ended : (n : ℕ) (f : Frame) (s t : State) → Rests s → Read f → ended n f s ≡ Ok t → Rests t
rests-ended n none s t r w h = subst Rests (same-given h) r
rests-ended n (opened m os) s t r w h =
    let x = then-given (framed m os s) (λ u. limited n (settled u)) t h in
    let u = x.0 in
    let c = cond-given (over_limit (settled u)) (OverLimit n) (Ok (settled u)) t x.2 in
    subst Rests (same-given c.1) (rests-settled u (kept-framed m os s u r.kept w x.1) c.0)

read-noted : (n : ℕ) (o : Operation) (f g : Frame) → well_formed o ≡ true → Read f → noted n o f ≡ Ok g → Read g
read-noted n o none g v w h = subst Read (same-given h) tt
read-noted n o (opened m os) g v w h =
    let c = cond-given (leb most_operations (length os)) (TooManyOperations n) (Ok (opened m (os ++ (o ∷ [])))) g h in
    subst Read (same-given c.1) (all_append (λ p. well_formed p ≡ true) os (o ∷ []) w (v, tt))

record Runs (c : Carried) : Type 0 where
  state : Rests c.state
  frame : Read c.frame

runs-line : (l : Line) (c d : Carried) → ((o : Operation) → l ≡ operation o → well_formed o ≡ true) → Runs c → line_read l c ≡ Ok d → Runs d
runs-line begin c d w r h = subst Runs (same-given h) (record { state = r.state; frame = tt })
runs-line end c d w r h =
    let x = then-given (ended c.line c.frame c.state) (λ s. Ok (carried s none (c.line + 1))) d h in
    subst Runs (same-given x.2) (record { state = rests-ended c.line c.frame c.state x.0 r.state r.frame x.1; frame = tt })
runs-line (operation o) c d w r h =
    let x = then-given (noted c.line o c.frame) (λ f. Ok (carried c.state f (c.line + 1))) d h in
    subst Runs (same-given x.2) (record { state = r.state; frame = read-noted c.line o c.frame x.0 (w o refl) r.frame x.1 })
runs-line torn c d w r h = subst Runs (same-given h) (record { state = r.state; frame = tt })
runs-line bad c d w r h = absurd (not-given h)

runs-lines : (ls : List (List ℕ)) (c d : Carried) → Runs c → lines_read ls c ≡ Ok d → Runs d
runs-lines [] c d r h = subst Runs (same-given h) r
runs-lines (l ∷ ls) c d r h =
    let x = then-given (line_read (line_of l) c) (lines_read ls) d h in
    runs-lines ls x.0 d (runs-line (line_of l) c x.0 (λ o e. (text-parse l o e).0) r x.1) x.2

rests-start : Rests (with_epoch start reopened 0)
rests-start =
    record {
      kept =
          record {
            epoch = refl;
            manifest = refl;
            next_table = omega arith;
            next_rowset = omega arith;
            next_vector = omega arith;
            ordered = record { tables = refl; pairs = refl; vectors = refl };
            tables = tt;
            names = tt;
            pairs = tt;
            vectors = tt;
          };
      pairs = tt;
      vectors = tt;
      table_count = omega arith;
      pair_count = omega arith;
      vector_count = omega arith;
    }

-- what a replay gives: each rowset has its table, and each vector its rowset
pub record Whole (s : State) : Type 0 where
  pub rests : Rests s
  pub tables : tableless s ≡ false
  pub rowsets : without_orphans s ≡ s

whole-finished : (s : State) → Rests s → tableless s ≡ false → Whole (without_orphans s)
whole-finished s r t =
    let q : Entry → Bool = λ v. has by_ids (take 2 (by_ids v)) s.pairs in
    let n = r.vector_count in
    record {
      rests =
          record {
            kept = kept-vectors q s r.kept;
            pairs = r.pairs;
            vectors = all_keep (λ x. stands x ≡ true) q s.vectors r.vectors;
            table_count = r.table_count;
            pair_count = r.pair_count;
            vector_count = omega (arith, length-keep q s.vectors);
          };
      tables = t;
      rowsets = ap (with_vectors s) (keep_all q (keep q s.vectors) (kept-all q s.vectors));
    }

pub whole-held : (src : List ℕ) (s : State) → Holds src s → Whole s
whole-held src s h =
    let r = runs-lines (lines src) at_start (carried s h.frame h.line) (record { state = rests-start; frame = tt }) h.read in
    record { rests = r.state; tables = h.tables; rowsets = h.rowsets }

pub whole-replayed : (src : List ℕ) (s : State) → replay_of src ≡ Ok s → Whole s
whole-replayed src s h =
    let a = cond-given (ltb longest_manifest (length src)) ManifestTooLong (lines_replayed (lines src)) s h in
    let x = then-given (lines_read (lines src) at_start) (λ c. finished c.state) s a.1 in
    let c = x.0 in
    let r = runs-lines (lines src) at_start c (record { state = rests-start; frame = tt }) x.1 in
    let b = cond-given (tableless c.state) RowsetWithoutTable (Ok (without_orphans c.state)) s x.2 in
    subst Whole (same-given b.1) (whole-finished c.state r.state b.0)
