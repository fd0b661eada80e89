-- A commit at an epoch beside a replay of its operations: the same sets after each of them, and no conflict. Assumes nothing.
use mathlib.Core.Path.{◌≡◌, refl, sym, ap, subst, ◌∙◌}
use mathlib.Core.Bool.{true, false}
use mathlib.Core.List.{List, [], ◌∷◌, map}
use Prim.Native.Nat.{ℕ, ◌+◌, ◌≤◌}
use native.Mathlib.Omega.{arith}
use borrow.Author.Tests.{ltb-true, ne_eqb, not-false}
use Rattle.std.specs.Prelude.{Result, Ok, Err}
use Rattle.lists.specs.Order.{same}
use Rattle.lists.specs.Keyed.{all_of, has, is_at}
use Rattle.lists.proofs.Tests.{join}
use Rattle.lists.proofs.Keyed.{All, all_map, all_of-all, none-any_of, any_of-map}
use Rattle.columns.proofs.Rows.{few-rows}
use Rattle.ids.specs.declared.refusal.Refusal.{Refusal}
use Rattle.ids.specs.Verdicts.{judged}
use Rattle.ids.specs.Results.{and_then}
use Rattle.ids.proofs.Verdicts.{none-judged}
use Rattle.manifest.specs.Operations.{Operation, well_formed}
use Rattle.manifest.specs.Edits.{Edit, leaves, adds, deletes, Table, edits_of}
use Rattle.snapshot.specs.Entries.{Entry, shown, by_ids}
use Rattle.snapshot.specs.Tables.{TableEntry, by_table, name_taken}
use Rattle.version_state.specs.declared.VersionManagerInner.{VersionManagerInner}
use Rattle.version_state.specs.State.{State, state_of, pairs_at, vectors_at}
use Rattle.version_state.specs.Sets.{Sets, sets, unlocked, sets_of}
use Rattle.version_state.proofs.Within.{Within, within_of, shown-next}
use Rattle.version_state.proofs.Facts.{Ordered, Sound}
use Rattle.operations.specs.Effect.{applied, applied_all}
use Rattle.operations.specs.Judge.{op_rules}
use Rattle.operations.specs.Steps.{step_of, steps_of}
use Rattle.operations.proofs.Edits.{TableFits, fits}
use Rattle.operations.proofs.Keeps.{Below, below-applied, ordered-applied, Short, short-applied}
use Rattle.commit.proofs.Stepwise.{halt, step_given}
use Rattle.replay.specs.Replay.{reopened, clashes, conflicts}
use Rattle.recovery.proofs.Reading.{conflict_free}
use Rattle.recovery.proofs.Effects.{sets_at, on_sets, on-sets}
use Rattle.recovery.proofs.Replays.{Read, read-applied}

-- t is the committing state, v the replayed one
pub record Beside (e : ℕ) (t v : State) : Type 0 where
  pub ordered : Ordered t
  pub below : Below t.next_table t.tables
  pub few : Short t
  pub read : Read v
  pub same : sets_at e t ≡ sets_at reopened v

module _ (e : ℕ) (t v : State) (b : Beside e t v) where
  tables-same : map unlocked t.tables ≡ map unlocked v.tables
  tables-same = ap (λ (z : Sets). z.tables) b.same

  live_same : (k : List ℕ) → has by_table k v.tables ≡ has by_table k t.tables
  live_same k =
      sym (any_of-map unlocked (is_at by_table k) v.tables)
      ∙ ap (has by_table k) (sym tables-same)
      ∙ any_of-map unlocked (is_at by_table k) t.tables

  name-same : (n : List ℕ) → name_taken n v.tables ≡ name_taken n t.tables
  name-same n =
      sym (any_of-map unlocked (λ (x : TableEntry). same x.name n) v.tables)
      ∙ ap (name_taken n) (sym tables-same)
      ∙ any_of-map unlocked (λ (x : TableEntry). same x.name n) t.tables

  next-absent : has by_table (t.next_table ∷ []) t.tables ≡ false
  next-absent =
      let n = t.next_table in
      none-any_of (is_at by_table (n ∷ [])) t.tables (all_map t.tables (λ x h. rw (ne_eqb x.table n (omega (arith, ltb-true x.table n h)))) b.below)

  no-clash : (d : Edit Table) → TableFits d t → clashes d v.tables ≡ false
  no-clash leaves f = refl
  no-clash (adds x) f =
      let dead : has by_table (x.id ∷ []) t.tables ≡ false = ap (λ (n : ℕ). has by_table (n ∷ []) t.tables) f.0 ∙ next-absent in
      rw (live_same (x.id ∷ []), dead, name-same x.name) f.1
  no-clash (deletes k) f = rw (live_same k, f)

no-conflict : (i e : ℕ) (o : Operation) (t v : State) → Beside e t v → judged (op_rules i e o t) ≡ Ok tt → conflicts o v ≡ false
no-conflict i e o t v b a = no-clash e t v b (edits_of o).tables (fits i e o t a).tables

well-formed : (i e : ℕ) (o : Operation) (t : State) → judged (op_rules i e o t) ≡ Ok tt → well_formed o ≡ true
well-formed i e o t a = not-false _ (none-judged (op_rules i e o t) a).0

beside-applied : (i e : ℕ) (o : Operation) (t v : State) → 1 ≤ e → judged (op_rules i e o t) ≡ Ok tt → Beside e t v → Beside e (applied e o t) (applied reopened o v)
beside-applied i e o t v h a b =
    record {
      ordered = ordered-applied e o t b.ordered;
      below = below-applied e o t b.below;
      few = short-applied i e o t a b.few;
      read = read-applied o v b.read;
      same = on-sets e o t h b.ordered ∙ ap (on_sets o) b.same ∙ sym (on-sets reopened o v (omega arith) b.read.ordered);
    }

-- operations that a commit accepts: well formed, without conflict, and both are side by side after them
pub record Went (e : ℕ) (os : List Operation) (w v : State) : Type 0 where
  pub well : all_of well_formed os ≡ true
  pub free : conflict_free os v ≡ true
  pub beside : Beside e w (applied_all reopened os v)

went_on : (e : ℕ) (o : Operation) (os : List Operation) (w v : State) → well_formed o ≡ true → conflicts o v ≡ false → Went e os w (applied reopened o v) → Went e (o ∷ os) w v
went_on e o os w v f c g = record { well = join f g.well; free = rw c g.free; beside = g.beside }

pub beside-steps : (e i : ℕ) (os : List Operation) (t w v : State) → 1 ≤ e → Beside e t v → steps_of i e os t ≡ Ok w → Went e os w v
beside-steps e i [] t w v p b h =
    let q : t ≡ w = cc in
    record { well = refl; free = refl; beside = subst (λ (u : State). Beside e u v) q b }
beside-steps e i (o ∷ os) t w v p b h = go (step_of i e o t) refl h (λ u c. beside-steps e (i + 1) os u w (applied reopened o v) p c)
  where
    go : (x : Result State Refusal) → step_of i e o t ≡ x → and_then x (λ u. steps_of (i + 1) e os u) ≡ Ok w
        → ((u : State) → Beside e u (applied reopened o v) → steps_of (i + 1) e os u ≡ Ok w → Went e os w (applied reopened o v)) → Went e (o ∷ os) w v
    go (Ok u) a h ih =
        let d = step_given i e o t u a in
        let c : Beside e u (applied reopened o v) = subst (λ (y : State). Beside e y (applied reopened o v)) d.1 (beside-applied i e o t v p d.0 b) in
        went_on e o os w v (well-formed i e o t d.0) (no-conflict i e o t v b d.0) (ih u c h)
    go (Err r) a h ih = absurd (halt h)

-- Before the first of them: an epoch that nothing reaches shows what the one before it shows.
next-shows : (e : ℕ) (ns : List ℕ) (l : List Entry) → All (Within e ns) l → shown (e + 1) l ≡ shown e l
next-shows e ns l a = ap (map by_ids) (shown-next e ns l a)

next-sets : (m : VersionManagerInner) → Sound m → sets_at (m.epoch + 1) (state_of m) ≡ sets_of (state_of m)
next-sets m s =
    let t = state_of m in
    let p = all_map t.pairs (within_of m.epoch _) (all_of-all _ t.pairs s.pairs) in
    let v = all_map t.vectors (within_of m.epoch _) (all_of-all _ t.vectors s.vectors) in
    ap (λ (l : List (List ℕ)). sets (map unlocked t.tables) l (vectors_at (m.epoch + 1) t)) (next-shows m.epoch _ t.pairs p)
    ∙ ap (λ (l : List (List ℕ)). sets (map unlocked t.tables) (pairs_at m.epoch t) l) (next-shows m.epoch _ t.vectors v)

pub few-start : (m : VersionManagerInner) → Sound m → Short (state_of m)
few-start m s =
    record {
      tables = few-rows _ m.tables.count 16 s.fits.tables;
      pairs = few-rows _ m.rowsets.count 256 s.fits.rowsets;
      vectors = few-rows _ m.vectors.count 256 s.fits.vectors;
    }

pub beside-start : (m : VersionManagerInner) (s : State) → Sound m → Read s → sets_of (state_of m) ≡ sets_of s → Beside (m.epoch + 1) (state_of m) s
beside-start m s g r h =
    record {
      ordered = g.ordered;
      below = all_of-all _ (state_of m).tables g.below;
      few = few-start m g;
      read = r;
      same = next-sets m g ∙ h ∙ ap (λ (e : ℕ). sets_at e s) r.epoch;
    }
