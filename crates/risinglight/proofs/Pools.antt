-- The pools beside what is held, and the next ids on both sides. Assumes nothing.
use mathlib.Core.Path.{◌≡◌, refl, sym, ap, subst, ◌∙◌}
use mathlib.Core.Bool.{Bool, true, false, cond, not, ◌&&◌, ◌||◌, and-false, and_assoc}
use mathlib.Core.List.{List, [], ◌∷◌, ◌++◌, map}
use Prim.Native.Nat.{ℕ, ◌+◌, ◌≤◌, ◌<◌, max}
use native.Mathlib.Omega.{arith}
use native.Mathlib.Nat.{mod-le}
use lib.Dec.{eqb, ltb}
use borrow.Author.Tests.{leb-false, ltb-true}
use Rattle.std.specs.Prelude.{Ok}
use Rattle.lists.specs.Order.{same}
use Rattle.lists.specs.Keyed.{keep, all_of, is_at, has, without, arranged}
use Rattle.lists.proofs.Tests.{by_cases, clash, both, join, or_across}
use Rattle.lists.proofs.Order.{same_true}
use Rattle.lists.proofs.Keyed.{All, Ascending, after-absent, has-put}
use Rattle.ids.specs.Verdicts.{judged}
use Rattle.ids.proofs.Verdicts.{none-judged}
use Rattle.manifest.specs.Operations.{Operation, create_table, drop_table, add_rowset, delete_rowset, add_vector, delete_vector, next_ids}
use Rattle.manifest.specs.Edits.{Edit, leaves, adds, deletes, edits_of}
use Rattle.snapshot.specs.Entries.{Entry, by_ids, added_at, deleted_at}
use Rattle.version_state.specs.State.{State}
use Rattle.operations.specs.Effect.{marked, applied}
use Rattle.operations.specs.Judge.{op_rules}
use Rattle.operations.specs.Steps.{steps_of}
use Rattle.plain_record.specs.Sets.{itself}
use Rattle.plain_record.specs.Plain.{Id, table_id, rowset_id, vector_id, ids_by, ids_of}
use Rattle.plain_record.specs.Claim.{below_next}
use Rattle.plain_record.proofs.CommitSets.{steps_on}
use Rattle.risinglight.specs.Storage.{NextId, raise, raised, Rowset, pair_of, open_rowset, rowsets_to_open, Dv, triple_of, open_dv, dvs_to_open, table_changeset, changeset}
use Rattle.risinglight.specs.VersionManager.{released}
use Rattle.risinglight.proofs.Maps.{has-without}
use Rattle.risinglight.proofs.Changes.{adds_it, adds_any, of_pairs, of_vectors}
use Rattle.risinglight.proofs.Files.{any-arranged}

abbrev pub of_triples : Operation → List ℕ → Bool
of_triples o k = adds_it (edits_of o).vectors k

-- What a commit of the port holds: what it held, and what is added.

marked-at : (j k : List ℕ) (e : ℕ) (x : Entry) → is_at by_ids k (cond (is_at by_ids j x) (deleted_at e x) x) ≡ is_at by_ids k x
marked-at j k e x = by_cases (is_at by_ids j x) (λ t. rw t) (λ t. rw t)

has-marked : (e : ℕ) (d : Edit (List ℕ)) (k : List ℕ) (l : List Entry) → has by_ids k (marked e d l) ≡ adds_it d k || has by_ids k l
has-marked e leaves k l = refl
has-marked e (adds j) k l = has-put by_ids k (added_at e j) l
has-marked e (deletes j) k [] = refl
has-marked e (deletes j) k (x ∷ l) = rw (marked-at j k e x) (ap (λ b. is_at by_ids k x || b) (has-marked e (deletes j) k l))

module _ (e : ℕ) where
  -- the entries of pairs, or of vectors
  module _ (f : Operation → Edit (List ℕ)) (g : State → List Entry) (step : (o : Operation) (s : State) → g (applied e o s) ≡ marked e (f o) (g s)) (k : List ℕ) where
    abbrev adding : Operation → List ℕ → Bool
    adding o j = adds_it (f o) j

    held_on : (z : Bool) (i : ℕ) (o : Operation) (os : List Operation) (s : State) → adds_any adding (o ∷ os) k || has by_ids k (g s) ≡ z
        → judged (op_rules i e o s) ≡ Ok tt → adds_any adding os k || has by_ids k (g (applied e o s)) ≡ z
    held_on z i o os s h a =
        ap (λ l. adds_any adding os k || has by_ids k l) (step o s)
        ∙ ap (λ b. adds_any adding os k || b) (has-marked e (f o) k (g s))
        ∙ or_across (adding o k) (adds_any adding os k) (has by_ids k (g s))
        ∙ h

    held_after : (os : List Operation) (s t : State) → steps_of 0 e os s ≡ Ok t → has by_ids k (g t) ≡ adds_any adding os k || has by_ids k (g s)
    held_after os s t h =
        let z = adds_any adding os k || has by_ids k (g s) in
        (steps_on (λ i ps u. adds_any adding ps k || has by_ids k (g u) ≡ z) e (held_on z) 0 os s t refl h).1

  pub pairs-after : (k : List ℕ) (os : List Operation) (s t : State) → steps_of 0 e os s ≡ Ok t → has by_ids k t.pairs ≡ adds_any of_pairs os k || has by_ids k s.pairs
  pairs-after k = held_after (λ o. (edits_of o).pairs) (λ s. s.pairs) (λ o s. refl) k

  pub vectors-after : (k : List ℕ) (os : List Operation) (s t : State) → steps_of 0 e os s ≡ Ok t
      → has by_ids k t.vectors ≡ adds_any of_triples os k || has by_ids k s.vectors
  vectors-after k = held_after (λ o. (edits_of o).vectors) (λ s. s.vectors) (λ o s. refl) k

-- a vector of three ids that is added is one of its table and id
adds-ends : (o : Operation) (t r v : ℕ) → adds_it (edits_of o).vectors (t ∷ r ∷ v ∷ []) ≡ true → of_vectors o (t ∷ v ∷ []) ≡ true
adds-ends (create_table a h n) t r v e = clash e refl
adds-ends (drop_table a) t r v e = clash e refl
adds-ends (add_rowset a b) t r v e = clash e refl
adds-ends (delete_rowset a b) t r v e = clash e refl
adds-ends (add_vector a b c) t r v e =
    let x = both (eqb a t) (eqb b r && (eqb c v && true)) e in
    let y = both (eqb b r) (eqb c v && true) x.1 in
    join x.0 y.1
adds-ends (delete_vector a b c) t r v e = clash e refl
adds-ends (next_ids a b c) t r v e = clash e refl

pub any-ends : (os : List Operation) (t r v : ℕ) → adds_any of_triples os (t ∷ r ∷ v ∷ []) ≡ true → adds_any of_vectors os (t ∷ v ∷ []) ≡ true
any-ends [] t r v h = clash h refl
any-ends (o ∷ os) t r v h =
    by_cases (adds_it (edits_of o).vectors (t ∷ r ∷ v ∷ []))
    (λ e. rw (adds-ends o t r v e))
    (λ e. let i = any-ends os t r v (rw e at h) in by_cases (of_vectors o (t ∷ v ∷ [])) (λ f. rw f) (λ f. rw f i))

-- An accepted operation leaves the next ids of rowsets and vectors: what it adds was drawn.
record Drawn (s t : State) : Type 0 where
  rowset : t.next_rowset ≡ s.next_rowset
  vector : t.next_vector ≡ s.next_vector

max-left : (n r : ℕ) → r < n → max n (r + 1) ≡ n
max-left n r h = omega arith

drawn-step : (i e : ℕ) (o : Operation) (s : State) → judged (op_rules i e o s) ≡ Ok tt → Drawn s (applied e o s)
drawn-step i e (create_table t h n) s a = record { rowset = refl; vector = refl }
drawn-step i e (drop_table t) s a = record { rowset = refl; vector = refl }
drawn-step i e (add_rowset t r) s a =
    record { rowset = max-left s.next_rowset r (leb-false s.next_rowset r (none-judged (op_rules i e (add_rowset t r) s) a).1.1.0); vector = refl }
drawn-step i e (delete_rowset t r) s a = record { rowset = refl; vector = refl }
drawn-step i e (add_vector t r v) s a =
    record { rowset = refl; vector = max-left s.next_vector v (leb-false s.next_vector v (none-judged (op_rules i e (add_vector t r v) s) a).1.1.0) }
drawn-step i e (delete_vector t r v) s a = record { rowset = refl; vector = refl }
drawn-step i e (next_ids t r v) s a = clash refl (none-judged (op_rules i e (next_ids t r v) s) a).1.0

pub drawn-after : (e : ℕ) (os : List Operation) (s t : State) → steps_of 0 e os s ≡ Ok t → (t.next_rowset ≡ s.next_rowset) × (t.next_vector ≡ s.next_vector)
drawn-after e os s t h =
    (steps_on (λ i ps u. (u.next_rowset ≡ s.next_rowset) × (u.next_vector ≡ s.next_vector)) e
    (λ i o ps u k a. let d = drawn-step i e o u a in (d.rowset ∙ k.0, d.vector ∙ k.1)) 0 os s t (refl, refl) h).1

-- A vacuum.

-- in a list without repeats an entry is kept, or among those that are not
pub kept-apart : (q : Entry → Bool) (k : List ℕ) (l : List Entry) → Ascending by_ids l → has by_ids k (keep (λ x. not (q x)) l) ≡ not (has by_ids k (keep q l)) && has by_ids k l
kept-apart q k [] a = refl
kept-apart q k (x ∷ l) a =
    let i = kept-apart q k l a.1 in
    by_cases (is_at by_ids k x)
    (λ t.
    let absent : has by_ids k l ≡ false = subst (λ (j : List ℕ). has by_ids j l ≡ false) (same_true (by_ids x) k t) (after-absent by_ids (by_ids x) l a.0) in
    by_cases (q x)
    (λ f. rw (f, t) (i ∙ rw absent (and-false (not (has by_ids k (keep q l))))))
    (λ f. rw (f, t, none_kept q k l absent)))
    (λ t. by_cases (q x) (λ f. rw (f, t) i) (λ f. rw (f, t) i))
  where
    none_kept : (q : Entry → Bool) (k : List ℕ) (l : List Entry) → has by_ids k l ≡ false → has by_ids k (keep q l) ≡ false
    none_kept q k [] h = refl
    none_kept q k (y ∷ l) h =
        by_cases (is_at by_ids k y)
        (λ t. clash {b = true} refl (rw t at h))
        (λ t. by_cases (q y) (λ f. rw (f, t) (none_kept q k l (rw t at h))) (λ f. rw f (none_kept q k l (rw t at h))))

pub has_kept : (q : Entry → Bool) (k : List ℕ) (l : List Entry) → has by_ids k (keep q l) ≡ true → has by_ids k l ≡ true
has_kept q k [] h = h
has_kept q k (x ∷ l) h =
    by_cases (is_at by_ids k x)
    (λ t. rw t)
    (λ t. rw t (by_cases (q x) (λ f. has_kept q k l (rw (f, t) at h)) (λ f. has_kept q k l (rw f at h))))

pub has-released : (k : List ℕ) (l pool : List (List ℕ)) → has itself k (released l pool) ≡ not (has itself k l) && has itself k pool
has-released k [] pool = refl
has-released k (j ∷ l) pool =
    has-released k l (without itself j pool)
    ∙ ap (λ b. not (has itself k l) && b) (has-without itself k j pool)
    ∙ by_cases (same j k)
    (λ e. rw e (by_cases (has itself k l) (λ f. rw f) (λ f. rw f)))
    (λ e. rw e)

pub has-arranged : (k : List ℕ) (l : List (List ℕ)) → has itself k (arranged itself l) ≡ has itself k l
has-arranged k l = any-arranged itself (is_at itself k) l

-- Ids that operations add.

pub ids-append : (P : Id → Bool) (os ps : List Operation) → all_of P (ids_of (os ++ ps)) ≡ all_of P (ids_of os) && all_of P (ids_of ps)
ids-append P [] ps = refl
ids-append P (o ∷ os) ps =
    all-append-of P (ids_by (edits_of o)) (ids_of (os ++ ps))
    ∙ ap (λ b. all_of P (ids_by (edits_of o)) && b) (ids-append P os ps)
    ∙ sym (and_assoc (all_of P (ids_by (edits_of o))) (all_of P (ids_of os)) (all_of P (ids_of ps)))
    ∙ ap (λ b. b && all_of P (ids_of ps)) (sym (all-append-of P (ids_by (edits_of o)) (ids_of os)))
  where
    all-append-of : (P : Id → Bool) (l m : List Id) → all_of P (l ++ m) ≡ all_of P l && all_of P m
    all-append-of P [] m = refl
    all-append-of P (x ∷ l) m = by_cases (P x) (λ e. rw e (all-append-of P l m)) (λ e. rw e)

-- the next ids after a start are not above a state's whose next ids are past all of them
pub raised_below : (s : State) (os : List Operation) (x : NextId) → all_of (below_next s) (ids_of os) ≡ true → x.rowset ≤ s.next_rowset → x.dv ≤ s.next_vector
    → ((raised os x).rowset ≤ s.next_rowset) × ((raised os x).dv ≤ s.next_vector)
raised_below s [] x h a b = (a, b)
raised_below s (create_table t z n ∷ os) x h a b = raised_below s os x (both (ltb t s.next_table) (all_of (below_next s) (ids_of os)) h).1 a b
raised_below s (drop_table t ∷ os) x h a b = raised_below s os x h a b
raised_below s (add_rowset t r ∷ os) x h a b =
    let k = both (ltb r s.next_rowset) (all_of (below_next s) (ids_of os)) h in
    raised_below s os (raise (add_rowset t r) x) k.1 (omega (arith, ltb-true r s.next_rowset k.0, mod-le (r + 1) 4294967296)) b
raised_below s (delete_rowset t r ∷ os) x h a b = raised_below s os x h a b
raised_below s (add_vector t r v ∷ os) x h a b =
    let k = both (ltb v s.next_vector) (all_of (below_next s) (ids_of os)) h in
    raised_below s os (raise (add_vector t r v) x) k.1 a (omega (arith, ltb-true v s.next_vector k.0, mod-le (v + 1) 18446744073709551616))
raised_below s (delete_vector t r v ∷ os) x h a b = raised_below s os x h a b
raised_below s (next_ids t r v ∷ os) x h a b = raised_below s os x h a b

-- What a start writes adds nothing that was not added before.
module _ (P : Id → Bool) where
  abbrev RowsetHas : Rowset → Type 0
  RowsetHas x = P (rowset_id x.rowset) ≡ true

  abbrev DvHas : Dv → Type 0
  DvHas x = P (vector_id x.dv) ≡ true

  without_all : {A : Type 0} (Q : A → Type 0) (q : A → Bool) (l : List A) → All Q l → All Q (keep q l)
  without_all Q q [] h = tt
  without_all Q q (x ∷ l) h = by_cases (q x) (λ e. rw e (h.0, without_all Q q l h.1)) (λ e. rw e (without_all Q q l h.1))

  rowsets-have : (os : List Operation) (l : List Rowset) → all_of P (ids_of os) ≡ true → All RowsetHas l → All RowsetHas (rowsets_to_open os l)
  rowsets-have [] l h a = a
  rowsets-have (create_table t z n ∷ os) l h a = rowsets-have os l (both (P (table_id t)) (all_of P (ids_of os)) h).1 a
  rowsets-have (drop_table t ∷ os) l h a = rowsets-have os l h a
  rowsets-have (add_rowset t r ∷ os) l h a =
      let k = both (P (rowset_id r)) (all_of P (ids_of os)) h in
      rowsets-have os (open_rowset (add_rowset t r) l) k.1 (k.0, without_all RowsetHas (λ y. not (is_at pair_of (t ∷ r ∷ []) y)) l a)
  rowsets-have (delete_rowset t r ∷ os) l h a = rowsets-have os (open_rowset (delete_rowset t r) l) h (without_all RowsetHas (λ y. not (is_at pair_of (t ∷ r ∷ []) y)) l a)
  rowsets-have (add_vector t r v ∷ os) l h a = rowsets-have os l (both (P (vector_id v)) (all_of P (ids_of os)) h).1 a
  rowsets-have (delete_vector t r v ∷ os) l h a = rowsets-have os l h a
  rowsets-have (next_ids t r v ∷ os) l h a = rowsets-have os l h a

  dvs-have : (os : List Operation) (l : List Dv) → all_of P (ids_of os) ≡ true → All DvHas l → All DvHas (dvs_to_open os l)
  dvs-have [] l h a = a
  dvs-have (create_table t z n ∷ os) l h a = dvs-have os l (both (P (table_id t)) (all_of P (ids_of os)) h).1 a
  dvs-have (drop_table t ∷ os) l h a = dvs-have os l h a
  dvs-have (add_rowset t r ∷ os) l h a = dvs-have os l (both (P (rowset_id r)) (all_of P (ids_of os)) h).1 a
  dvs-have (delete_rowset t r ∷ os) l h a = dvs-have os l h a
  dvs-have (add_vector t r v ∷ os) l h a =
      let k = both (P (vector_id v)) (all_of P (ids_of os)) h in
      dvs-have os (open_dv (add_vector t r v) l) k.1 (k.0, without_all DvHas (λ y. not (is_at triple_of (t ∷ r ∷ v ∷ []) y)) l a)
  dvs-have (delete_vector t r v ∷ os) l h a = dvs-have os (open_dv (delete_vector t r v) l) h (without_all DvHas (λ y. not (is_at triple_of (t ∷ r ∷ v ∷ []) y)) l a)
  dvs-have (next_ids t r v ∷ os) l h a = dvs-have os l h a

  tables-have : (os : List Operation) → all_of P (ids_of os) ≡ true → all_of P (ids_of (table_changeset os)) ≡ true
  tables-have [] h = refl
  tables-have (create_table t z n ∷ os) h =
      let k = both (P (table_id t)) (all_of P (ids_of os)) h in
      join k.0 (tables-have os k.1)
  tables-have (drop_table t ∷ os) h = tables-have os h
  tables-have (add_rowset t r ∷ os) h = tables-have os (both (P (rowset_id r)) (all_of P (ids_of os)) h).1
  tables-have (delete_rowset t r ∷ os) h = tables-have os h
  tables-have (add_vector t r v ∷ os) h = tables-have os (both (P (vector_id v)) (all_of P (ids_of os)) h).1
  tables-have (delete_vector t r v ∷ os) h = tables-have os h
  tables-have (next_ids t r v ∷ os) h = tables-have os h

  opened-rowsets : (l : List Rowset) → All RowsetHas l → all_of P (ids_of (map (λ (x : Rowset). add_rowset x.table x.rowset) l)) ≡ true
  opened-rowsets [] h = refl
  opened-rowsets (x ∷ l) h = join h.0 (opened-rowsets l h.1)

  opened-dvs : (l : List Dv) → All DvHas l → all_of P (ids_of (map (λ (x : Dv). add_vector x.table x.rowset x.dv) l)) ≡ true
  opened-dvs [] h = refl
  opened-dvs (x ∷ l) h = join h.0 (opened-dvs l h.1)

  pub written-ids : (ops : List Operation) → all_of P (ids_of ops) ≡ true → all_of P (ids_of (changeset (rowsets_to_open ops []) (dvs_to_open ops []) (table_changeset ops))) ≡ true
  written-ids ops h =
      let rs = map (λ (x : Rowset). add_rowset x.table x.rowset) (rowsets_to_open ops []) in
      let vs = map (λ (x : Dv). add_vector x.table x.rowset x.dv) (dvs_to_open ops []) in
      ids-append P rs (vs ++ table_changeset ops)
      ∙ join (opened-rowsets (rowsets_to_open ops []) (rowsets-have ops [] h tt))
      (ids-append P vs (table_changeset ops) ∙ join (opened-dvs (dvs_to_open ops []) (dvs-have ops [] h tt)) (tables-have ops h))
