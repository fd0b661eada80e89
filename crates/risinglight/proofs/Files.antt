-- Manifests of the Rust's: what a start makes of one, with a frame more, with a part of one, and written anew. Assumes nothing.
use mathlib.Core.Path.{◌≡◌, refl, sym, ap, subst, ◌∙◌}
use mathlib.Core.Bool.{Bool, true, false, not, ◌&&◌, ◌||◌}
use mathlib.Core.List.{List, [], ◌∷◌, ◌++◌, map, append-nil, append_assoc}
use Prim.Native.Nat.{ℕ, zero, suc, ◌≤◌, ◌<◌}
use native.Mathlib.Omega.{arith}
use lib.ListN.{length, take, length-append, length-map}
use lib.Seq.{take-append-le}
use Rattle.lists.specs.Order.{same}
use Rattle.lists.specs.Keyed.{any_of, is_at, has, placed, without, arranged}
use Rattle.lists.proofs.Keyed.{any_of-placed, put-new, has-put}
use Rattle.lists.proofs.Views.{map-take}
use Rattle.manifest.specs.Operations.{Operation, create_table, drop_table, add_rowset, delete_rowset, add_vector, delete_vector, next_ids}
use Rattle.manifest.specs.Edits.{Edit, leaves, adds, deletes, Table, table, edits_of}
use Rattle.plain_record.specs.Sets.{Sets, by_id, itself, edit, apply, apply_all}
use Rattle.plain_record.proofs.Vacuum.{keep-arranged}
use Rattle.risinglight.specs.Maps.{Outcome, fails, ok, and_then}
use Rattle.risinglight.specs.Manifest.{Value, End, entry, frame, Replaying, replaying, next, replay_from, replay}
use Rattle.risinglight.specs.Storage.{apply_table, apply_tables, through, Rowset, rowset, pair_of, open_rowset, rowsets_to_open, Dv, dv, triple_of, open_dv, dvs_to_open}
use Rattle.risinglight.proofs.Maps.{has-without, instead}
use Rattle.risinglight.proofs.Fitting.{TableFinds, TablesFind}

-- The catalog.

pub any-arranged : {A : Type 0} (key : A → List ℕ) (p : A → Bool) (l : List A) → any_of p (arranged key l) ≡ any_of p l
any-arranged key p [] = refl
any-arranged key p (x ∷ l) = any_of-placed key p x (arranged key l) ∙ ap (λ b. p x || b) (any-arranged key p l)

record OneFollows (o : Operation) (l : List Table) (x : List Table) : Type 0 where
  left : List Table
  runs : apply_table o l ≡ ok left
  same : arranged by_id left ≡ edit by_id (edits_of o).tables x

follows-one : (o : Operation) (l x : List Table) → arranged by_id l ≡ x → TableFinds (edits_of o).tables x → OneFollows o l x
follows-one (create_table t h n) l x e f =
    let q : any_of (λ (y : Table). same y.name n) l ≡ false = sym (any-arranged by_id (λ (y : Table). same y.name n) l) ∙ rw e f.1 in
    record {
      left = table t h n ∷ l;
      runs = rw q;
      same = ap (placed by_id (table t h n)) e ∙ sym (put-new by_id (table t h n) x f.0);
    }
follows-one (drop_table t) l x e f =
    let q : has by_id (t ∷ []) l ≡ true = sym (any-arranged by_id (is_at by_id (t ∷ [])) l) ∙ rw e f in
    record {
      left = without by_id (t ∷ []) l;
      runs = rw q;
      same = sym (keep-arranged by_id (λ y. not (is_at by_id (t ∷ []) y)) l) ∙ ap (without by_id (t ∷ [])) e;
    }
follows-one (add_rowset t r) l x e f = record { left = l; runs = refl; same = e }
follows-one (delete_rowset t r) l x e f = record { left = l; runs = refl; same = e }
follows-one (add_vector t r v) l x e f = record { left = l; runs = refl; same = e }
follows-one (delete_vector t r v) l x e f = record { left = l; runs = refl; same = e }
follows-one (next_ids t r v) l x e f = record { left = l; runs = refl; same = e }

pub record Follows (os : List Operation) (l : List Table) (x : Sets) : Type 0 where
  pub left : List Table
  pub runs : apply_tables os l ≡ ok left
  pub same : arranged by_id left ≡ (apply_all os x).tables

pub follows : (os : List Operation) (l : List Table) (x : Sets) → arranged by_id l ≡ x.tables → TablesFind os x.tables → Follows os l x
follows [] l x e f = record { left = l; runs = refl; same = e }
follows (o ∷ os) l x e f =
    let a = follows-one o l x.tables e f.0 in
    let b = follows os a.left (apply o x) a.same f.1 in
    record { left = b.left; runs = rw a.runs b.runs; same = b.same }

pub tables-append : (os ps : List Operation) (l : List Table) → apply_tables (os ++ ps) l ≡ and_then (apply_tables os l) (apply_tables ps)
tables-append [] ps l = refl
tables-append (o ∷ os) ps l = go (apply_table o l) (λ m. tables-append os ps m)
  where
    go : (x : Outcome (List Table)) → ((m : List Table) → apply_tables (os ++ ps) m ≡ and_then (apply_tables os m) (apply_tables ps))
        → and_then x (apply_tables (os ++ ps)) ≡ and_then (and_then x (apply_tables os)) (apply_tables ps)
    go fails ih = refl
    go (ok m) ih = ih m

-- Rowsets and vectors: what is there, by its ids.

pub through-append : {A : Type 0} (f : Operation → A → A) (os ps : List Operation) (x : A) → through f (os ++ ps) x ≡ through f ps (through f os x)
through-append f [] ps x = refl
through-append f (o ∷ os) ps x = through-append f os ps (f o x)

-- the same ids on both sides
abbrev pub Alike : {A : Type 0} → (A → List ℕ) → List (List ℕ) → List A → Type 0
Alike key x l = (k : List ℕ) → has itself k x ≡ has key k l

-- what an edit makes of a list of what is to be opened
abbrev Opens : {A : Type 0} → (A → List ℕ) → Edit (List ℕ) → List A → List A → Type 0
Opens key leaves l m = m ≡ l
Opens {A = A} key (adds k) l m = (x : A) × (key x ≡ k) × (m ≡ x ∷ without key (key x) l)
Opens key (deletes k) l m = m ≡ without key k l

edit-alike : {A : Type 0} (key : A → List ℕ) (d : Edit (List ℕ)) (x : List (List ℕ)) (l m : List A) → Opens key d l m → Alike key x l → Alike key (edit itself d x) m
edit-alike key leaves x l m o e = λ k. e k ∙ sym (ap (has key k) o)
edit-alike key (adds j) x l m o e =
    λ k. has-put itself k j x
    ∙ ap (λ b. same j k || b) (e k)
    ∙ sym (ap (has key k) o.2 ∙ instead key k o.0 l ∙ ap (λ i. same i k || has key k l) o.1)
edit-alike key (deletes j) x l m o e =
    λ k. has-without itself k j x ∙ ap (λ b. not (same j k) && b) (e k) ∙ sym (ap (has key k) o ∙ has-without key k j l)

rowset-opens : (o : Operation) (l : List Rowset) → Opens pair_of (edits_of o).pairs l (open_rowset o l)
rowset-opens (create_table t h n) l = refl
rowset-opens (drop_table t) l = refl
rowset-opens (add_rowset t r) l = (rowset t r, refl, refl)
rowset-opens (delete_rowset t r) l = refl
rowset-opens (add_vector t r v) l = refl
rowset-opens (delete_vector t r v) l = refl
rowset-opens (next_ids t r v) l = refl

dv-opens : (o : Operation) (l : List Dv) → Opens triple_of (edits_of o).vectors l (open_dv o l)
dv-opens (create_table t h n) l = refl
dv-opens (drop_table t) l = refl
dv-opens (add_rowset t r) l = refl
dv-opens (delete_rowset t r) l = refl
dv-opens (add_vector t r v) l = (dv t r v, refl, refl)
dv-opens (delete_vector t r v) l = refl
dv-opens (next_ids t r v) l = refl

pub rowsets-alike : (os : List Operation) (x : Sets) (l : List Rowset) → Alike pair_of x.pairs l → Alike pair_of (apply_all os x).pairs (rowsets_to_open os l)
rowsets-alike [] x l e = e
rowsets-alike (o ∷ os) x l e = rowsets-alike os (apply o x) (open_rowset o l) (edit-alike pair_of (edits_of o).pairs x.pairs l (open_rowset o l) (rowset-opens o l) e)

pub dvs-alike : (os : List Operation) (x : Sets) (l : List Dv) → Alike triple_of x.vectors l → Alike triple_of (apply_all os x).vectors (dvs_to_open os l)
dvs-alike [] x l e = e
dvs-alike (o ∷ os) x l e = dvs-alike os (apply o x) (open_dv o l) (edit-alike triple_of (edits_of o).vectors x.vectors l (open_dv o l) (dv-opens o l) e)

-- What a start makes of operations.
pub record Boots (ops : List Operation) (x : Sets) : Type 0 where
  pub catalog : List Table
  pub runs : apply_tables ops [] ≡ ok catalog
  pub tables : arranged by_id catalog ≡ x.tables
  pub rowsets : Alike pair_of x.pairs (rowsets_to_open ops [])
  pub dvs : Alike triple_of x.vectors (dvs_to_open ops [])

pub boots-more : (ops os : List Operation) (x : Sets) → TablesFind os x.tables → Boots ops x → Boots (ops ++ os) (apply_all os x)
boots-more ops os x f b =
    let c = follows os b.catalog x b.tables f in
    record {
      catalog = c.left;
      runs = tables-append ops os [] ∙ ap (λ o. and_then o (apply_tables os)) b.runs ∙ c.runs;
      tables = c.same;
      rowsets = subst (Alike pair_of (apply_all os x).pairs) (sym (through-append open_rowset ops os [])) (rowsets-alike os x (rowsets_to_open ops []) b.rowsets);
      dvs = subst (Alike triple_of (apply_all os x).vectors) (sym (through-append open_dv ops os [])) (dvs-alike os x (dvs_to_open ops []) b.dvs);
    }

-- Replay.

replay-append : (a b : List Value) (s : Replaying) → replay_from (a ++ b) s ≡ replay_from b (replay_from a s)
replay-append [] b s = refl
replay-append (v ∷ a) b s = replay-append a b (next v s)

entries-buffered : (os ops buffered : List Operation) → replay_from (map entry os) (replaying ops buffered true) ≡ replaying ops (buffered ++ os) true
entries-buffered [] ops buffered = ap (λ l. replaying ops l true) (sym (append-nil buffered))
entries-buffered (o ∷ os) ops buffered = entries-buffered os ops (buffered ++ (o ∷ [])) ∙ ap (λ l. replaying ops l true) (append_assoc buffered (o ∷ []) os)

pub frame-replayed : (os ops : List Operation) → replay_from (frame os) (replaying ops [] false) ≡ replaying (ops ++ os) [] false
frame-replayed os ops =
    replay-append (map entry os) (End ∷ []) (replaying ops [] true)
    ∙ ap (next End) (entries-buffered os ops [])

part-buffered : (os ops : List Operation) (j : ℕ) → j ≤ length os → replay_from (take j (map entry os ++ (End ∷ []))) (replaying ops [] true) ≡ replaying ops (take j os) true
part-buffered os ops j h =
    ap (λ l. replay_from l (replaying ops [] true)) (take-append-le j (map entry os) (End ∷ []) (omega (arith, length-map os entry)) ∙ map-take entry j os)
    ∙ entries-buffered (take j os) ops []

-- a part of a frame leaves the operations before it
pub part-replayed : (os ops : List Operation) (j : ℕ) → j < length (frame os) → (replay_from (take j (frame os)) (replaying ops [] false)).ops ≡ ops
part-replayed os ops zero h = refl
part-replayed os ops (suc j) h =
    ap (λ (s : Replaying). s.ops)
    (part-buffered os ops j (omega (arith, length-append (map entry os) (End ∷ []), length-map os entry)))

-- A manifest whose last frame is whole, and one that a start may find.
pub record Filed (f : List Value) (x : Sets) : Type 0 where
  pub ops : List Operation
  pub read : replay_from f (replaying [] [] false) ≡ replaying ops [] false
  pub boots : Boots ops x

pub filed-more : (f : List Value) (os : List Operation) (x : Sets) → TablesFind os x.tables → Filed f x → Filed (f ++ frame os) (apply_all os x)
filed-more f os x t k =
    record {
      ops = k.ops ++ os;
      read = replay-append f (frame os) (replaying [] [] false) ∙ ap (replay_from (frame os)) k.read ∙ frame-replayed os k.ops;
      boots = boots-more k.ops os x t k.boots;
    }

pub found-whole : (f : List Value) (x : Sets) → Filed f x → Boots (replay f) x
found-whole f x k = subst (λ (o : List Operation). Boots o x) (sym (ap (λ (s : Replaying). s.ops) k.read)) k.boots

-- what is read of it
pub replay-more : (f : List Value) (os : List Operation) (x : Sets) → Filed f x → replay (f ++ frame os) ≡ replay f ++ os
replay-more f os x k =
    ap (λ (s : Replaying). s.ops) (replay-append f (frame os) (replaying [] [] false) ∙ ap (replay_from (frame os)) k.read ∙ frame-replayed os k.ops)
    ∙ sym (ap (λ (s : Replaying). s.ops ++ os) k.read)

pub replay-part : (f : List Value) (os : List Operation) (x : Sets) (j : ℕ) → j < length (frame os) → Filed f x → replay (f ++ take j (frame os)) ≡ replay f
replay-part f os x j h k =
    ap (λ (s : Replaying). s.ops) (replay-append f (take j (frame os)) (replaying [] [] false) ∙ ap (replay_from (take j (frame os))) k.read)
    ∙ part-replayed os k.ops j h
    ∙ sym (ap (λ (s : Replaying). s.ops) k.read)

pub found_part : (f : List Value) (os : List Operation) (x : Sets) (j : ℕ) → j < length (frame os) → Filed f x → Boots (replay (f ++ take j (frame os))) x
found_part f os x j h k = subst (λ (o : List Operation). Boots o x) (sym (replay-part f os x j h k)) (found-whole f x k)
