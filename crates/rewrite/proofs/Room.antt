-- The most bytes that a line of a rewritten manifest has, and that all of it has. Assumes nothing.
use mathlib.Core.Path.{◌≡◌}
use mathlib.Core.Bool.{true}
use mathlib.Core.List.{List, [], ◌∷◌, ◌++◌, map}
use Prim.Native.Nat.{ℕ, ◌*◌, ◌≤◌}
use native.Mathlib.Nat.{mul-suc}
use native.Mathlib.Omega.{arith}
use lib.ListN.{length, get_or, length-map}
use Rattle.ids.specs.Ids.{largest32, largest64}
use Rattle.ids.specs.Names.{longest_name}
use Rattle.lists.proofs.Keyed.{All, all_of-all}
use Rattle.text.proofs.Names.{name-length}
use Rattle.manifest.specs.Operations.{Operation, create_table, add_rowset, add_vector, next_ids, well_formed}
use Rattle.manifest.proofs.Texts.{create-room, add-room, add-vector-room, next-room, pair-ids, vector-ids, next-values, table-values}
use Rattle.snapshot.specs.Tables.{TableEntry}
use Rattle.frames.specs.Frames.{texts_of}
use Rattle.frames.proofs.Texts.{frame-long, texts-cons}
use Rattle.rewrite.proofs.Lines.{texts-length}
use Rattle.rewrite.specs.Rewritten.{create_of, add_of, add_vector_of, rewrite_of, longest_next, longest_create, longest_add, longest_add_vector}
use Rattle.rewrite.specs.Laws.{RewrittenFits}

-- a line of numbers of their widths, with its newline
module _ (t r : ℕ) (p : t ≤ largest32) (q : r ≤ largest32) where
  pub create-line : (n : List ℕ) → length n ≤ longest_name → length (texts_of (create_table t r n ∷ [])) ≤ longest_create
  create-line n h = omega (arith, create-room t r p q n h, texts-cons (create_table t r n) [])

  pub add-line : length (texts_of (add_rowset t r ∷ [])) ≤ longest_add
  add-line = omega (arith, add-room t r p q, texts-cons (add_rowset t r) [])

  pub vector_line : (v : ℕ) → v ≤ largest64 → length (texts_of (add_vector t r v ∷ [])) ≤ longest_add_vector
  vector_line v h = omega (arith, add-vector-room t r p q v h, texts-cons (add_vector t r v) [])

  pub next-line : (v : ℕ) → v ≤ largest64 → length (texts_of (next_ids t r v ∷ [])) ≤ longest_next
  next-line v h = omega (arith, next-room t r p q v h, texts-cons (next_ids t r v) [])

-- lines of at most k bytes each, with their newlines
texts-most : (k : ℕ) (os : List Operation) → All (λ o. length (texts_of (o ∷ [])) ≤ k) os → length (texts_of os) ≤ k * length os
texts-most k [] a = omega arith
texts-most k (o ∷ os) a = omega (arith, texts-length (o ∷ []) os, texts-most k os a.1, mul-suc k (length os), a.0)

-- the operations of a list's entries, each well formed
all_of : {A : Type 0} (f : A → Operation) (k : ℕ) → ((x : A) → well_formed (f x) ≡ true → length (texts_of (f x ∷ [])) ≤ k) → (l : List A)
    → All (λ o. well_formed o ≡ true) (map f l) → All (λ o. length (texts_of (o ∷ [])) ≤ k) (map f l)
all_of f k h [] a = tt
all_of f k h (x ∷ l) a = (h x a.0, all_of f k h l a.1)

all_left : (os ps : List Operation) → All (λ o. well_formed o ≡ true) (os ++ ps) → All (λ o. well_formed o ≡ true) os
all_left [] ps a = tt
all_left (o ∷ os) ps a = (a.0, all_left os ps a.1)

all_right : (os ps : List Operation) → All (λ o. well_formed o ≡ true) (os ++ ps) → All (λ o. well_formed o ≡ true) ps
all_right [] ps a = a
all_right (o ∷ os) ps a = all_right os ps a.1

create-most : (t : TableEntry) → well_formed (create_of t) ≡ true → length (texts_of (create_of t ∷ [])) ≤ longest_create
create-most t w =
    let v = table-values t.table t.shape t.name w in
    create-line t.table t.shape (omega (arith, v.0)) v.1 t.name (name-length t.name v.2).1

add_most : (k : List ℕ) → well_formed (add_of k) ≡ true → length (texts_of (add_of k ∷ [])) ≤ longest_add
add_most k w =
    let a = get_or k 0 0 in
    let b = get_or k 1 0 in
    let v = pair-ids a b w in
    add-line a b (omega (arith, v.0)) (omega (arith, v.1))

vector-most : (k : List ℕ) → well_formed (add_vector_of k) ≡ true → length (texts_of (add_vector_of k ∷ [])) ≤ longest_add_vector
vector-most k w =
    let a = get_or k 0 0 in
    let b = get_or k 1 0 in
    let c = get_or k 2 0 in
    let v = vector-ids a b c w in
    vector_line a b (omega (arith, v.0)) (omega (arith, v.1)) c (omega (arith, v.2))

pub rewritten-fits : RewrittenFits
rewritten-fits n z ht hp hv w =
    let ts = map create_of z.tables in
    let ps = map add_of z.pairs in
    let vs = map add_vector_of z.vectors in
    let a = all_of-all well_formed (rewrite_of n z) w in
    let nv = next-values n.table n.rowset n.vector a.0 in
    let nr = next-line n.table n.rowset nv.0 nv.1 n.vector nv.2 in
    let t = texts-most longest_create ts (all_of create_of longest_create create-most z.tables (all_left ts ps (all_left (ts ++ ps) vs a.1))) in
    let p = texts-most longest_add ps (all_of add_of longest_add add_most z.pairs (all_right ts ps (all_left (ts ++ ps) vs a.1))) in
    let v = texts-most longest_add_vector vs (all_of add_vector_of longest_add_vector vector-most z.vectors (all_right (ts ++ ps) vs a.1)) in
    let lt = length-map z.tables create_of in
    let lp = length-map z.pairs add_of in
    let lv = length-map z.vectors add_vector_of in
    omega (arith, frame-long (rewrite_of n z), texts-length (next_ids n.table n.rowset n.vector ∷ []) ((ts ++ ps) ++ vs), texts-length (ts ++ ps) vs, texts-length ts ps)
