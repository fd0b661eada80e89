-- What a replay keeps of its state, operation by operation. Assumes nothing.
use mathlib.Core.Path.{◌≡◌, refl, ◌∙◌}
use mathlib.Core.Bool.{Bool, true, false}
use mathlib.Core.List.{List, [], ◌∷◌}
use Prim.Native.Nat.{ℕ, ◌<◌, ◌≤◌}
use native.Mathlib.Omega.{arith}
use lib.ListN.{get_or}
use Rattle.lists.specs.Order.{less, same}
use Rattle.lists.specs.Keyed.{keep, has, put}
use Rattle.lists.proofs.Tests.{by_cases, neither}
use Rattle.lists.proofs.Order.{same-sym}
use Rattle.lists.proofs.Keyed.{All, all_map, all-put, all_keep, any_of-none}
use Rattle.ids.specs.Ids.{largest32, largest64, Next}
use Rattle.text.specs.Name.{is_name}
use Rattle.manifest.specs.Operations.{Operation, create_table, drop_table, add_rowset, delete_rowset, add_vector, delete_vector, next_ids, well_formed}
use Rattle.manifest.specs.Edits.{Edit, leaves, adds, deletes, Table, edits_of}
use Rattle.manifest.proofs.Texts.{pair-ids, vector-ids, next-values, table-values}
use Rattle.snapshot.specs.Entries.{Entry}
use Rattle.snapshot.specs.Tables.{TableEntry, by_table, name_taken}
use Rattle.version_state.specs.State.{State}
use Rattle.version_state.proofs.Facts.{Ordered}
use Rattle.version_state.specs.Sets.{next_of}
use Rattle.operations.specs.Effect.{edited, marked, as_entry, raised, applied}
use Rattle.operations.proofs.Edits.{Adds, adds-both, all-edited, all-marked, rises, passed, well-table}
use Rattle.operations.proofs.Keeps.{ordered-applied}
use Rattle.replay.specs.Replay.{reopened, clashes, conflicts}

-- each entry to each later one
module _ {A : Type 0} (R : A → A → Type 0) where
  abbrev pub Pairwise : List A → Type 0
  Pairwise [] = Unit {0}
  Pairwise (x ∷ l) = All (R x) l × Pairwise l

  pub pairwise-keep : (q : A → Bool) (l : List A) → Pairwise l → Pairwise (keep q l)
  pairwise-keep q [] h = tt
  pairwise-keep q (x ∷ l) h =
      by_cases (q x)
      (λ e. rw e (all_keep (R x) q l h.0, pairwise-keep q l h.1))
      (λ e. rw e (pairwise-keep q l h.1))

-- two tables of different names
abbrev pub Other : TableEntry → TableEntry → Type 0
Other x y = same x.name y.name ≡ false

names-put : (x : TableEntry) (l : List TableEntry) → name_taken x.name l ≡ false → Pairwise Other l → Pairwise Other (put by_table x l)
names-put x [] n h = (tt, tt)
names-put x (y ∷ l) n h =
    let d = neither (same y.name x.name) (name_taken x.name l) n in
    let a : All (Other x) (y ∷ l) = all_map (y ∷ l) (λ z t. same-sym x.name z.name ∙ t) (any_of-none (λ z. same z.name x.name) (y ∷ l) n) in
    by_cases (less (by_table y) (by_table x))
    (λ e. rw e (all-put by_table (Other y) x l d.0 h.0, names-put x l d.1 h.1))
    (λ e. by_cases (same (by_table y) (by_table x))
    (λ f. rw (e, f) (a.1, h.1))
    (λ f. rw (e, f) (a, h)))

-- a table that a `T` made, its id below n
pub record Made (n : ℕ) (x : TableEntry) : Type 0 where
  pub below : x.table < n
  pub shape : x.shape ≤ largest32
  pub name : is_name x.name ≡ true
  pub free : x.locked ≡ false

-- the ids of a pair, and of a vector
abbrev pub two : List ℕ → List ℕ
two k = get_or k 0 0 ∷ get_or k 1 0 ∷ []

abbrev pub three : List ℕ → List ℕ
three k = get_or k 0 0 ∷ get_or k 1 0 ∷ get_or k 2 0 ∷ []

-- an entry that an `A` or `V` made, with the id at place i below n
pub record Added (f : List ℕ → List ℕ) (i n : ℕ) (x : Entry) : Type 0 where
  pub ids : x.ids ≡ f x.ids
  pub below : get_or x.ids i 0 < n
  pub added : x.added ≡ reopened

made_more : (n m : ℕ) (l : List TableEntry) → n ≤ m → All (Made n) l → All (Made m) l
made_more n m l h a = all_map l (λ x w. record { below = omega (arith, w.below); shape = w.shape; name = w.name; free = w.free }) a

added_more : (f : List ℕ → List ℕ) (i n m : ℕ) (l : List Entry) → n ≤ m → All (Added f i n) l → All (Added f i m) l
added_more f i n m l h a = all_map l (λ x w. record { ids = w.ids; below = omega (arith, w.below); added = w.added }) a

added-marked : (f : List ℕ → List ℕ) (i n m : ℕ) (d : Edit (List ℕ)) (l : List Entry) → n ≤ m → Adds (λ k. k ≡ f k) d → Adds (λ k. get_or k i 0 < m) d
    → All (Added f i n) l → All (Added f i m) (marked reopened d l)
added-marked f i n m d l up form new a =
    all-marked reopened (Added f i m) d l
    (adds-both d (λ k q b. record { ids = q; below = b; added = refl }) form new)
    (λ x w. record { ids = w.ids; below = w.below; added = w.added })
    (added_more f i n m l up a)

pub record Kept (s : State) : Type 0 where
  pub epoch : s.epoch ≡ reopened
  pub manifest : s.manifest ≡ 0
  pub next_table : s.next_table ≤ largest32
  pub next_rowset : s.next_rowset ≤ largest32
  pub next_vector : s.next_vector ≤ largest64
  pub ordered : Ordered s
  pub tables : All (Made s.next_table) s.tables
  pub names : Pairwise Other s.tables
  pub pairs : All (Added two 1 s.next_rowset) s.pairs
  pub vectors : All (Added three 2 s.next_vector) s.vectors

-- the next ids within their widths
record Small (x : Next) : Type 0 where
  table : x.table ≤ largest32
  rowset : x.rowset ≤ largest32
  vector : x.vector ≤ largest64

-- what a well-formed operation brings: keys of two and of three ids, and next ids within their widths
record Brings (o : Operation) (x : Next) : Type 0 where
  pairs : Adds (λ k. k ≡ two k) (edits_of o).pairs
  vectors : Adds (λ k. k ≡ three k) (edits_of o).vectors
  next : Small (raised (edits_of o) x)

brings : (o : Operation) (x : Next) → well_formed o ≡ true → Small x → Brings o x
brings (create_table t h n) x w a =
    let v = table-values t h n w in
    let old = a.table in
    record { pairs = tt; vectors = tt; next = record { table = omega arith; rowset = a.rowset; vector = a.vector } }
brings (drop_table t) x w a = record { pairs = tt; vectors = tt; next = a }
brings (add_rowset t r) x w a =
    let v = pair-ids t r w in
    let old = a.rowset in
    record { pairs = refl; vectors = tt; next = record { table = a.table; rowset = omega arith; vector = a.vector } }
brings (delete_rowset t r) x w a = record { pairs = tt; vectors = tt; next = a }
brings (add_vector t r v) x w a =
    let i = vector-ids t r v w in
    let old = a.vector in
    record { pairs = tt; vectors = refl; next = record { table = a.table; rowset = a.rowset; vector = omega arith } }
brings (delete_vector t r v) x w a = record { pairs = tt; vectors = tt; next = a }
brings (next_ids t r v) x w a =
    let i = next-values t r v w in
    let old_table = a.table in
    let old_rowset = a.rowset in
    let old_vector = a.vector in
    record { pairs = tt; vectors = tt; next = record { table = omega arith; rowset = omega arith; vector = omega arith } }

names-edited : (d : Edit Table) (l : List TableEntry) → clashes d l ≡ false → Pairwise Other l → Pairwise Other (edited by_table as_entry d l)
names-edited leaves l c h = h
names-edited (adds t) l c h = names-put (as_entry t) l (neither (has by_table (t.id ∷ []) l) (name_taken t.name l) c).1 h
names-edited (deletes k) l c h = pairwise-keep Other _ l h

pub kept-applied : (o : Operation) (s : State) → Kept s → well_formed o ≡ true → conflicts o s ≡ false → Kept (applied reopened o s)
kept-applied o s k w c =
    let d = edits_of o in
    let x = next_of s in
    let y = raised d x in
    let up = rises d x in
    let new = passed d x in
    let b = brings o x w (record { table = k.next_table; rowset = k.next_rowset; vector = k.next_vector }) in
    record {
      epoch = k.epoch;
      manifest = k.manifest;
      next_table = b.next.table;
      next_rowset = b.next.rowset;
      next_vector = b.next.vector;
      ordered = ordered-applied reopened o s k.ordered;
      tables =
          all-edited by_table as_entry (Made y.table) d.tables s.tables
          (adds-both d.tables (λ t p q. record { below = p; shape = q.0; name = q.1; free = refl }) new.tables (well-table o w))
          (made_more s.next_table y.table s.tables up.table k.tables);
      names = names-edited d.tables s.tables c k.names;
      pairs = added-marked two 1 s.next_rowset y.rowset d.pairs s.pairs up.rowset b.pairs new.pairs k.pairs;
      vectors = added-marked three 2 s.next_vector y.vector d.vectors s.vectors up.vector b.vectors new.vectors k.vectors;
    }
