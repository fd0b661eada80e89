-- How vectors are made of handles by rowset, one run of a rowset after another. Assumes nothing.
use mathlib.Core.Bool.{or_self, or-false}
use Rattle.std.proofs.Common.{◌≡◌, ℕ, suc, ◌+◌, ◌-◌, ◌<◌, ◌≤◌, Bool, true, false, ◌||◌, eqb, List, [], ◌∷◌, ◌++◌, map, length, take, drop, set, drop-drop, drop_of_length-le, length-drop, length-take-le, take-suc, take-suc-set, get_or, sym, refl, ap, subst, ◌∙◌, append-nil, append_assoc, add-one, arith, length-append, eq-eqb, ne_eqb, eqb-true}
use Rattle.std.proofs.lemmas.List.{length-map, drop_at, take_at, get_or_at, get_or-map}
use borrow.Rule.Slice.PartMut.{put_mid}
use lib.Seq.{append_snoc, take-append-add}
use borrow.Author.Tests.{eqb-false}
use Rattle.lists.specs.Order.{less}
use Rattle.lists.specs.Keyed.{keep, has, is_at}
use Rattle.lists.proofs.Tests.{by_cases}
use Rattle.lists.proofs.Keyed.{All, all_any, all_map, all-mapped, keep_append, keep_all, any_of-append}
use Rattle.lists.proofs.Views.{map-append}
use Rattle.delete_vector.specs.Records.{records_of}
use Rattle.delete_vector.specs.Memory.{row_key, is_in, in_memory}
use Rattle.ids.specs.declared.SecondaryRowHandler.{SecondaryRowHandler}
use Rattle.delete_vector.proofs.InMemory.{is-less, lead, count-is}
use Rattle.delete_vector.proofs.Together.{laws-hold}
use Rattle.transaction.specs.declared.vectors.Vectors.{Vectors}
use Rattle.transaction.specs.Groups.{Handle, Vector, handle_of, rows_of, rowsets_of, vector_of, vectors_of, files_in, memories_in}
use Rattle.transaction.specs.Orders.{From, ByRowset}
use Rattle.transaction.specs.Made.{Holds}
use Rattle.transaction.proofs.Outputs.{records-append}

abbrev rows : List Handle → List ℕ
rows hs = map (λ (h : Handle). h.row) hs

abbrev rowsets : List Handle → List ℕ
rowsets hs = map (λ (h : Handle). h.rowset) hs

later : (a b c : Bool) → b ≡ a → b || c ≡ a || c
later a b c e = ap (λ (x : Bool). x || c) e

-- no rowset of handles by rowset is below the first bound
pub from-all : (r : ℕ) (l : List Handle) → From r l → All (λ (h : Handle). r ≤ h.rowset) l
from-all r [] h = tt
from-all r (x ∷ l) h = let a = h.0 in (a, all_map l (λ y b. omega arith) (from-all x.rowset l h.1))

-- A run of handles of the rowset r, and those of larger rowsets.
module _ (r : ℕ) (run t : List Handle) (some : 0 < length run) (here : All (λ (h : Handle). h.rowset ≡ r) run) (there : All (λ (h : Handle). r < h.rowset) t) where
  has-run : (k : List ℕ) (x : Handle) (l : List Handle) → All (λ (h : Handle). h.rowset ≡ r) (x ∷ l) → has row_key k (rowsets (x ∷ l)) ≡ is_at row_key k r
  has-run k x [] h = ap (λ (y : ℕ). is_at row_key k y || false) h.0 ∙ or-false (is_at row_key k r)
  has-run k x (y ∷ l) h =
      ap (λ (b : Bool). is_at row_key k x.rowset || b) (has-run k y l h.1)
      ∙ ap (λ (z : ℕ). is_at row_key k z || is_at row_key k r) h.0
      ∙ or_self (is_at row_key k r)

  has-is : (k : List ℕ) (l : List Handle) → 0 < length l → All (λ (h : Handle). h.rowset ≡ r) l → has row_key k (rowsets l) ≡ is_at row_key k r
  has-is k [] s h = absurd (omega arith)
  has-is k (x ∷ l) s h = has-run k x l h

  pub names-run : in_memory (rowsets (run ++ t)) ≡ r ∷ in_memory (rowsets t)
  names-run =
      lead r (rowsets t) (rowsets (run ++ t))
      (all-mapped (λ y. less (row_key r) (row_key y) ≡ true) (λ (h : Handle). h.rowset) t (all_map t (λ h b. is-less r h.rowset b) there))
      (λ k. ap (has row_key k) (map-append (λ (h : Handle). h.rowset) run t) ∙ any_of-append (is_at row_key k) (rowsets run) (rowsets t) ∙ later (is_at row_key k r) (has row_key k (rowsets run)) (has row_key k (rowsets t)) (has-is k run some here))

  none : (q : ℕ) (l : List Handle) → All (λ (h : Handle). h.rowset ≡ q → ⊥) l → keep (λ (h : Handle). eqb h.rowset q) l ≡ []
  none q [] h = refl
  none q (x ∷ l) h = rw (ne_eqb x.rowset q h.0) (none q l h.1)

  split : (q : ℕ) → rows_of q (run ++ t) ≡ map (λ (h : Handle). h.row) (keep (λ (h : Handle). eqb h.rowset q) run ++ keep (λ (h : Handle). eqb h.rowset q) t)
  split q = ap (map (λ (h : Handle). h.row)) (keep_append (λ (h : Handle). eqb h.rowset q) run t)

  pub rows-run : rows_of r (run ++ t) ≡ map (λ (h : Handle). h.row) run
  rows-run =
      let a : keep (λ (h : Handle). eqb h.rowset r) run ≡ run = keep_all (λ (h : Handle). eqb h.rowset r) run (all_map run (λ h e. eq-eqb h.rowset r e) here) in
      let b = none r t (all_map t (λ h l e. omega arith) there) in
      split r ∙ rw (a, b, append-nil run)

  pub rows-rest : (q : ℕ) → r < q → rows_of q (run ++ t) ≡ rows_of q t
  rows-rest q l =
      let a = none q run (all_map run (λ h e f. omega arith) here) in
      split q ∙ rw a

-- The handles before rest have their vectors: `at` are their rows.
pub record Filling (hs rest : List Handle) (at : ℕ) (v : Vectors) : Type 0 where
  pub made : List Vector
  pub holds : Holds made v
  pub left : made ++ map (vector_of hs) (rowsets_of rest) ≡ vectors_of hs
  pub files : files_in made ++ records_of (rows rest) ≡ records_of (rows hs)
  pub order : From 0 rest
  pub same : All (λ (h : Handle). rows_of h.rowset rest ≡ rows_of h.rowset hs) rest
  pub place : at + length rest ≡ length hs
  pub here : rows rest ≡ drop at (rows hs)
  pub count : v.count ≤ at
  pub kept : v.kept ≤ at

pub fill_start : (hs : List Handle) (v : Vectors) → From 0 hs → v.kept ≡ 0 → Holds [] v → Filling hs hs 0 v
fill_start hs v o z h = let n = h.count in record { made = []; holds = h; left = refl; files = refl; order = o; same = all_any hs (λ h. refl); place = omega arith; here = refl; count = omega arith; kept = omega arith }

pub fill_done : (hs rest : List Handle) (at : ℕ) (v : Vectors) → length rest ≡ 0 → Filling hs rest at v → Holds (vectors_of hs) v × (records_of (rows hs) ≡ files_in (vectors_of hs))
fill_done hs [] at v e w =
    let q : w.made ≡ vectors_of hs = sym (append-nil w.made) ∙ w.left in
    (rw (← q) w.holds, rw (← q) (sym w.files ∙ append-nil (files_in w.made)))
fill_done hs (x ∷ l) at v e w = absurd (omega arith)

from-append : (r : ℕ) (l m : List Handle) → From r (l ++ m) → From 0 m
from-append r [] m h = lower m h
  where
    lower : (m : List Handle) → From r m → From 0 m
    lower [] h = tt
    lower (x ∷ m) h = (omega arith, h.1)
from-append r (x ∷ l) m h = from-append x.rowset l m h.1

all-later : (P : Handle → Type 0) (l m : List Handle) → All P (l ++ m) → All P m
all-later P [] m h = h
all-later P (x ∷ l) m h = all-later P l m h.1

for-run : (hs l : List Handle) (r : ℕ) → rows_of r hs ≡ rows l → vector_of hs r ≡ record { rowset = r; file = records_of (rows l); memory = in_memory (rows l) }
for-run hs l r e = rw e

files-append : (vs : List Vector) (v : Vector) → files_in (vs ++ (v ∷ [])) ≡ files_in vs ++ v.file
files-append [] v = append-nil v.file
files-append (x ∷ vs) v = ap (λ (l : List ℕ). x.file ++ l) (files-append vs v) ∙ sym (append_assoc x.file (files_in vs) v.file)

first-rows : (hs l m : List Handle) (r : ℕ) → 0 < length l → All (λ (h : Handle). h.rowset ≡ r) l → All (λ (h : Handle). rows_of h.rowset (l ++ m) ≡ rows_of h.rowset hs) (l ++ m) → rows_of r (l ++ m) ≡ rows_of r hs
first-rows hs [] m r s h a = absurd (omega arith)
first-rows hs (x ∷ l) m r s h a = sym (ap (λ (q : ℕ). rows_of q (x ∷ (l ++ m))) h.0) ∙ a.0 ∙ ap (λ (q : ℕ). rows_of q hs) h.0

pub fill_more : (hs run t : List Handle) (r at : ℕ) (v v' : Vectors) → 0 < length run → All (λ (h : Handle). h.rowset ≡ r) run → All (λ (h : Handle). r < h.rowset) t
    → v'.kept ≤ v.kept + length run → ((vs : List Vector) → Holds vs v → Holds (vs ++ (record { rowset = r; file = records_of (rows run); memory = in_memory (rows run) } ∷ [])) v')
    → Filling hs (run ++ t) at v → Filling hs t (at + length run) v'
fill_more hs run t r at v v' s a b f g w =
    let x : Vector = record { rowset = r; file = records_of (rows run); memory = in_memory (rows run) } in
    let n = names-run r run t s a b in
    let q : vector_of hs r ≡ x = for-run hs run r (sym (first-rows hs run t r s a w.same) ∙ rows-run r run t s a b) in
    let z = w.place in
    let ln = length-append run t in
    let c = w.count in
    let k = w.kept in
    let m : rows (run ++ t) ≡ rows run ++ rows t = map-append (λ (h : Handle). h.row) run t in
    let lr = length-map run (λ (h : Handle). h.row) in
    let h = g w.made w.holds in
    let hc = h.count in
    let wc = w.holds.count in
    record {
      made = w.made ++ (x ∷ []);
      holds = h;
      left =
          append_snoc w.made x (map (vector_of hs) (rowsets_of t))
          ∙ ap (λ (y : Vector). w.made ++ (y ∷ map (vector_of hs) (rowsets_of t))) (sym q)
          ∙ ap (λ (l : List ℕ). w.made ++ map (vector_of hs) l) (sym n)
          ∙ w.left;
      files =
          ap (λ (l : List ℕ). l ++ records_of (rows t)) (files-append w.made x)
          ∙ append_assoc (files_in w.made) (records_of (rows run)) (records_of (rows t))
          ∙ ap (λ (l : List ℕ). files_in w.made ++ l) (sym (records-append (rows run) (rows t)))
          ∙ ap (λ (l : List ℕ). files_in w.made ++ records_of l) (sym m)
          ∙ w.files;
      order = from-append 0 run t w.order;
      same = rest t b (all-later (λ (h : Handle). rows_of h.rowset (run ++ t) ≡ rows_of h.rowset hs) run t w.same);
      place = omega arith;
      here =
          sym (drop_at (rows run) (rows t) (length run) lr)
          ∙ ap (drop (length run)) (sym m ∙ w.here)
          ∙ drop-drop (length run) at (rows hs);
      count = omega (arith, length-append w.made (x ∷ []));
      kept = omega arith;
    }
  where
    rest : (l : List Handle) → All (λ (h : Handle). r < h.rowset) l → All (λ (h : Handle). rows_of h.rowset (run ++ t) ≡ rows_of h.rowset hs) l → All (λ (h : Handle). rows_of h.rowset t ≡ rows_of h.rowset hs) l
    rest [] p q = tt
    rest (x ∷ l) p q = (sym (rows-rest r run t s a b x.rowset p.0) ∙ q.0, rest l p.1 q.1)

-- One run, as the code cuts it: neighbours in it are of one rowset, and the next one is not.
abbrev handles : List SecondaryRowHandler → List Handle
handles l = map handle_of l

same-run : (x : SecondaryRowHandler) (l t : List SecondaryRowHandler) → ((k : ℕ) (d : SecondaryRowHandler) → suc k < length (x ∷ l) → eqb (get_or (x ∷ (l ++ t)) k d).0.0 (get_or (x ∷ (l ++ t)) (suc k) d).0.0 ≡ true)
    → All (λ (h : Handle). h.rowset ≡ x.0.0) (handles l)
same-run x [] t h = tt
same-run x (y ∷ l) t h = let e = eqb-true x.0.0 y.0.0 (h 0 x (omega arith)) in (sym e, all_map (handles l) (λ z q. q ∙ sym e) (same-run y l t (λ k d b. h (suc k) d (omega arith))))

last-run : (r : ℕ) (x : SecondaryRowHandler) (l m : List SecondaryRowHandler) (d : SecondaryRowHandler) → All (λ (h : Handle). h.rowset ≡ r) (handles (x ∷ l)) → (get_or (x ∷ (l ++ m)) (length l) d).0.0 ≡ r
last-run r x [] m d h = h.0
last-run r x (y ∷ l) m d h = last-run r y l m d h.1

larger : (a : SecondaryRowHandler) (l t : List SecondaryRowHandler) → All (λ (h : Handle). h.rowset ≡ a.0.0) (handles (a ∷ l)) → From 0 (handles ((a ∷ l) ++ t))
    → (length (a ∷ l) < length ((a ∷ l) ++ t) → (d : SecondaryRowHandler) → eqb (get_or ((a ∷ l) ++ t) (length (a ∷ l) - 1) d).0.0 (get_or ((a ∷ l) ++ t) (length (a ∷ l)) d).0.0 ≡ false)
    → All (λ (h : Handle). a.0.0 < h.rowset) (handles t)
larger a l [] s f b = tt
larger a l (z ∷ t) s f b =
    let e : length (a ∷ l) - 1 ≡ length l = omega arith in
    let n : eqb (get_or (a ∷ (l ++ (z ∷ t))) (length l) a).0.0 (get_or ((a ∷ l) ++ (z ∷ t)) (length (a ∷ l)) a).0.0 ≡ false = rw e at (b (omega (arith, length-append l (z ∷ t))) a) in
    let p : a.0.0 ≡ z.0.0 → ⊥ = eqb-false a.0.0 z.0.0 (rw (last-run a.0.0 a l (z ∷ t) a s, get_or_at (a ∷ l) z t a (length (a ∷ l)) refl) at n) in
    let m = map-append handle_of (a ∷ l) (z ∷ t) in
    let g : From 0 (handles (a ∷ l) ++ handles (z ∷ t)) = subst (From 0) m f in
    let q = from-append 0 (handles (a ∷ l)) (handles (z ∷ t)) g in
    let o = all-later (λ (h : Handle). a.0.0 ≤ h.rowset) (handles l) (handles (z ∷ t)) (from-all a.0.0 (handles l ++ handles (z ∷ t)) g.1) in
    let c : a.0.0 < z.0.0 = let i = o.0 in omega arith in
    (c, all_map (handles t) (λ y i. omega arith) (from-all z.0.0 (handles t) q.1))

pub fill-turn : (hs : List Handle) (x t : List SecondaryRowHandler) (at r : ℕ) (sl : List ℕ) (v v' : Vectors) → 0 < length x
    → ((k : ℕ) (d : SecondaryRowHandler) → k + 1 < length x → eqb (get_or (x ++ t) k d).0.0 (get_or (x ++ t) (k + 1) d).0.0 ≡ true)
    → (length x < length (x ++ t) → (d : SecondaryRowHandler) → eqb (get_or (x ++ t) (length x - 1) d).0.0 (get_or (x ++ t) (length x) d).0.0 ≡ false)
    → r ≡ (get_or x 0 (record { 0 = 0 }, record { 0 = 0 })).0.0 → sl ≡ take (length x) (drop at (rows hs))
    → v'.kept ≤ v.kept + length sl → ((vs : List Vector) → Holds vs v → Holds (vs ++ (record { rowset = r; file = records_of sl; memory = in_memory sl } ∷ [])) v')
    → Filling hs (handles (x ++ t)) at v → Filling hs (handles t) (at + length x) v'
fill-turn hs [] t at r sl v v' s j b e q k g w = absurd (omega arith)
fill-turn hs (a ∷ l) t at r sl v v' s j b e q k g w =
    let i : All (λ (h : Handle). h.rowset ≡ a.0.0) (handles (a ∷ l)) = (refl, same-run a l t (λ n d c. rw add-one at (j n d (omega arith)))) in
    let m = map-append handle_of (a ∷ l) t in
    let n = length-map (a ∷ l) handle_of in
    let nr = length-map (handles (a ∷ l)) (λ (h : Handle). h.row) in
    let c : sl ≡ rows (handles (a ∷ l)) =
    q
    ∙ ap (take (length (a ∷ l))) (sym w.here ∙ ap rows m ∙ map-append (λ (h : Handle). h.row) (handles (a ∷ l)) (handles t))
    ∙ take_at (rows (handles (a ∷ l))) (rows (handles t)) (length (a ∷ l)) (nr ∙ n) in
    let o : Filling hs (handles (a ∷ l) ++ handles t) at v = rw m at w in
    let z : Filling hs (handles t) (at + length (handles (a ∷ l))) v' =
    fill_more hs (handles (a ∷ l)) (handles t) a.0.0 at v v' (omega arith) i (larger a l t i w.order b)
    (rw (c, nr) at k) (λ vs y. rw (c, e) at (g vs y)) o in
    rw n at z

-- One vector more in the arrays.
memories-append : (vs : List Vector) (v : Vector) → memories_in (vs ++ (v ∷ [])) ≡ memories_in vs ++ v.memory
memories-append [] v = append-nil v.memory
memories-append (x ∷ vs) v = ap (λ (l : List ℕ). x.memory ++ l) (memories-append vs v) ∙ sym (append_assoc x.memory (memories_in vs) v.memory)

grown : (f : Vector → ℕ) (vs : List Vector) (x : Vector) (l : List ℕ) (n y : ℕ) → n < length l → y ≡ f x → take n l ≡ map f vs → take (n + 1) (set l n y) ≡ map f (vs ++ (x ∷ []))
grown f vs x l n y h e q =
    ap (λ (k : ℕ). take k (set l n y)) (add-one n)
    ∙ take-suc-set l n y h
    ∙ rw (q, e) (sym (map-append f vs (x ∷ [])))

put-after : (k : ℕ) (l out : List ℕ) → put_mid k (length l - k) l out ≡ take k l ++ out
put-after k l out =
    ap (λ (x : List ℕ). take k l ++ (out ++ x)) (drop_of_length-le (drop k l) {i = length l - k} (omega (arith, length-drop k l)))
    ∙ ap (λ (x : List ℕ). take k l ++ x) (append-nil out)

pub holds-more : (vs : List Vector) (v v' : Vectors) (r b n z : ℕ) (l out : List ℕ) → z ≡ length v.held - v.kept → v.count < length v.rowsets → v.count < length v.lengths → v.count < length v.counts → v.kept ≤ length v.held
    → b ≡ length (records_of l) → take n out ≡ in_memory l → n ≤ length out
    → v'.count ≡ v.count + 1 → v'.rowsets ≡ set v.rowsets v.count r → v'.lengths ≡ set v.lengths v.count b → v'.counts ≡ set v.counts v.count n
    → v'.kept ≡ v.kept + n → v'.held ≡ put_mid v.kept z v.held out
    → Holds vs v → Holds (vs ++ (record { rowset = r; file = records_of l; memory = in_memory l } ∷ [])) v'
holds-more vs v v' r b n z l out ez f1 f2 f3 f4 eb em en q0 q1 q2 q3 q4 q5 h =
    let x : Vector = record { rowset = r; file = records_of l; memory = in_memory l } in
    let k : length (take v.kept v.held) ≡ v.kept = length-take-le v.kept v.held f4 in
    record {
      count = q0 ∙ ap (λ (k : ℕ). k + 1) h.count ∙ omega (arith, length-append vs (x ∷ []));
      rowsets = rw (q0, q1) (grown (λ (v : Vector). v.rowset) vs x v.rowsets v.count r f1 refl h.rowsets);
      lengths = rw (q0, q2) (grown (λ (v : Vector). length v.file) vs x v.lengths v.count b f2 eb h.lengths);
      counts = rw (q0, q3) (grown (λ (v : Vector). length v.memory) vs x v.counts v.count n f3 (count-is l out n em en) h.counts);
      memories =
          rw (q4, q5, ez)
          (ap (take (v.kept + n)) (put-after v.kept v.held out)
          ∙ ap (λ (y : ℕ). take (y + n) (take v.kept v.held ++ out)) (sym k)
          ∙ take-append-add (take v.kept v.held) out n
          ∙ rw (em, h.memories) (sym (memories-append vs x)));
    }

-- One row more in the column of rows.
pub row-more : (l : List SecondaryRowHandler) (i x : ℕ) (out : List ℕ) → i < length l → length out ≡ length l → x ≡ (get_or l i (record { 0 = 0 }, record { 0 = 0 })).1.0
    → take i out ≡ take i (rows (handles l)) → take (i + 1) (set out i x) ≡ take (i + 1) (rows (handles l))
row-more l i x out h n e q =
    let d : SecondaryRowHandler = (record { 0 = 0 }, record { 0 = 0 }) in
    let m = length-map (handles l) (λ (h : Handle). h.row) ∙ length-map l handle_of in
    let g : get_or (rows (handles l)) i 0 ≡ (get_or l i d).1.0 = get_or-map (λ (h : Handle). h.row) (handles l) i (handle_of d) 0 (omega (arith, length-map l handle_of)) ∙ ap (λ (h : Handle). h.row) (get_or-map handle_of l i d (handle_of d) h) in
    ap (λ (k : ℕ). take k (set out i x)) (add-one i)
    ∙ take-suc-set out i x (omega arith)
    ∙ rw (q, e, ← g) (sym (take-suc (rows (handles l)) i 0 (omega arith)))
    ∙ ap (λ (k : ℕ). take k (rows (handles l))) (sym (add-one i))

-- Handles by rowset have the same vectors.
names-from : (hs os : List Handle) → ((r : ℕ) → rows_of r os ≡ rows_of r hs) → (k : ℕ) → is_in (rowsets os) k ≡ is_in (rowsets hs) k
names-from hs os h k = sym (some k os) ∙ ap has-some (h k) ∙ some k hs
  where
    has-some : List ℕ → Bool
    has-some [] = false
    has-some (x ∷ l) = true

    some : (k : ℕ) (l : List Handle) → has-some (rows_of k l) ≡ is_in (rowsets l) k
    some k [] = refl
    some k (x ∷ l) = by_cases (eqb x.rowset k) (λ e. rw e) (λ e. rw (e, some k l))

module _ (hs os : List Handle) (b : ByRowset hs os) where
  same-map : (l : List ℕ) → map (vector_of os) l ≡ map (vector_of hs) l
  same-map [] = refl
  same-map (r ∷ l) = rw (b.rows r, same-map l)

  pub same_vectors : vectors_of os ≡ vectors_of hs
  same_vectors = same-map (rowsets_of os) ∙ ap (map (vector_of hs)) (laws-hold.one_form (rowsets os) (rowsets hs) (names-from hs os b.rows))
