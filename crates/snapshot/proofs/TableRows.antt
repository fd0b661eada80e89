-- Tables in columns: what one column says of them, names in a column of bytes, and what a change of each column does. Assumes nothing.
use mathlib.Core.Path.{◌≡◌, refl, sym, ap, ◌∙◌}
use mathlib.Core.Bool.{Bool, true, false, cond, ◌||◌, and-true}
use mathlib.Core.List.{List, [], ◌∷◌, ◌++◌, map, append_assoc}
use Prim.Native.Nat.{ℕ, suc, ◌+◌, ◌*◌, ◌-◌, ◌≤◌, ◌<◌}
use native.Mathlib.Omega.{arith}
use lib.Dec.{leb, ltb, eqb}
use lib.ListN.{length, get_or, take, drop, set, length-append, length-drop, length-set, get_or-append}
use lib.Seq.{drop-drop, take_all, take-suc-set, drop_at, take-append-le, get_or-append-add, get_or-take, get_or-drop, get_or-set_same, get_or-set_other, length-take-le, ext_get_or}
use borrow.Rule.Slice.PartMut.{put_mid}
use borrow.Author.Tests.{leb-true, le-leb, le-ltb}
use Rattle.ids.specs.Limits.{most_tables}
use Rattle.ids.specs.Names.{longest_name, name_in, name_of}
use Rattle.ids.specs.declared.name.Name.{Name}
use Rattle.ids.proofs.Names.{name-room}
use Rattle.lists.specs.Order.{less, same}
use Rattle.lists.specs.Keyed.{all_of, any_of, has, is_at, changed}
use Rattle.lists.specs.Written.{written}
use Rattle.lists.proofs.Tests.{by_cases, tri}
use Rattle.lists.proofs.Order.{lex-lt, lex-last}
use Rattle.lists.proofs.Keyed.{any_of-map}
use Rattle.lists.proofs.Written.{written-length}
use Rattle.columns.specs.Rows.{rows, column, marks, across}
use Rattle.columns.proofs.Rows.{rows-length, rows_same, rows-map, rows-change}
use Rattle.snapshot.specs.Tables.{TableEntry, by_table, with_lock, length_in, name_at, table_at, table_rows, name_bytes}
use Rattle.snapshot.specs.declared.tables.Tables.{Tables}
use Rattle.snapshot.specs.Views.{tables_of}
use Rattle.snapshot.proofs.Entries.{all-rows}
use Rattle.snapshot.proofs.Packed.{rows-front}

-- What one column says of the tables, whatever the others are.
module _ (ids shapes lengths names : List ℕ) (locked : List Bool) (n : ℕ) where
  abbrev all : List TableEntry
  all = table_rows ids shapes lengths names locked n

  keys : map by_table all ≡ rows (across (ids ∷ [])) n
  keys = rows-map (table_at ids shapes lengths names locked) by_table n

  pub table-ids : (t : ℕ) → has by_table (t ∷ []) all ≡ any_of (λ x. eqb x t) (rows (column ids) n)
  table-ids t =
      one-id all ∙ sym (any_of-map (λ t. t.table) (λ x. eqb x t) all) ∙ ap (any_of (λ x. eqb x t)) (rows-map (table_at ids shapes lengths names locked) (λ t. t.table) n)
    where
      one-id : (l : List TableEntry) → has by_table (t ∷ []) l ≡ any_of (λ x. eqb x.table t) l
      one-id [] = refl
      one-id (x ∷ l) = rw (and-true (eqb x.table t)) (ap (λ (b : Bool). eqb x.table t || b) (one-id l))

  pub below-tables : (m : ℕ) → all_of (λ t. ltb t.table m) all ≡ all_of (λ x. ltb x m) (rows (column ids) n)
  below-tables m = all-rows (table_at ids shapes lengths names locked) n (λ t. t.table) (λ x. ltb x m)

-- rows of one number
pub one-before : (x y : ℕ) → x < y → less (x ∷ []) (y ∷ []) ≡ true
one-before x y h = lex-lt x y false h

pub one-not-before : (x y : ℕ) → y ≤ x → less (x ∷ []) (y ∷ []) ≡ false
one-not-before x y h = lex-last x y ∙ le-ltb x y h

-- Names in a column of bytes.
pub name-take : (m : ℕ) (l : List ℕ) → name_in m l ≡ take (length_in m) l
name-take m l = by_cases (leb m longest_name) (λ e. rw e) (λ e. rw e)

pub length-in : (m : ℕ) → length_in m ≤ longest_name
length-in m = by_cases (leb m longest_name) (λ e. rw e (leb-true m longest_name e)) (λ e. rw e (omega arith))

-- a length r that a column says
pub length-short : (r m : ℕ) → r ≡ m → r ≤ longest_name → r ≡ length_in m
length-short r m e h = rw (le-leb m longest_name (omega arith)) e

-- the bytes of a name that is passed
pub name-bytes : (x : Name) (n : ℕ) → n ≡ length (name_of x) → length x.bytes ≡ longest_name → take n x.bytes ≡ name_of x
unfolding name_of
name-bytes x n e f =
    let t = name-take x.len x.bytes in
    let z = length-in x.len in
    let w : length (take (length_in x.len) x.bytes) ≡ length_in x.len = length-take-le (length_in x.len) x.bytes (omega arith) in
    ap (λ (k : ℕ). take k x.bytes) (e ∙ ap length t ∙ w) ∙ sym t

module _ (names : List ℕ) (i : ℕ) (h : i < most_tables) (f : length names ≡ name_bytes) where
  -- there is room for a name at each place
  pub place-length : (m : ℕ) → m ≤ longest_name → length (take m (drop (longest_name * i) names)) ≡ m
  place-length m q =
      let z = length-drop (longest_name * i) names in
      length-take-le m (drop (longest_name * i) names) (omega arith)

-- the part of the bytes that is the name at i
pub name-part : (lengths names : List ℕ) (i r : ℕ) → r ≡ length_in (column lengths i) → take (longest_name * i + r - longest_name * i) (drop (longest_name * i) names) ≡ name_at lengths names i
name-part lengths names i r e =
    let z : longest_name * i + r - longest_name * i ≡ r = omega arith in
    ap (λ (k : ℕ). take k (drop (longest_name * i) names)) (z ∙ e) ∙ sym (name-take (column lengths i) (drop (longest_name * i) names))

-- A run written into a list: what stands before it, after it and in its place.
module _ (s run : List ℕ) (at : ℕ) (h : at + length run ≤ length s) where
  pub written-before : (j : ℕ) → j < at → get_or (written s at run) j 0 ≡ get_or s j 0
  unfolding written
  written-before j q =
      let z = length-take-le at s (omega arith) in
      get_or-append (take at s) (run ++ drop (at + length run) s) 0 j (omega arith) ∙ get_or-take at s j 0 q

  pub written_after : (j : ℕ) → at + length run ≤ j → get_or (written s at run) j 0 ≡ get_or s j 0
  unfolding written
  written_after j q =
      let z : length (take at s ++ run) ≡ at + length run = length-append (take at s) run ∙ rw (length-take-le at s (omega arith)) in
      let e : length (take at s ++ run) + (j - (at + length run)) ≡ j = omega arith in
      let g : at + length run + (j - (at + length run)) ≡ j = omega arith in
      ap (λ (l : List ℕ). get_or l j 0) (sym (append_assoc (take at s) run (drop (at + length run) s)))
      ∙ ap (λ (k : ℕ). get_or ((take at s ++ run) ++ drop (at + length run) s) k 0) (sym e)
      ∙ get_or-append-add (take at s ++ run) (drop (at + length run) s) (j - (at + length run)) 0
      ∙ get_or-drop (at + length run) s (j - (at + length run)) 0
      ∙ ap (λ (k : ℕ). get_or s k 0) g

  pub written-here : (m : ℕ) → m ≤ length run → take m (drop at (written s at run)) ≡ take m run
  unfolding written
  written-here m q =
      let z = length-take-le at s (omega arith) in
      ap (take m) (drop_at (take at s) (run ++ drop (at + length run) s) at z) ∙ take-append-le m run (drop (at + length run) s) q

-- what is left of a list where a part of it was stored anew
pub put-run : (t w out : List ℕ) (at k : ℕ) → out ≡ w → k ≡ length w → put_mid at k t out ≡ written t at w
unfolding written
put-run t w out at k e f = rw (e, f, drop-drop (length w) at t)

-- A name written at a place: the names at others stand as they stood.
module _ (names run : List ℕ) (at : ℕ) (h : at < most_tables) (f : length names ≡ name_bytes) (r : length run ≤ longest_name) where
  pub write-length : length (written names (longest_name * at) run) ≡ name_bytes
  write-length = written-length names (longest_name * at) run (omega arith) ∙ f

  pub write-other : (lengths : List ℕ) (i : ℕ) → i < most_tables → (i ≡ at → ⊥) → name_at lengths (written names (longest_name * at) run) i ≡ name_at lengths names i
  write-other lengths i q ne =
      let m = length_in (column lengths i) in
      let w = written names (longest_name * at) run in
      let lm = length-in (column lengths i) in
      let lw = place-length w i q write-length m lm in
      let ln = place-length names i q f m lm in
      name-take (column lengths i) (drop (longest_name * i) w)
      ∙ ext_get_or 0 (take m (drop (longest_name * i) w)) (take m (drop (longest_name * i) names)) (lw ∙ sym ln) (λ j p.
      get_or-take m (drop (longest_name * i) w) j 0 (omega arith)
      ∙ get_or-drop (longest_name * i) w j 0
      ∙ tri i at
      (λ o. written-before names run (longest_name * at) (omega arith) (longest_name * i + j) (omega arith))
      (λ o. absurd (ne o))
      (λ o. written_after names run (longest_name * at) (omega arith) (longest_name * i + j) (omega arith))
      ∙ sym (get_or-take m (drop (longest_name * i) names) j 0 (omega arith) ∙ get_or-drop (longest_name * i) names j 0))
      ∙ sym (name-take (column lengths i) (drop (longest_name * i) names))

-- a row after the others, said of the rows with room for it
pub rows-last : {A : Type 0} (f : ℕ → A) (n : ℕ) (x : A) → set (rows f (n + 1)) n x ≡ rows f n ++ (x ∷ [])
rows-last {A} f n x =
    let z = rows-length f (n + 1) in
    let y = length-set (rows f (n + 1)) n x in
    sym (take_all (suc n) (set (rows f (n + 1)) n x) (omega arith))
    ∙ take-suc-set (rows f (n + 1)) n x (omega arith)
    ∙ ap (λ (l : List A). l ++ (x ∷ [])) (sym (rows-front f (n + 1) n (omega arith)))

-- A table put at a place, in all columns.
module _ (ids shapes lengths names : List ℕ) (locked : List Bool) (a : length ids ≡ most_tables) (b : length shapes ≡ most_tables) (c : length lengths ≡ most_tables) (d : length names ≡ name_bytes) (e : length locked ≡ most_tables) where
  pub put-table : (n at t s l : ℕ) (x : Name) (k : Bool) (m : List ℕ) → at < n → n ≤ most_tables → l ≡ length (name_of x) → length x.bytes ≡ longest_name → m ≡ written names (longest_name * at) x.bytes
      → rows (table_at (set ids at t) (set shapes at s) (set lengths at l) m (set locked at k)) n ≡ set (rows (table_at ids shapes lengths names locked) n) at (record { table = t; shape = s; name = name_of x; locked = k })
  put-table n at t s l x k m h w o f q =
      let r = name-room x in
      let z : length_in l ≡ l = sym (length-short l l refl (omega arith)) in
      rows-change (table_at ids shapes lengths names locked) (table_at (set ids at t) (set shapes at s) (set lengths at l) m (set locked at k)) n at (record { table = t; shape = s; name = name_of x; locked = k }) h
      (λ i v ne.
      rw (q, get_or-set_other ids at i t 0 ne, get_or-set_other shapes at i s 0 ne, get_or-set_other lengths at i l 0 ne, get_or-set_other locked at i k false ne)
      (ap (λ (y : List ℕ). record { table = column ids i; shape = column shapes i; name = y; locked = marks locked i }) (write-other names x.bytes at (omega arith) d (omega arith) lengths i (omega arith) ne)))
      (rw (q, get_or-set_same ids at t 0 (omega arith), get_or-set_same shapes at s 0 (omega arith), get_or-set_same lengths at l 0 (omega arith), get_or-set_same locked at k false (omega arith))
      (ap (λ (y : List ℕ). record { table = t; shape = s; name = y; locked = k })
      (name-take l (drop (longest_name * at) (written names (longest_name * at) x.bytes))
      ∙ written-here names x.bytes (longest_name * at) (omega arith) (length_in l) (omega arith)
      ∙ ap (λ (j : ℕ). take j x.bytes) z
      ∙ name-bytes x l o f)))

-- Locks of the tables of an id made held or free: those before i are.
pub record Locking (t : ℕ) (b : Bool) (s : Tables) (i : ℕ) (r : Tables) : Type 0 where
  pub rest : r ≡ record s { locked = r.locked }
  pub full : length r.locked ≡ most_tables
  pub behind : (j : ℕ) → j < i → marks r.locked j ≡ cond (same (column s.ids j ∷ []) (t ∷ [])) b (marks s.locked j)
  pub ahead : (j : ℕ) → i ≤ j → marks r.locked j ≡ marks s.locked j

module _ (t : ℕ) (b : Bool) (s : Tables) where
  pub lock_done : (i : ℕ) (r : Tables) → s.count ≤ i → Locking t b s i r → (tables_of r ≡ changed by_table (t ∷ []) (with_lock b) (tables_of s)) × (r.count ≡ s.count)
  lock_done i r h l =
      let f = table_at s.ids s.shapes s.lengths s.names s.locked in
      let g = table_at s.ids s.shapes s.lengths s.names r.locked in (
        ap tables_of l.rest
            ∙ rows_same g (λ j. cond (is_at by_table (t ∷ []) (f j)) (with_lock b (f j)) (f j)) s.count (λ j q. by_cases (same (column s.ids j ∷ []) (t ∷ []))
            (λ e. rw (l.behind j (omega arith), e))
            (λ e. rw (l.behind j (omega arith), e)))
            ∙ sym (rows-map f (λ y. cond (is_at by_table (t ∷ []) y) (with_lock b y) y) s.count),
        ap (λ (x : Tables). x.count) l.rest,
      )
