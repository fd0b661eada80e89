-- The Rust's selection for a compaction beside the port's. Assumes nothing.
use mathlib.Core.Path.{◌≡◌, refl, sym, ap, ◌∙◌}
use mathlib.Core.Bool.{true, false, cond, not, ◌&&◌}
use mathlib.Core.List.{List, [], ◌∷◌, map}
use Prim.Native.Nat.{ℕ, ◌+◌, ◌≤◌}
use native.Mathlib.Omega.{arith}
use lib.Dec.{eqb, leb, ltb}
use lib.ListN.{length, get_or, length-map}
use borrow.Author.Tests.{leb-true, leb-false, le-leb, lt-leb, le-ltb, ltb-false}
use Rattle.lists.specs.Order.{less, same}
use Rattle.lists.specs.Keyed.{keep, has, placed, arranged, ascending}
use Rattle.lists.proofs.Tests.{by_cases, clash, past, neither}
use Rattle.lists.proofs.Keyed.{All, all_any, all_keep, all-mapped, Ascending, Sorted, ascend-to, ascending-sorted, placed_first, length-arranged}
use Rattle.ids.specs.Ids.{largest64}
use Rattle.columns.specs.Rows.{rows}
use Rattle.columns.proofs.Rows.{rows_all}
use Rattle.delete_vector.specs.Memory.{is_in, in_memory}
use Rattle.delete_vector.proofs.InMemory.{memory-of}
use Rattle.delete_vector.proofs.Together.{laws-hold}
use Rattle.snapshot.specs.Entries.{Entry, shown_by, entry_at, gone_at, shown_at}
use Rattle.vacuum.proofs.Arranged.{arranged-map}
use Rattle.version_state.specs.declared.VersionManagerInner.{VersionManagerInner}
use Rattle.version_state.specs.State.{State, start, state_of, pairs_at}
use Rattle.version_state.specs.Sound.{bad_inner}
use Rattle.compactor.specs.Selection.{Sized, taken_on, taken, sized, rowsets_now, taken_now, any_over, compacted, selected}
use Rattle.compactor.specs.Laws.{total}
use Rattle.compactor.specs.Laws as compactor
use Rattle.compactor.proofs.Rising.{rowsets-rise, selected-rises}
use Rattle.plain_record.specs.Sets.{itself}
use Rattle.risinglight.specs.Maps.{contains}
use Rattle.risinglight.specs.Snapshot.{Snapshot, has_rowset}
use Rattle.risinglight.specs.Numbers.{wrapping}
use Rattle.risinglight.specs.Compactor.{get_rowsets_of, sized_rowset_id, by_rowset, selecting, select}
use Rattle.risinglight.specs.Selections.{selected_of, lone_rowset, selection_order, wraps_on, selection_wraps, SelectionLaws}

pub is_in-contains : (l : List ℕ) (x : ℕ) → is_in l x ≡ contains x l
is_in-contains [] x = refl
is_in-contains (y ∷ l) x = by_cases (eqb y x) (λ e. rw e) (λ e. rw e (is_in-contains l x))

-- where no sum wraps, the loop takes what the port takes
selecting-on : (target n : ℕ) (l : List Sized) → wraps_on target n l ≡ false → selecting target n l ≡ taken_on target n l
selecting-on target n [] h = refl
selecting-on target n (x ∷ l) h =
    let d = neither (ltb largest64 (n + x.size)) (wraps_on target (cond (leb (n + x.size) target) (n + x.size) n) l) h in
    let q = ltb-false largest64 (n + x.size) d.0 in
    let a : wrapping (x.size + n) ≡ n + x.size = omega arith in
    let b : wrapping (n + x.size) ≡ n + x.size = omega arith in
    by_cases (leb (n + x.size) target)
    (λ e. rw (a, b, e) (ap (λ k. x ∷ k) (selecting-on target (n + x.size) l (rw e at d.1))))
    (λ e. rw (a, e) (selecting-on target n l (rw e at d.1)))

-- what is sorted stays
pub arranged-sorted : {A : Type 0} (key : A → List ℕ) (l : List A) → Sorted key l → arranged key l ≡ l
arranged-sorted key [] s = refl
arranged-sorted key (x ∷ l) s = ap (placed key x) (arranged-sorted key l s.1) ∙ placed_first key x l s.0

arranged-ids : (l : List Sized) → map sized_rowset_id (arranged by_rowset l) ≡ arranged compactor.by_rowset (map sized_rowset_id l)
arranged-ids l = arranged-map sized_rowset_id by_rowset compactor.by_rowset (λ x. Unit {0}) (λ x y p q. refl) l (all_any l (λ x. tt))

-- of one or none nothing is selected where no vector lies over it
module _ (t : ℕ) (rs : List ℕ) (s : State) where
  few-compacted : any_over t rs s ≡ false → leb (length rs) 1 ≡ true → compacted t rs s ≡ []
  few-compacted o e = rw (o, lt-leb 2 (length rs) (let h = leb-true (length rs) 1 e in omega arith))

  more-compacted : leb (length rs) 1 ≡ false → compacted t rs s ≡ rs
  more-compacted e = rw (le-leb 2 (length rs) (let h = leb-false (length rs) 1 e in omega arith))

-- where no sum wraps, how many are enough and the sort are what is left to compare
module _ (target : ℕ) (l : List Sized) (w : selection_wraps target l ≡ false) where
  abbrev chosen : List Sized
  chosen = taken target l

  abbrev chosen_ids : List ℕ
  chosen_ids = map sized_rowset_id chosen

  table_taken : select target l ≡ cond (leb (length chosen) 1) [] (map sized_rowset_id (arranged by_rowset chosen))
  table_taken = ap (λ (k : List Sized). cond (leb (length k) 1) [] (map sized_rowset_id (arranged by_rowset k))) (selecting-on target 0 l w)

  table_same : (t : ℕ) (s : State) → lone_rowset t chosen_ids s ≡ false → (leb (length chosen) 1 ≡ false → map sized_rowset_id (arranged by_rowset chosen) ≡ chosen_ids)
      → select target l ≡ compacted t chosen_ids s
  table_same t s o h =
      let n : leb (length chosen_ids) 1 ≡ leb (length chosen) 1 = rw (length-map chosen sized_rowset_id) in
      table_taken
      ∙ by_cases (leb (length chosen) 1)
      (λ e. rw e (sym (few-compacted t chosen_ids s (past (leb (length chosen_ids) 1) (any_over t chosen_ids s) o (n ∙ e)) (n ∙ e))))
      (λ e. rw e (h e ∙ sym (more-compacted t chosen_ids s (n ∙ e))))

taken-all : (P : Sized → Type 0) (target n : ℕ) (l : List Sized) → All P l → All P (taken_on target n l)
taken-all P target n [] h = tt
taken-all P target n (x ∷ l) h =
    by_cases (leb (n + x.size) target)
    (λ e. rw e (h.0, taken-all P target (n + x.size) l h.1))
    (λ e. rw e (taken-all P target n l h.1))

taken-rises : (target n : ℕ) (l : List Sized) → Ascending by_rowset l → Ascending by_rowset (taken_on target n l)
taken-rises target n [] h = tt
taken-rises target n (x ∷ l) h =
    by_cases (leb (n + x.size) target)
    (λ e. rw e (taken-all (λ y. less (by_rowset x) (by_rowset y) ≡ true) target (n + x.size) l h.0, taken-rises target (n + x.size) l h.1))
    (λ e. rw e (taken-rises target n l h.1))

-- no vector is shown at the start
start-bare : (rs : List ℕ) → lone_rowset 0 rs start ≡ false
start-bare rs = by_cases (leb (length rs) 1) (λ e. rw e) (λ e. rw e)

upwards-same : (target : ℕ) (l : List Sized) → selection_order l ≡ false → selection_wraps target l ≡ false → select target l ≡ selected_of target l
upwards-same target l h w =
    let up : ascending by_rowset l ≡ true = by_cases (ascending by_rowset l) (λ e. e) (λ e. clash (ap not e) h) in
    table_same target l w 0 start (start-bare (map sized_rowset_id (taken target l)))
    (λ e. ap (map sized_rowset_id) (arranged-sorted by_rowset (taken target l) (ascending-sorted by_rowset (taken target l) (taken-rises target 0 l (ascend-to by_rowset l up)))))

shown-same : (m : VersionManagerInner) → bad_inner m ≡ false → (t target : ℕ) (ns : List ℕ) → selection_wraps target (sized (rowsets_now t (state_of m)) ns) ≡ false
    → lone_rowset t (taken_now t target ns (state_of m)) (state_of m) ≡ false → select target (sized (rowsets_now t (state_of m)) ns) ≡ selected t target ns (state_of m)
shown-same m g t target ns w o =
    let l = sized (rowsets_now t (state_of m)) ns in
    let ids = map sized_rowset_id (taken target l) in
    table_same target l w t (state_of m) o
    (λ e.
    let more = more-compacted t ids (state_of m) (rw (length-map (taken target l) sized_rowset_id) e) in
    let up : ascending compactor.by_rowset ids ≡ true = rw more at (selected-rises m g t target ns) in
    arranged-ids (taken target l) ∙ arranged-sorted compactor.by_rowset ids (ascending-sorted compactor.by_rowset ids (ascend-to compactor.by_rowset ids up)))

-- they are those of the pairs
abbrev Pair : List ℕ → Type 0
Pair k = k ≡ get_or k 0 0 ∷ get_or k 1 0 ∷ []

pairs-now : (m : VersionManagerInner) → All Pair (pairs_at m.epoch (state_of m))
pairs-now m =
    let ps = m.rowsets in
    let f = entry_at (ps.tables ∷ ps.rowsets ∷ []) ps.added ps.deleted in
    all-mapped Pair (λ (x : Entry). x.ids) (keep (shown_by m.epoch) (rows f ps.count))
    (all_keep (λ (x : Entry). Pair x.ids) (shown_by m.epoch) (rows f ps.count) (rows_all f (λ (x : Entry). Pair x.ids) (λ i. refl) ps.count))

now-has : (t r : ℕ) (l : List (List ℕ)) → All Pair l → contains r (map (λ k. get_or k 1 0) (keep (λ k. eqb (get_or k 0 0) t) l)) ≡ has itself (t ∷ r ∷ []) l
now-has t r [] h = refl
now-has t r (k ∷ l) h =
    let ih = now-has t r l h.1 in
    let q : same k (t ∷ r ∷ []) ≡ eqb (get_or k 0 0) t && (eqb (get_or k 1 0) r && true) = ap (λ (x : List ℕ). same x (t ∷ r ∷ [])) h.0 in
    by_cases (eqb (get_or k 0 0) t)
    (λ e. by_cases (eqb (get_or k 1 0) r) (λ f. rw (q, e, f)) (λ f. rw (q, e, f) ih))
    (λ e. rw (q, e) ih)

set-walked : (m : VersionManagerInner) → bad_inner m ≡ false → (t : ℕ) (s : Snapshot) → ((r : ℕ) → has itself (t ∷ r ∷ []) (pairs_at m.epoch (state_of m)) ≡ has_rowset t r s)
    → in_memory (get_rowsets_of t s) ≡ rowsets_now t (state_of m)
set-walked m g t s h =
    let rs = rowsets_now t (state_of m) in
    laws-hold.one_form (get_rowsets_of t s) rs
    (λ r. is_in-contains (get_rowsets_of t s) r ∙ sym (h r) ∙ sym (now-has t r (pairs_at m.epoch (state_of m)) (pairs-now m)) ∙ sym (is_in-contains rs r))
    ∙ memory-of rs (rowsets-rise m g t)

fits_on : (target n : ℕ) (l : List Sized) → n + total l ≤ largest64 → wraps_on target n l ≡ false
fits_on target n [] h = refl
fits_on target n (x ∷ l) h =
    by_cases (leb (n + x.size) target)
    (λ e. rw (e, le-ltb largest64 (n + x.size) (omega arith)) (fits_on target (n + x.size) l (omega arith)))
    (λ e. rw (e, le-ltb largest64 (n + x.size) (omega arith)) (fits_on target n l (omega arith)))

-- All are taken.

whole-on : (target n : ℕ) (l : List Sized) → n + total l ≤ target → taken_on target n l ≡ l
whole-on target n [] h = refl
whole-on target n (x ∷ l) h = rw (le-leb (n + x.size) target (omega arith)) (ap (λ k. x ∷ k) (whole-on target (n + x.size) l (omega arith)))

total-placed : (x : Sized) (l : List Sized) → total (placed by_rowset x l) ≡ x.size + total l
total-placed x [] = refl
total-placed x (y ∷ l) =
    by_cases (less (by_rowset y) (by_rowset x))
    (λ e. let h = total-placed x l in rw e (omega arith))
    (λ e. rw e)

total-arranged : (l : List Sized) → total (arranged by_rowset l) ≡ total l
total-arranged [] = refl
total-arranged (x ∷ l) = let h = total-placed x (arranged by_rowset l) in let k = total-arranged l in omega arith

all_same : (target : ℕ) (l : List Sized) → total l ≤ target → target ≤ largest64 → select target l ≡ selected_of target (arranged by_rowset l)
all_same target l h k =
    let s = arranged by_rowset l in
    let w : selection_wraps target l ≡ false = fits_on target 0 l (omega arith) in
    let c : taken target l ≡ l = whole-on target 0 l (omega arith) in
    let d : taken target s ≡ s = whole-on target 0 s (let q = total-arranged l in omega arith) in
    let n : length s ≡ length l = length-arranged by_rowset l in
    let m : leb (length (map sized_rowset_id s)) 1 ≡ leb (length l) 1 = rw (length-map s sized_rowset_id, n) in
    table_taken target l w
    ∙ ap (λ (x : List Sized). cond (leb (length x) 1) [] (map sized_rowset_id (arranged by_rowset x))) c
    ∙ rw d
    (by_cases (leb (length l) 1)
    (λ e. rw e (sym (few-compacted 0 (map sized_rowset_id s) start refl (m ∙ e))))
    (λ e. rw e (sym (more-compacted 0 (map sized_rowset_id s) start (m ∙ e)))))

pub selections : SelectionLaws
unfolding gone_at shown_at
selections =
    record {
      same = upwards-same;
      few = λ target l w h. table_taken target l w ∙ rw (le-leb (length (taken target l)) 1 h);
      shown = shown-same;
      walked = set-walked;
      fits = λ target l h. fits_on target 0 l (omega arith);
      all = all_same;
      order = record { apart = refl; alike = refl; fits = refl; rust = refl; port = refl };
      wraps = record { apart = refl; ordered = refl; rust = refl; port = refl };
      lone = record { apart = refl; fits = refl; rust = refl; port = refl };
    }
