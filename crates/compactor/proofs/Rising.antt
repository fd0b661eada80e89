-- What is selected of a state that passes 29 rises strictly. Assumes nothing.
use mathlib.Core.Path.{◌≡◌, refl, sym, subst, ◌∙◌}
use mathlib.Core.Bool.{true, false, ◌||◌}
use mathlib.Core.List.{List, [], ◌∷◌, map}
use Prim.Native.Nat.{ℕ}
use lib.Dec.{leb}
use lib.ListN.{length, get_or}
use borrow.Author.Tests.{eqb-true}
use Rattle.lists.specs.Order.{lex, less}
use Rattle.lists.specs.Keyed.{keep, ascending}
use Rattle.lists.proofs.Tests.{by_cases}
use Rattle.lists.proofs.Order.{lex-eq}
use Rattle.lists.proofs.Keyed.{All, Ascending, all_keep, all-mapped, kept-all, ascend-to, ascend-from, ascending-keep}
use Rattle.columns.proofs.Rows.{rows_all}
use Rattle.snapshot.specs.Entries.{Entry, by_ids, shown_by, of_table, entry_at}
use Rattle.version_state.specs.declared.VersionManagerInner.{VersionManagerInner}
use Rattle.version_state.specs.State.{State, state_of}
use Rattle.version_state.specs.Sound.{bad_inner}
use Rattle.version_state.proofs.Facts.{sound-of}
use Rattle.compactor.specs.Selection.{Sized, taken, sized, rowsets_now, taken_now, any_over, compacted, selected}
use Rattle.compactor.specs.Laws.{by_rowset, Part, none, more, past}
use Rattle.compactor.proofs.Taking.{rowset_in, rowset_at}
use Rattle.compactor.proofs.Selecting.{rowsets-shown}
use Rattle.compactor.proofs.Laws.{part-on}

abbrev by_sized : Sized → List ℕ
by_sized x = by_rowset x.rowset

-- some of a rising list
part-all : (P : Sized → Type 0) {k l : List Sized} → Part k l → All P l → All P k
part-all P none h = tt
part-all P (more p) h = (h.0, part-all P p h.1)
part-all P (past p) h = part-all P p h.1

part-rising : {k l : List Sized} → Part k l → Ascending by_sized l → Ascending by_sized k
part-rising none h = tt
part-rising (more {x} p) h = (part-all (λ y. less (by_sized x) (by_sized y) ≡ true) p h.0, part-rising p h.1)
part-rising (past p) h = part-rising p h.1

sized-all : (P : ℕ → Type 0) (rs ns : List ℕ) → All P rs → All (λ x. P x.rowset) (sized rs ns)
sized-all P [] ns h = tt
sized-all P (r ∷ rs) [] h = tt
sized-all P (r ∷ rs) (n ∷ ns) h = (h.0, sized-all P rs ns h.1)

sized-rising : (rs ns : List ℕ) → Ascending by_rowset rs → Ascending by_sized (sized rs ns)
sized-rising [] ns h = tt
sized-rising (r ∷ rs) [] h = tt
sized-rising (r ∷ rs) (n ∷ ns) h = (sized-all (λ y. less (by_rowset r) (by_rowset y) ≡ true) rs ns h.0, sized-rising rs ns h.1)

compacted-rising : (t : ℕ) (rs : List ℕ) (s : State) → Ascending by_rowset rs → Ascending by_rowset (compacted t rs s)
compacted-rising t rs s h = by_cases (leb 2 (length rs) || any_over t rs s) (λ e. rw e h) (λ e. rw e tt)

mapped-rising : (l : List Sized) → Ascending by_sized l → Ascending by_rowset (map rowset_in l)
mapped-rising [] h = tt
mapped-rising (x ∷ l) h = (all-mapped (λ y. less (by_sized x) (by_rowset y) ≡ true) rowset_in l h.0, mapped-rising l h.1)

-- an entry of two ids, as a pair is
abbrev Pair : Entry → Type 0
Pair x = x.ids ≡ get_or x.ids 0 0 ∷ rowset_at x ∷ []

-- the rowsets of one table among pairs that rise
module _ (t : ℕ) where
  after-it : (x : Entry) (l : List Entry) → Pair x → of_table t x ≡ true → All (λ y. less x.ids y.ids ≡ true) l → All (λ y. of_table t y ≡ true) l → All Pair l
      → All (λ y. less (by_rowset (rowset_at x)) (by_rowset (rowset_at y)) ≡ true) l
  after-it x [] p e a b c = tt
  after-it x (y ∷ l) p e a b c =
      let r = less (by_rowset (rowset_at x)) (by_rowset (rowset_at y)) in
      let q : lex t t r ≡ true = rw (p, c.0, eqb-true (get_or x.ids 0 0) t e, eqb-true (get_or y.ids 0 0) t b.0) at a.0 in
      (sym (lex-eq t r) ∙ q, after-it x l p e a.1 b.1 c.1)

  run-rising : (l : List Entry) → Ascending by_ids l → All (λ x. of_table t x ≡ true) l → All Pair l → Ascending by_rowset (map rowset_at l)
  run-rising [] s h p = tt
  run-rising (x ∷ l) s h p =
      (all-mapped (λ y. less (by_rowset (rowset_at x)) (by_rowset y) ≡ true) rowset_at l (after-it x l p.0 h.0 s.0 h.1 p.1), run-rising l s.1 h.1 p.1)

module _ (m : VersionManagerInner) (h : bad_inner m ≡ false) (t : ℕ) where
  pub rowsets-rise : Ascending by_rowset (rowsets_now t (state_of m))
  rowsets-rise =
      let p = m.rowsets in
      let held = (state_of m).pairs in
      let shown = keep (shown_by m.epoch) held in
      let pairs : All Pair held = rows_all (entry_at (p.tables ∷ p.rowsets ∷ []) p.added p.deleted) Pair (λ i. refl) p.count in
      let run = run-rising t (keep (of_table t) shown)
      (ascending-keep by_ids (of_table t) shown (ascending-keep by_ids (shown_by m.epoch) held (ascend-to by_ids held (sound-of m h).ordered.pairs)))
      (kept-all (of_table t) shown)
      (all_keep Pair (of_table t) shown (all_keep Pair (shown_by m.epoch) held pairs)) in
      subst (Ascending by_rowset) (rowsets-shown t (state_of m)) run

  pub selected-rises : (target : ℕ) (ns : List ℕ) → ascending by_rowset (selected t target ns (state_of m)) ≡ true
  selected-rises target ns =
      let l = sized (rowsets_now t (state_of m)) ns in
      let rising = mapped-rising (taken target l) (part-rising (part-on target 0 l) (sized-rising (rowsets_now t (state_of m)) ns rowsets-rise)) in
      ascend-from by_rowset (selected t target ns (state_of m)) (compacted-rising t (taken_now t target ns (state_of m)) (state_of m) rising)
